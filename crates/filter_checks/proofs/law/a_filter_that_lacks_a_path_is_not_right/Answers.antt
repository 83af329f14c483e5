use Rattle.std.proofs.Common.{sym, subst, inl, inr}
use Rattle.tree_changes.specs.Changes.{IsChangedText}
use Rattle.path_filters.specs.Touched.{IsTouched}
use Rattle.filter_checks.specs.RightFilters.{root_tree_at, parent_tree_at}
use Rattle.filter_checks.proofs.AnswerLemmas.{not_both}
use Rattle.filter_checks.proofs.law.a_filter_that_lacks_a_path_is_not_right.Goals as goal

pub returns : goal.returns
returns c = λ world layers all p path computed lack right.
    let IsOneChanged = IsChangedText world (parent_tree_at layers p) (root_tree_at layers p) in
    let touched : IsTouched IsOneChanged path = elim lack.first.along [
      | inl e ↦ inl (subst IsOneChanged (sym e) lack.is_changed)
      | inr leads ↦ inr (lack.changed, lack.is_changed, leads)
    ] in
    not_both all p path (right computed path touched) lack.first.absent
