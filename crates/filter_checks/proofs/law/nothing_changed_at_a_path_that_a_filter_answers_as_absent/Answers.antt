use Rattle.std.proofs.Common.{inl, inr}
use Rattle.tree_changes.specs.Changes.{IsChangedText}
use Rattle.path_filters.specs.Touched.{IsTouched}
use Rattle.filter_checks.specs.RightFilters.{root_tree_at, parent_tree_at}
use Rattle.filter_checks.proofs.AnswerLemmas.{not_both}
use Rattle.filter_checks.proofs.law.nothing_changed_at_a_path_that_a_filter_answers_as_absent.Goals as goal

pub returns : goal.returns
returns c = λ world layers all p path right within computed absent.
    let IsOneChanged = IsChangedText world (parent_tree_at layers p) (root_tree_at layers p) in
    let none : ¬ IsTouched IsOneChanged path = λ touched. not_both all p path (right p within computed path touched) absent in
    (λ changed. none (inl changed), λ below leads changed. none (inr (below, changed, leads)))
