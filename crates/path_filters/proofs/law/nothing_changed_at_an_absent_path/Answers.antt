use Rattle.std.proofs.Common.{inl, inr}
use Rattle.tree_changes.specs.Changes.{IsChangedText}
use Rattle.path_filters.proofs.MadeLemmas.{absent_is_untouched}
use Rattle.path_filters.proofs.law.nothing_changed_at_an_absent_path.Goals as goal

pub returns : goal.returns
returns c = λ version hashes world old new filter path right absent.
    let none = absent_is_untouched version hashes (IsChangedText world old new) filter path right absent in
    (λ changed. none (inl changed), λ below leads changed. none (inr (below, changed, leads)))
