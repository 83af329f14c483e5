use Rattle.std.proofs.Common.{◌∷◌, [], sym, eqb-true, arith}
use Rattle.commit_search.specs.WalkAnswer.{IsAtOrAbove}
use Rattle.commit_search.proofs.KnownAnswerLemmas.{one_walk, none_is_visited, none_is_above}
use Rattle.commit_search.proofs.any.MarkSearcher.told_within.Goals as goal

pub returns-then-eq-clause-once : goal.returns-then-eq-clause-once
returns-then-eq-clause-once g c = λ t said. none_is_visited (IsAtOrAbove t.history c.args.descendant.0 c.args.ancestor.0)

pub returns-then-eq-clause-yes : goal.returns-then-eq-clause-yes
returns-then-eq-clause-yes g c = λ t said found.
    let told = c.num_commits-commits.ensures.told t said in
    let p = c.args.descendant.0 in
    (p ∷ [], one_walk t.history p c.args.ancestor.0 (eqb-true _ _ (sym c.if-eq.ensures)) (omega arith), omega arith)

pub returns-in_default-clause-once : goal.returns-in_default-clause-once
returns-in_default-clause-once g c = λ t said. none_is_visited (IsAtOrAbove t.history c.args.descendant.0 c.args.ancestor.0)

pub returns-in_default-clause-above : goal.returns-in_default-clause-above
returns-in_default-clause-above g c = λ t said right no.
    none_is_above t.history c.args.descendant.0 c.args.ancestor.0
    right.never_rise
    ((rw c.in_default.is at c.in_ok-least.ensures.below) t said)
