use Rattle.std.proofs.Common.{◌≡◌, ℕ, ◌+◌, List, [], ◌∷◌, ◌++◌, sym, ap, ◌∙◌, subst, take, rules}
use Rattle.std.proofs.lemmas.List.{take_more}
use Rattle.std.proofs.lemmas.Bool.{both_ways}
use Rattle.gix_hash_core.specs.Oid.{oid_bytes}
use Rattle.graph_uses.specs.IdAnswers.{IsMergedInto}
use Rattle.commit_search.proofs.KnownAnswerLemmas.{always_err}
use Rattle.graph_uses.proofs.SelectionLemmas.{those_with, those_without, merged_has_commit}
use Rattle.graph_uses.proofs.reaching.merged.Goals as goal
use Rattle.graph_uses.proofs.reaching.merged.Goals.{then-branch+in_ok-push, else-branch}

pub returns-in_err-push-clause-refused : goal.returns-in_err-push-clause-refused
returns-in_err-push-clause-refused c =
    always_err c.from_residual-in_err-push.result
    (merged_has_commit c.args.graph.now.layers (oid_bytes c.args.into) (oid_bytes c.as_oid.result)
    (c.in_ok-is_merged.ensures.answer.0 c.if-branch.true))

pub loop-commit-preserved : goal.loop-commit-preserved
loop-commit-preserved c =
    let layers = c.args.graph.now.layers in
    let into = oid_bytes c.args.into in
    let commits = c.args.commits.now in
    let i = c.loop-commit.commit-index in
    let commit = c.commit-item.result in
    let P : List ℕ → Type 0 = IsMergedInto layers into in
    let more : take (i + 1) commits ≡ take i commits ++ commit ∷ [] =
    take_more commits i commit c.loop-commit-test.true ∙ ap (λ (x : List ℕ). take i commits ++ x ∷ []) (sym c.commit-item.is) in
    elim c.if-branch.branch [
      | then-branch+in_ok-push w ↦
          let has : P commit = subst P c.as_oid.ensures (c.in_ok-is_merged.ensures.answer.0 w.if-branch.true) in
          let pushed : c.if-branch.merged.items ≡ c.loop-commit.merged.items ++ commit ∷ [] = search rules in
          rw (more, pushed) (those_with P (take i commits) c.loop-commit.merged.items commit c.loop-commit.invariant has)
      | else-branch w ↦
          let not : ¬ P commit =
          λ has.
          both_ways c.in_ok-is_merged.field-0 w.if-branch.false
          (c.in_ok-is_merged.ensures.answer.1 (subst P (sym c.as_oid.ensures) has)) in
          let kept : c.if-branch.merged.items ≡ c.loop-commit.merged.items = search rules in
          rw (more, kept) (those_without P (take i commits) c.loop-commit.merged.items commit c.loop-commit.invariant not)
    ]
