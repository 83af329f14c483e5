use Rattle.std.proofs.Common.{◌≡◌, ℕ, List, Option, Some, None, inr, nat_eq, sym, ap, ◌∙◌, subst, length, arith}
use Rattle.std.specs.Cmp.Lexicographic.{pointwise}
use Rattle.std.specs.HashMap.{get}
use Rattle.std.specs.Map.{lookup}
use Rattle.std.proofs.lemmas.List.{length-map}
use Rattle.gix_chunk_core.proofs.FirstFaultLemmas.{first_below-none, first_below-none_more, first_below-found}
use Rattle.graph_writer.specs.NewCommits.{new_ids}
use Rattle.graph_writer.specs.WriteRefusal.{twice_at}
use Rattle.graph_writer.specs.declared.commit.NewCommit.{NewCommit}
use Rattle.graph_writer.proofs.positions.HandedSteps.{said-at}
use Rattle.graph_writer.proofs.positions.NewIdSteps.{twice-from}
use Rattle.graph_writer.proofs.positions.NumberSteps.{AreNumbers, numbers-none, numbers-more, numbers-once}
use Rattle.graph_writer.proofs.positions.NumberSteps.{numbers-twice, numbers-scan}
use Rattle.graph_writer.proofs.numbers.numbers_of.Goals as goal

pub loop-number-init : goal.loop-number-init
loop-number-init g c = record {
  numbers = numbers-none _ _ (λ q. ap (lookup (pointwise nat_eq q)) c.in_ok-numbers.ensures.empty);
  once = first_below-none _;
}

pub returns-in-Ok-Some-clause-twice : goal.returns-in-Ok-Some-clause-twice
returns-in-Ok-Some-clause-twice g c =
    let commits = c.args.commits.now in
    let i = c.loop-number.number in
    let id : List ℕ = c.to_owned.result in
    let inv = c.loop-number.invariant in
    let here = said-at commits i c.at-commit.result id c.at-commit.ensures (c.to_owned.ensures ∙ c.id.ensures) in
    let known : get (pointwise nat_eq) c.loop-number.numbers id ≡ Some c.in-Ok-Some.earlier =
    sym c.in-Ok-Some.ensures.old ∙ c.in-Ok-Some.field-0-is in
    inr
    (first_below-found (twice_at commits) i (length commits) _ inv.once
    (twice-from commits i id _ here
    (numbers-twice (new_ids commits) i (get (pointwise nat_eq) c.loop-number.numbers) inv.numbers id
    c.in-Ok-Some.earlier known))
    (omega (arith, c.len.ensures)))

pub loop-number-preserved : goal.loop-number-preserved
loop-number-preserved g c =
    let commits = c.args.commits.now in
    let i = c.loop-number.number in
    let id : List ℕ = c.to_owned.result in
    let inv = c.loop-number.invariant in
    let here = said-at commits i c.at-commit.result id c.at-commit.ensures (c.to_owned.ensures ∙ c.id.ensures) in
    let f : List ℕ → Option ℕ = get (pointwise nat_eq) c.loop-number.numbers in
    let new : f id ≡ None = sym c.in-Ok-None.ensures.old ∙ c.in-Ok-None.field-0-is in
    record {
      numbers =
          numbers-more (new_ids commits) i f inv.numbers id (get (pointwise nat_eq) c.insert.new.self) here new
          (λ q. c.in-Ok-None.ensures.updates.0 q);
      once =
          first_below-none_more (twice_at commits) i inv.once
          (twice-from commits i id _ here (numbers-once (new_ids commits) i f inv.numbers id new));
    }

pub returns-clause-numbers : goal.returns-clause-numbers
returns-clause-numbers g c q =
    let commits = c.args.commits.now in
    let f : List ℕ → Option ℕ = get (pointwise nat_eq) c.loop-number.numbers in
    let all : c.loop-number.number ≡ length (new_ids commits) =
    omega (arith, length-map commits (λ (commit : NewCommit). commit.id), c.loop-number.auto.number-end, c.len.ensures) in
    numbers-scan (new_ids commits) f
    (subst (λ (n : ℕ). AreNumbers (new_ids commits) n f) all c.loop-number.invariant.numbers) q
