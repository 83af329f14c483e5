use Rattle.std.proofs.Common.{ℕ, List, arith}
use Rattle.std.proofs.lemmas.List.Elements.{All-contains}
use Rattle.std.proofs.lemmas.Option.{slice_get_within}
use Rattle.commit_objects.specs.CommitContents.{Said, Says}
use Rattle.commit_requests.proofs.ListSteps.{contains_from_get}
use Rattle.commit_requests.proofs.lists.parent_lists.Goals as goal

pub put_numbers-requires-clause-readable : goal.put_numbers-requires-clause-readable
put_numbers-requires-clause-readable c =
    All-contains (λ (bytes : List ℕ). (said : Said) × Says c.args.kind bytes said) c.args.held.now c.of.result.now
    c.requires.readable (contains_from_get c.args.held.now c.loop-number.number c.of.result.now c.of.ensures)

pub returns : goal.returns
returns c =
    record {
      as_many = omega (arith, c.loop-number.invariant.as_many, c.loop-number-test.false);
      each = λ i bytes at.
          c.loop-number.invariant.each i bytes
          (omega (arith, slice_get_within c.args.held.now i bytes at, c.loop-number-test.false)) at;
    }
