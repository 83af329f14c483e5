use Rattle.std.proofs.Common.{◌≡◌, ◌++◌}
use Rattle.commit_requests.specs.Placing.{AreNumbersIn}
use Rattle.commit_requests.proofs.lists.push_numbers.Given as goal

-- those of the first parents
abbrev pub invariant-loop-id : goal.invariant-loop-id
invariant-loop-id l =
    record {
      can_next : (goal.iterator-loop-id).can_next l.id-iterator;
      is_finite : (goal.iterator-loop-id).is_finite l.id-iterator;
      left : l.yielded ++ l.id-iterator ≡ l.fn.parents;
      numbers : AreNumbersIn l.requests.asked l.yielded l.numbers.items;
    }
