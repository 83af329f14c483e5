use Rattle.std.proofs.Common.{◌≡◌, ◌<◌, ℕ, List, Some, slice_get}
use Rattle.graph_levels.specs.ParentLists.{commit_count, parent_list}
use Rattle.commit_requests.specs.Placing.{HasNumbers}
use Rattle.commit_requests.proofs.lists.parent_lists.Given as goal

-- those of the first commits
abbrev pub invariant-loop-number : goal.invariant-loop-number
invariant-loop-number l =
    record {
      as_many : commit_count l.lists ≡ l.number;
      each : (i : ℕ) (bytes : List ℕ) → i < l.number → slice_get l.held i ≡ Some bytes
          → HasNumbers l.kind l.requests.asked bytes (parent_list l.lists i);
    }
