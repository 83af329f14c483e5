use Rattle.std.proofs.Common.{◌≡◌, ℕ, ◌+◌, ◌<◌, List, length}
use Rattle.graph_walks.specs.History.{Node}
use Rattle.commit_search.specs.Queue.{IsQueue, Depth}
use Rattle.commit_search.specs.Search.{queued_by}
use Rattle.commit_search.proofs.StepLemmas.{Gathers}
use Rattle.commit_search.proofs.search.Search.walk_to.Given as goal

-- what was gathered, turned round, is a walk to the end, and as long as the steps taken
abbrev pub invariant-loop-reached : goal.invariant-loop-reached
invariant-loop-reached g l = record {
  within : l.reached < length (queued_by l.self);
  walk : (history : List Node) (least : ℕ) → IsQueue history least (queued_by l.self)
      → Gathers history (queued_by l.self) l.reached l.place l.walk.items;
  steps : (d : ℕ) → Depth (queued_by l.self) l.reached d → (n : ℕ) × Depth (queued_by l.self) l.place n
      × (length l.walk.items + d ≡ n + 1);
}

abbrev pub decreases-loop-reached : goal.decreases-loop-reached
decreases-loop-reached g l = l.reached
