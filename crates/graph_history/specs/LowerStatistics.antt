-- The statistics of commits that were checked before. For private contracts alone.
use Rattle.std.specs.Prelude.{◌≡◌, ℕ, List, length}
use Rattle.graph_walks.specs.Counts.{greatest, count_of}
use Rattle.graph_walks.specs.History.{Node, generations, parent_numbers}
use Rattle.graph_layer.specs.ParentCounts.{counted}
use Rattle.graph_history.specs.declared.lower.LowerStatistics.{LowerStatistics}

-- The statistics of the commits so far.
pub record AreLowerStatistics (seen : List Node) (statistics : LowerStatistics) : Type 0 where
  pub max_generation : statistics.max_generation ≡ greatest (generations seen)
  pub num_commits : statistics.num_commits ≡ length seen
  pub parent_counts : (k : ℕ) → counted statistics.parent_counts k ≡ count_of (parent_numbers seen) k
