-- what the statistics of some commits of a layer are
use Rattle.std.specs.Prelude.{◌≡◌, ℕ, List, length}
use Rattle.graph_walks.specs.Counts.{greatest, least, count_of}
use Rattle.graph_walks.specs.History.{Node, generations, parent_numbers}
use Rattle.graph_layer.specs.ParentCounts.{counted}
use Rattle.graph_layer.specs.declared.file.verify.statistics.Statistics.{Statistics}

-- The statistics of the commits so far.
pub record AreLayerStatistics (seen : List Node) (statistics : Statistics) : Type 0 where
  pub max_generation : statistics.max_generation ≡ greatest (generations seen)
  pub min_generation : statistics.min_generation ≡ least (generations seen)
  pub max_parents : statistics.max_parents ≡ greatest (parent_numbers seen)
  pub num_commits : statistics.num_commits ≡ length seen
  pub parent_counts : (k : ℕ) → counted statistics.parent_counts k ≡ count_of (parent_numbers seen) k
