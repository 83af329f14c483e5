-- the statistics of some commits
use Rattle.std.specs.Prelude.{◌≡◌, ℕ, ◌<◌, ◌≤◌, All, List, length}
use Rattle.graph_walks.specs.Counts.{greatest, count_of}
use Rattle.graph_layer.specs.ParentCounts.{counted}
use Rattle.graph_walks.specs.History.{Node, generations, parent_numbers}
use Rattle.graph_walks.specs.declared.TheConstants.{GENERATION_NUMBER_MAX}
use Rattle.gix_commitgraph.specs.declared.verify.statistics.Statistics.{Statistics}

-- The statistics of the commits so far.
pub record AreStatistics (seen : List Node) (statistics : Statistics) : Type 0 where
  pub max_generation : statistics.max_generation ≡ greatest (generations seen)
  pub num_commits : statistics.num_commits ≡ length seen
  pub parent_counts : (k : ℕ) → counted statistics.parent_counts k ≡ count_of (parent_numbers seen) k

-- each generation number is at least 1, and at most the cap
abbrev pub AreNumbered : List Node → Type 0
AreNumbered seen = All (λ node. (0 < node.generation) × (node.generation ≤ GENERATION_NUMBER_MAX)) seen
