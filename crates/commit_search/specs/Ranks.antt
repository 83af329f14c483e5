-- A number of each commit by which a search orders commits, or leaves some out: Git's "generation number" in either of its two
-- versions, a topological level or a corrected commit date (Git's commit-graph design).
use Rattle.std.specs.Prelude.{ℕ, ◌<◌, ◌≤◌, min, List, length}
use Rattle.graph_walks.specs.declared.TheConstants.{GENERATION_NUMBER_MAX}
use Rattle.graph_walks.specs.Dates.{number_at}
use Rattle.graph_walks.specs.History.{Node, IsParent, generation_at}

-- The rank of each commit, by its position, and the greatest that there may be.
pub record Ranking : Type 0 where
  pub rank : ℕ → ℕ
  pub cap : ℕ

-- The rank of a commit below the cap is greater than that of each of its parents. None is above the cap.
pub record FallsAlongParents (history : List Node) (ranking : Ranking) : Type 0 where
  pub capped : (p : ℕ) → p < length history → ranking.rank p ≤ ranking.cap
  pub falls : (p q : ℕ) → IsParent history p q → ranking.rank p < ranking.cap → ranking.rank q < ranking.rank p

-- the generation numbers
abbrev pub by_generation : List Node → Ranking
by_generation history = record { rank = generation_at history; cap = GENERATION_NUMBER_MAX }

-- the corrected dates, up to the greatest number of 64 bits
abbrev pub by_date : List ℕ → Ranking
by_date dates = record { rank = λ p. min (number_at dates p) 18446744073709551615; cap = 18446744073709551615 }
