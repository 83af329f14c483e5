-- Corrected commit dates ("corrected commit date", generation number v2, in Git's commit-graph design): the committer's time of
-- a commit, raised where it is not above the dates of all its parents. Times and dates are in seconds since 1970-01-01 00:00:00
-- UTC, in the order of the commits of a history.
use Rattle.std.specs.Prelude.{◌≡◌, ℕ, ◌+◌, ◌-◌, ◌<◌, ◌≤◌, List, length, map, max, slice_index_or}
use Rattle.graph_walks.specs.Counts.{greatest}
use Rattle.graph_walks.specs.History.{Node, parents_at}
use Rattle.graph_walks.specs.Walks.{IsWalkBetween}

-- the number at a position, 0 past the last one
abbrev pub number_at : List ℕ → ℕ → ℕ
number_at numbers p = slice_index_or numbers p 0

-- the commit's time, or one more than the greatest date of its parents (0 where there are none), whichever is later
unfoldable pub expected_date : List Node → List ℕ → List ℕ → ℕ → ℕ
expected_date history times dates p = max (number_at times p) (1 + greatest (map (number_at dates) (parents_at history p)))

-- There is a date for each commit, and each is the one that is expected.
pub record AreRight (history : List Node) (times dates : List ℕ) : Type 0 where
  pub as_many : length dates ≡ length history
  pub expected : (p : ℕ) → p < length history → number_at dates p ≡ expected_date history times dates p

-- the least date that the first commit of a walk can have if the walk ends at a commit with this time: that time, or 1 where it
-- is 0, and a second for each step
abbrev pub date_by_walk : ℕ → List ℕ → ℕ
date_by_walk time walk = max 1 time + (length walk - 1)

-- d is the greatest of these dates over all walks from p
pub record IsGreatestDate (history : List Node) (times : List ℕ) (p d : ℕ) : Type 0 where
  pub reached : (q : ℕ) × (walk : List ℕ) × IsWalkBetween history p q walk × (d ≡ date_by_walk (number_at times q) walk)
  pub greatest : (q : ℕ) (walk : List ℕ) → IsWalkBetween history p q walk → date_by_walk (number_at times q) walk ≤ d

-- There is a date for each commit, and each is the greatest over all walks from it.
pub record AreGreatest (history : List Node) (times dates : List ℕ) : Type 0 where
  pub as_many : length dates ≡ length history
  pub each : (p : ℕ) → p < length history → IsGreatestDate history times p (number_at dates p)
