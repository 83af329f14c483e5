-- New commits on top of others: positions count the others first, and then the new ones. What is said here holds in each history
-- that has these commits on top, whatever else it has. ("topological level" and "corrected commit date" in Git's commit-graph
-- design.)
use Rattle.std.specs.Prelude.{◌≡◌, ℕ, ◌+◌, ◌<◌, ◌≤◌, ◌^◌, List, length, slice_index, slice_index_or, All}
use Rattle.graph_walks.specs.History.{Node, parents_at, generation_at}
use Rattle.graph_walks.specs.Generations.{expected_generation}
use Rattle.graph_walks.specs.Dates.{number_at, expected_date}
use Rattle.graph_walks.specs.Walks.{IsProperAncestor}
use Rattle.graph_levels.specs.declared.level.Level.{Level}
use Rattle.graph_levels.specs.declared.level.LevelsError.{LevelsError}
use Rattle.graph_levels.specs.declared.level.LevelsError.TheVariants.{Cycle, OutOfMemory}
use Rattle.graph_levels.specs.declared.lists.ParentLists.{ParentLists}
use Rattle.graph_levels.specs.ParentLists.{commit_count, parent_list}

-- the level at a position, none past the last one
abbrev pub no_level : Level
no_level = record { generation = 0; date = 0 }

abbrev pub level_at : List Level → ℕ → Level
level_at levels p = slice_index_or levels p no_level

-- Each parent is a commit, each new commit has a time, and there are few enough commits, with times and dates early enough, for
-- 32 and 64 bits.
pub record FitTogether (below : List Level) (parents : ParentLists) (times : List ℕ) : Type 0 where
  pub within : (i : ℕ) → i < commit_count parents → All (λ q. q < length below + commit_count parents) (parent_list parents i)
  pub timed : length times ≡ commit_count parents
  pub few : length below + commit_count parents < 2 ^ 32
  pub early : All (λ time. time < 2 ^ 63) times
  pub dates : All (λ level. level.date < 2 ^ 63) below

-- After so many commits of the history come those with these parents.
pub record HasOnTop (history : List Node) (base : ℕ) (parents : ParentLists) : Type 0 where
  pub as_many : length history ≡ base + commit_count parents
  pub own : (i : ℕ) → i < commit_count parents → parents_at history (base + i) ≡ parent_list parents i

-- The generation numbers of the history are those of these levels, and those of the lower commits are as expected.
pub record HasLevelGenerations (history : List Node) (below own : List Level) : Type 0 where
  pub lower : (p : ℕ) → p < length below → generation_at history p ≡ (level_at below p).generation
  pub upper : (i : ℕ) → i < length own → generation_at history (length below + i) ≡ (level_at own i).generation
  pub right : (p : ℕ) → p < length below → generation_at history p ≡ expected_generation history p

-- So are its dates, and the new commits have these times.
pub record HasLevelDates (history : List Node) (all dates : List ℕ) (below own : List Level) (times : List ℕ) : Type 0 where
  pub as_many : length dates ≡ length history
  pub lower : (p : ℕ) → p < length below → number_at dates p ≡ (level_at below p).date
  pub upper : (i : ℕ) → i < length own → number_at dates (length below + i) ≡ (level_at own i).date
  pub upper_times : (i : ℕ) → i < length own → number_at all (length below + i) ≡ slice_index times i
  pub right : (p : ℕ) → p < length below → number_at dates p ≡ expected_date history all dates p

-- Parents of the lower commits are lower commits.
abbrev pub AreClosedBelow : List Node → ℕ → Type 0
AreClosedBelow history base = (p : ℕ) → p < base → All (λ q. q < base) (parents_at history p)

-- No new commit is its own proper ancestor.
abbrev pub HasNoCycleOnTop : List Node → ℕ → Type 0
HasNoCycleOnTop history base = (p : ℕ) → base ≤ p → ¬ IsProperAncestor history p p

-- Of a cycle one new commit is named that is its own proper ancestor.
abbrev pub IsLevelsRefusal : ℕ → ParentLists → LevelsError → Type 0
IsLevelsRefusal base parents (Cycle p) =
    (base ≤ p) × (p < base + commit_count parents)
    × ((history : List Node) → HasOnTop history base parents → IsProperAncestor history p p)
IsLevelsRefusal base parents OutOfMemory = Unit {0}
