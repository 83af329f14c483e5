-- A search for levels, as the value of its type. For private contracts alone.
use Rattle.std.specs.Prelude.{◌≡◌, ℕ, ◌-◌, ◌<◌, true, false, List, length, slice_index, slice_index_or}
use Rattle.graph_levels.specs.declared.search.Search.{Search}
use Rattle.graph_levels.specs.declared.level.State.{State}
use Rattle.graph_levels.specs.declared.level.State.TheVariants.{Unseen}
use Rattle.graph_levels.specs.declared.level.Frame.{Frame}
use Rattle.graph_levels.specs.OnTop.{FitTogether}
use Rattle.graph_levels.specs.declared.level.Visit.{Visit}
use Rattle.graph_levels.specs.declared.lists.ParentLists.{ParentLists}
use Rattle.graph_levels.specs.ParentLists.{commit_count, parent_list}
use Rattle.graph_levels.specs.SearchStates.{IsSearch, state_at, has_level, is_unseen, work_left, frame_at}

-- what the search knows of the commit at a position
abbrev pub state_in : Search → ℕ → State
state_in s p = state_at s.below.now s.states.items p

-- that commit has its level
abbrev pub HasLevel : Search → ℕ → Type 0
HasLevel s p = has_level (state_in s p) ≡ true

-- what the search has found is right so far
abbrev pub IsUnderWay : Search → Type 0
IsUnderWay s = IsSearch s.below.now s.parents.now s.times.now s.states.items s.stack.items

-- what it was asked fits together
abbrev pub HasFittingInput : Search → Type 0
HasFittingInput s = FitTogether s.below.now s.parents.now s.times.now

-- how many steps it takes at most
abbrev pub steps_left : Search → ℕ
steps_left s = work_left s.states.items s.stack.items

-- the frame of the commit whose parents are being gone through now
abbrev pub frame_on_top : Search → Frame
frame_on_top s = frame_at s.stack.items (length s.stack.items - 1)

-- the parents of that commit
abbrev pub parents_on_top : Search → List ℕ
parents_on_top s = parent_list s.parents.now (frame_on_top s).commit

-- The commits, their parents and times are the same, and what was seen still is.
pub record ContinuesSearch (old new : Search) : Type 0 where
  pub below : new.below ≡ old.below
  pub parents : new.parents ≡ old.parents
  pub times : new.times ≡ old.times
  pub seen : (i : ℕ) → is_unseen (slice_index_or old.states.items i Unseen) ≡ false
      → is_unseen (slice_index_or new.states.items i Unseen) ≡ false

-- What is read for a visit is what is known of the commit.
pub record IsVisit (lists : ParentLists) (times : List ℕ) (visit : Visit) : Type 0 where
  pub within : visit.commit < commit_count lists
  pub parents : visit.parents.now ≡ parent_list lists visit.commit
  pub time : visit.time ≡ slice_index times visit.commit
