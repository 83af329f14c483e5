-- What a search for levels knows of each new commit, and the stack of those whose parents it is going through. For private
-- contracts alone.
use Rattle.std.specs.Prelude.{◌≡◌, ◌≢◌, ℕ, ◌+◌, ◌*◌, ◌-◌, ◌^◌, ◌<◌, ◌≤◌, Bool, true, false, nat_lt, if◌then◌else◌, List, length}
use Rattle.std.specs.Prelude.{map, min, max, count_by, slice_index, slice_index_or, Contains}
use Rattle.graph_walks.specs.Counts.{greatest}
use Rattle.graph_walks.specs.declared.TheConstants.{GENERATION_NUMBER_MAX}
use Rattle.graph_levels.specs.declared.level.Level.{Level}
use Rattle.graph_levels.specs.declared.level.State.{State}
use Rattle.graph_levels.specs.declared.level.State.TheVariants.{Unseen, Open, Done}
use Rattle.graph_levels.specs.declared.level.Frame.{Frame}
use Rattle.graph_levels.specs.declared.lists.ParentLists.{ParentLists}
use Rattle.graph_levels.specs.ParentLists.{commit_count, parent_list}
use Rattle.graph_levels.specs.OnTop.{level_at}

-- the frame at a place of the stack, none past its end
abbrev pub no_frame : Frame
no_frame = record { commit = 0; next = 0 }

abbrev pub frame_at : List Frame → ℕ → Frame
frame_at stack j = slice_index_or stack j no_frame

-- the commit has its level
abbrev pub has_level : State → Bool
has_level Unseen = false
has_level Open = false
has_level (Done level) = true

abbrev pub is_unseen : State → Bool
is_unseen Unseen = true
is_unseen Open = false
is_unseen (Done level) = false

-- the numbers of its level, 0 where it has none yet
abbrev pub level_generation : State → ℕ
level_generation Unseen = 0
level_generation Open = 0
level_generation (Done level) = level.generation

abbrev pub level_date : State → ℕ
level_date Unseen = 0
level_date Open = 0
level_date (Done level) = level.date

-- the state of the commit at a position: those below have their levels
unfoldable pub state_at : List Level → List State → ℕ → State
state_at below states p =
    if nat_lt p (length below) then Done (level_at below p)
    else slice_index_or states (p - length below) Unseen

-- The level of a commit with this time follows from those of its parents, which all have theirs.
pub record FollowsFrom (below : List Level) (states : List State) (parents : List ℕ) (time : ℕ) (level : Level) : Type 0 where
  pub done : (k : ℕ) → k < length parents → has_level (state_at below states (slice_index parents k)) ≡ true
  pub generation : level.generation
      ≡ min GENERATION_NUMBER_MAX (1 + greatest (map (λ q. level_generation (state_at below states q)) parents))
  pub date : level.date ≡ max time (1 + greatest (map (λ q. level_date (state_at below states q)) parents))

-- The parents of the frame's commit before the next one all have their levels.
pub record IsFrame (below : List Level) (parents : ParentLists) (states : List State) (frame : Frame) : Type 0 where
  pub within : frame.commit < commit_count parents
  pub is_open : slice_index_or states frame.commit Unseen ≡ Open
  pub before : (k : ℕ) → k < frame.next → k < length (parent_list parents frame.commit)
      → has_level (state_at below states (slice_index (parent_list parents frame.commit) k)) ≡ true

-- how many steps are left: two for each unseen commit, one for each on the stack
abbrev pub work_left : List State → List Frame → ℕ
work_left states stack = count_by is_unseen states + count_by is_unseen states + length stack

-- The commits whose parents are being gone through, each once, and each a parent of the one before.
pub record IsStack (below : List Level) (parents : ParentLists) (states : List State) (stack : List Frame) : Type 0 where
  pub frames : (j : ℕ) → j < length stack → IsFrame below parents states (frame_at stack j)
  pub apart : (j k : ℕ) → j < k → k < length stack
      → (frame_at stack j).commit ≢ (frame_at stack k).commit
  pub linked : (j : ℕ) → j + 1 < length stack
      → Contains (parent_list parents (frame_at stack j).commit)
      (length below + (frame_at stack (j + 1)).commit)
  pub all : (i : ℕ) → slice_index_or states i Unseen ≡ Open
      → (j : ℕ) × (j < length stack) × ((frame_at stack j).commit ≡ i)

-- What a search has found, and what it is going through. With each step there is less work left, and dates rise by a second at
-- most.
pub record IsSearch (below : List Level) (parents : ParentLists) (times : List ℕ) (states : List State) (stack : List Frame)
    : Type 0 where
  pub as_many : length states ≡ commit_count parents
  pub levels : (i : ℕ) (level : Level) → slice_index_or states i Unseen ≡ Done level
      → FollowsFrom below states (parent_list parents i) (slice_index times i) level
  pub dates : (i : ℕ) (level : Level) → slice_index_or states i Unseen ≡ Done level
      → level.date + work_left states stack ≤ 2 ^ 63 + 2 * commit_count parents
  pub work : work_left states stack ≤ 2 * commit_count parents
  pub going : IsStack below parents states stack
