-- What the file of a new layer is to hold of its commits. For private contracts alone.
use Rattle.std.specs.Prelude.{◌≡◌, ◌+◌, ◌<◌, ◌^◌, ℕ, List, [], All, length, map, slice_index, slice_index_or, slice_range, refl}
use Rattle.std.specs.Prelude.{option_map}
use Rattle.std.specs.List.{range_with_len}
use Rattle.gix_hash_core.specs.Oid.{oid_bytes}
use Rattle.graph_encoder.proofs.RoomSteps.{none-room, part-room, map-room}
use Rattle.graph_encoder.specs.declared.plan.FilePlan.{FilePlan}
use Rattle.graph_encoder.specs.declared.plan.PlanCommit.{PlanCommit}
use Rattle.graph_encoder.specs.declared.row.PlanRow.{PlanRow}
use Rattle.graph_levels.specs.OnTop.{level_at}
use Rattle.graph_levels.specs.ListEnds.{start_in}
use Rattle.graph_levels.specs.ParentLists.{parent_list}
use Rattle.graph_levels.specs.declared.level.Level.{Level}
use Rattle.graph_writer.specs.declared.commit.NewCommit.{NewCommit}
use Rattle.graph_writer.specs.declared.new_plan.NewPlan.{NewPlan}
use Rattle.graph_writer.specs.declared.view.CommitView.{Ghosts}

-- What is planned of a commit whose parents stand at these positions, and whose generation number is this level.
pub record IsPlanOf (commit : NewCommit) (positions : List ℕ) (level : ℕ) (planned : PlanCommit) : Type 0 where
  pub id : planned.id ≡ commit.id
  pub tree : planned.tree ≡ commit.tree
  pub parents : planned.parents.items ≡ positions
  pub generation : planned.generation ≡ level
  pub time : planned.time ≡ commit.time

-- How many seconds the dates of commits are past their times.
pub record AreOffsetsOf (times : List ℕ) (levels : List Level) (offsets : List ℕ) : Type 0 where
  pub as_many : length offsets ≡ length levels
  pub fit : All (λ offset. offset < 2 ^ 64) offsets
  pub each : (i : ℕ) → i < length levels → slice_index offsets i + slice_index times i ≡ (level_at levels i).date

-- The row says what the commit says, which stands at this place.
pub record IsNewRow {C : Type 0} {G : Ghosts C} (plan : NewPlan C G) (p : ℕ) (commit : NewCommit) (row : PlanRow) : Type 0 where
  pub id : oid_bytes row.id ≡ commit.id
  pub tree : oid_bytes row.tree ≡ commit.tree
  pub parents : row.parents.now ≡ parent_list plan.new.now.parents p
  pub generation : row.generation ≡ (level_at plan.levels.now p).generation
  pub time : row.time ≡ commit.time

-- a commit that says nothing
abbrev pub no_commit : {C : Type 0} {G : Ghosts C} → NewPlan C G → NewCommit
no_commit plan =
    let order = plan.new.now.order in
    record {
      id = [];
      tree = [];
      parents = record {
        ptr = order.ptr;
        len = 0;
        cap = order.cap;
        alloc = order.alloc;
        items = [];
        ok = (refl, none-room order.cap);
        small = order.small;
      };
      time = 0;
    }

-- the commit at a place
abbrev pub commit_at : {C : Type 0} {G : Ghosts C} → NewPlan C G → ℕ → NewCommit
commit_at plan p = slice_index_or plan.commits.now (slice_index plan.new.now.order.items p) (no_commit plan)

-- what is planned of it
abbrev pub planned_at : {C : Type 0} {G : Ghosts C} → NewPlan C G → ℕ → PlanCommit
planned_at plan p =
    let all = plan.new.now.parents.positions in
    let ends = plan.new.now.parents.ends.items in
    let first = start_in ends p in
    let end = slice_index ends p in
    record {
      id = (commit_at plan p).id;
      tree = (commit_at plan p).tree;
      parents = record {
        ptr = all.ptr;
        len = length (slice_range all.items first end);
        cap = all.cap;
        alloc = all.alloc;
        items = slice_range all.items first end;
        ok = (refl, part-room all.items first end all.len all.cap all.ok);
        small = all.small;
      };
      generation = (level_at plan.levels.now p).generation;
      time = (commit_at plan p).time;
    }

-- the plan that is read off
unfoldable pub plan_of : {C : Type 0} {G : Ghosts C} → NewPlan C G → FilePlan
plan_of plan =
    let order = plan.new.now.order in
    let planned = map (planned_at plan) (range_with_len 0 (length order.items)) in
    record {
      kind = plan.kind;
      bases = plan.bases;
      commits = record {
        ptr = order.ptr;
        len = length planned;
        cap = order.cap;
        alloc = order.alloc;
        items = planned;
        ok = (refl, map-room (planned_at plan) order.items order.len order.cap order.ok);
        small = order.small;
      };
      date_offsets = plan.offsets;
      filters = option_map (λ filters. filters.parts) plan.filters;
    }
