-- The commits of a plan, one by one. (gitformat-commit-graph, "Commit Data".)
use Rattle.std.specs.Prelude.{◌≡◌, ℕ, Some, slice_get}
use Rattle.gix_hash_core.specs.Oid.{oid_bytes}
use Rattle.graph_encoder.specs.declared.plan.FilePlan.{FilePlan}
use Rattle.graph_encoder.specs.declared.plan.PlanCommit.{PlanCommit}
use Rattle.graph_encoder.specs.declared.row.PlanRow.{PlanRow}

-- The row says what the commit says.
pub record IsRowOf (commit : PlanCommit) (row : PlanRow) : Type 0 where
  pub id : oid_bytes row.id ≡ commit.id
  pub tree : oid_bytes row.tree ≡ commit.tree
  pub parents : row.parents.now ≡ commit.parents.items
  pub generation : row.generation ≡ commit.generation
  pub time : row.time ≡ commit.time

-- The row says what the plan's commit at this place says.
abbrev pub IsRowAt : FilePlan → ℕ → PlanRow → Type 0
IsRowAt plan p row = (commit : PlanCommit) → slice_get plan.commits.items p ≡ Some commit → IsRowOf commit row
