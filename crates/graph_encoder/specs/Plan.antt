-- When a file can hold what a plan lists. (gitformat-commit-graph.)
use Rattle.std.specs.Prelude.{◌≡◌, ◌<◌, ◌≤◌, ◌^◌, ℕ, List, length, All, IfSome}
use Rattle.gix_hash_core.specs.declared.kind.Kind.{Kind}
use Rattle.gix_hash_core.specs.Kind.{id_len}
use Rattle.graph_encoder.specs.DateOffsets.{offsets_of}
use Rattle.graph_encoder.specs.ExtraEdges.{no_parent, top_bit, all_extra_words}
use Rattle.graph_encoder.specs.declared.filters.PlanFilters.{PlanFilters}
use Rattle.graph_encoder.specs.declared.plan.FilePlan.{FilePlan}
use Rattle.graph_encoder.specs.declared.plan.PlanCommit.{PlanCommit}

-- What a record can hold for a commit ("Commit Data"): 30 bits of the generation and 34 of the time.
pub record IsPlannedCommit (kind : Kind) (commit : PlanCommit) : Type 0 where
  pub id : length commit.id ≡ id_len kind
  pub tree : length commit.tree ≡ id_len kind
  pub parents : All (λ parent. parent < no_parent) commit.parents.items
  pub generation : commit.generation ≤ 1073741823
  pub time : commit.time ≤ 17179869183

-- There is an offset for each of so many commits, and it fits in eight bytes ("Generation Data Overflow").
pub record AreOffsets (commits : ℕ) (offsets : List ℕ) : Type 0 where
  pub count : length offsets ≡ commits
  pub fit : All (λ offset. offset < 2 ^ 64) offsets

-- There is a filter for each of so many commits, and where each ends fits in four bytes ("Bloom Filter Index").
pub record AreFilters (commits : ℕ) (filters : PlanFilters) : Type 0 where
  pub count : length filters.ends.items ≡ commits
  pub room : length filters.bytes.items < 2 ^ 32

-- What one file can hold: the header counts the bases in one byte ("HEADER"), and a field names an extra word in 31 bits
-- ("Extra Edge List").
pub record IsPlan (plan : FilePlan) : Type 0 where
  pub few_bases : length plan.bases.items ≤ 255
  pub bases : All (λ id. length id ≡ id_len plan.kind) plan.bases.items
  pub few_commits : length plan.commits.items < 2147483648
  pub commits : All (IsPlannedCommit plan.kind) plan.commits.items
  pub few_words : length (all_extra_words plan.commits.items) < top_bit
  pub offsets : IfSome (offsets_of plan) (AreOffsets (length plan.commits.items))
  pub filters : IfSome plan.filters (AreFilters (length plan.commits.items))
