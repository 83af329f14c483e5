-- When a layer says what a plan says. (gitformat-commit-graph, "CHUNK DATA" and "TRAILER".)
use Rattle.std.specs.Prelude.{◌≡◌, ◌+◌, ◌<◌, ℕ, List, [], map, length, take, slice_index, slice_get, Option, Some, None}
use Rattle.std.specs.Prelude.{IsSomeAnd, MatchOption, codes, option_map, unwrap_or}
use Rattle.std.specs.List.{zip}
use Rattle.gix_hash_core.specs.Digest.{digest_of}
use Rattle.graph_format.specs.Format.{Record, chunk_of, words}
use Rattle.graph_format.specs.Layer.{Layer, IsLayer, bytes_of}
use Rattle.graph_format.specs.Parents.{DecodedParents, parents_of}
use Rattle.graph_encoder.specs.ExtraEdges.{top_bit, all_extra_words}
use Rattle.graph_format.specs.OptionalChunks.{HasDates, times_in, dates_in, index_in, data_in}
use Rattle.graph_encoder.specs.Chunks.{unless_empty}
use Rattle.graph_encoder.specs.Written.{ids_of, ids_up_to, filter_index, filter_data, words_bytes, longs_bytes}
use Rattle.graph_encoder.specs.DateOffsets.{offsets_of, offset_words, large_offsets}
use Rattle.graph_encoder.specs.declared.plan.FilePlan.{FilePlan}
use Rattle.graph_encoder.specs.declared.plan.PlanCommit.{PlanCommit}

-- parents at these positions, and no fault
abbrev pub planned_parents : List ℕ → DecodedParents
planned_parents positions = record { positions = map (λ p. record { 0 = p }) positions; fault = None }

-- The record of a commit, in a layer with these edges, says what the plan says of it. Where it has more than two parents,
-- the second field names its first extra word, which has this index.
pub record SaysCommit (edges : Option (List ℕ)) (index : ℕ) (commit : PlanCommit) (r : Record) : Type 0 where
  pub tree : r.tree ≡ commit.tree
  pub parents : parents_of r edges ≡ planned_parents commit.parents.items
  pub extra : 2 < length commit.parents.items → r.parent2 ≡ top_bit + index
  pub generation : r.generation ≡ commit.generation
  pub time : r.time ≡ commit.time

-- The layer says what the plan says.
pub record SaysPlan (plan : FilePlan) (layer : Layer) : Type 0 where
  pub kind : layer.kind ≡ plan.kind
  pub bases : layer.bases ≡ plan.bases.items
  pub ids : layer.ids ≡ ids_of plan.commits.items
  -- number b of the fan is the number of ids whose first byte is at most b
  pub fan : (b : ℕ) → b < 256 → slice_index layer.fan b ≡ ids_up_to b layer.ids
  pub count : length layer.records ≡ length plan.commits.items
  -- the extra words of a commit come after those of the commits before it
  pub commits : (i : ℕ) (commit : PlanCommit) → slice_get plan.commits.items i ≡ Some commit
      → IsSomeAnd (slice_get layer.records i)
      (SaysCommit layer.edges (length (all_extra_words (take i plan.commits.items))) commit)
  -- the edges are the extra words, and are missing where there is none
  pub edges : MatchOption layer.edges (all_extra_words plan.commits.items ≡ [])
      (λ chunk. words chunk ≡ all_extra_words plan.commits.items)
  pub checksum : layer.checksum ≡ digest_of plan.kind layer.body
  -- the corrected dates are the times with these offsets, and are missing where the plan has none
  pub dates : MatchOption (offsets_of plan) (HasDates layer → ⊥) (λ offsets.
      HasDates layer × (dates_in layer ≡ map (λ pair. pair.0 + pair.1) (zip (times_in layer) offsets)))
  -- their offsets stand in "Generation Data", and those that are large in "Generation Data Overflow"
  pub offsets : chunk_of (bytes_of layer) (codes "GDA2")
      ≡ option_map (λ offsets. words_bytes (offset_words offsets)) (offsets_of plan)
  pub overflow : chunk_of (bytes_of layer) (codes "GDO2")
      ≡ unless_empty (longs_bytes (large_offsets (unwrap_or (offsets_of plan) [])))
  -- the filters stand in both chunks, which are missing where the plan has none
  pub index : index_in layer ≡ option_map filter_index plan.filters
  pub filters : data_in layer ≡ option_map filter_data plan.filters

-- The bytes are a file of a layer that says what the plan says.
abbrev pub IsFileOf : FilePlan → List ℕ → List ℕ → Type 0
IsFileOf plan bytes path = (layer : Layer) × IsLayer bytes path layer × SaysPlan plan layer
