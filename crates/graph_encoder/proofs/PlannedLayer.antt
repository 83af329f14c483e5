-- the file of a plan is a file of a layer that says what the plan says
use Rattle.std.proofs.Common.{◌≡◌, ℕ, ◌+◌, ◌*◌, ◌<◌, List, [], ◌∷◌, ◌++◌, length, map, take, drop, slice_index, Option, IsSomeAnd}
use Rattle.std.proofs.Common.{MatchOption, All, refl, sym, ap, subst, ◌∙◌, arith}
use Rattle.std.proofs.lemmas.List.{take_at, drop_at, length-map}
use Rattle.gix_hash_core.specs.declared.kind.Kind.{Kind}
use Rattle.gix_hash_core.specs.Kind.{id_len}
use Rattle.gix_hash_core.specs.Digest.{digest_of}
use Rattle.std.specs.Prelude.{zip, codes, option_map, unwrap_or}
use Rattle.graph_format.specs.OptionalChunks.{HasDates, times_in, dates_in, index_in, data_in}
use Rattle.graph_encoder.proofs.OffsetLemmas.{dates-said}
use Rattle.graph_format.specs.Format.{Record, record_of, record_len, pieces, words, commits_of, table_of, chunk_of, fan_id}
use Rattle.graph_format.specs.Format.{ids_id}
use Rattle.graph_format.specs.Format.{records_id, edges_id, bases_id}
use Rattle.graph_format.specs.Layer.{Layer, IsLayer, bytes_of}
use Rattle.graph_encoder.specs.declared.plan.FilePlan.{FilePlan}
use Rattle.graph_encoder.specs.declared.plan.PlanCommit.{PlanCommit}
use Rattle.graph_encoder.specs.ExtraEdges.{all_extra_words}
use Rattle.graph_encoder.specs.Plan.{IsPlan}
use Rattle.graph_encoder.specs.Chunks.{unless_empty}
use Rattle.graph_encoder.specs.DateOffsets.{offsets_of, offset_words, large_offsets}
use Rattle.graph_encoder.specs.Written.{ids_of, exact_fan, planned_body, planned_file, filter_index, filter_data}
use Rattle.graph_encoder.specs.Written.{words_bytes, longs_bytes}
use Rattle.graph_encoder.specs.Said.{SaysPlan, IsFileOf}
use Rattle.graph_encoder.proofs.Pieces.{words-words_bytes}
use Rattle.graph_encoder.proofs.BuiltFan.{exact_fan-at, exact_fan-small, exact_fan-last, ids_up_to-rising}
use Rattle.gix_hash_core.proofs.DigestLemmas.{digest_is_sized}
use Rattle.graph_encoder.proofs.PlannedRecords.{planned_records, length-planned_records, records_from-read, records-say}
use Rattle.graph_encoder.proofs.PlannedChunks.{edges_bytes, bases_bytes, edges-unless, bases-unless, edges-hold, edges-words}
use Rattle.graph_encoder.proofs.PlannedChunks.{edges-few, length-ids_bytes, ids_bytes-read}
use Rattle.graph_encoder.proofs.PlannedFile.{digest_in, sizes, ids_of-sized, all_extra_words-small, chunk_of-planned, end-planned}
use Rattle.graph_encoder.proofs.PlannedFile.{table-planned, headed-planned, planned_file-size}

-- the layer that the file is of
abbrev pub planned_layer : FilePlan → List ℕ → Layer
planned_layer plan path =
    record {
      kind = plan.kind;
      bases = plan.bases.items;
      fan = exact_fan (ids_of plan.commits.items);
      ids = ids_of plan.commits.items;
      records = planned_records 0 plan.commits.items;
      edges = edges_bytes (all_extra_words plan.commits.items);
      checksum = digest_in plan;
      body = planned_body plan;
      path = path;
    }

-- the fan is there, and counts the ids
fan-planned : (plan : FilePlan) (path : List ℕ) → IsPlan plan → IsSomeAnd (chunk_of (planned_file plan) fan_id) (λ chunk.
    (length chunk ≡ 1024) × ((planned_layer plan path).fan ≡ words chunk))
fan-planned plan path h =
    let P : Option (List ℕ) → Type 0 = λ o. IsSomeAnd o (λ chunk.
    (length chunk ≡ 1024) × ((planned_layer plan path).fan ≡ words chunk)) in
    subst P (sym (chunk_of-planned plan fan_id h)) (
      (sizes plan h).fan,
      sym (words-words_bytes (exact_fan (ids_of plan.commits.items))
          (exact_fan-small (ids_of plan.commits.items)
          (omega (arith, h.few_commits, length-map plan.commits.items (λ (c : PlanCommit). c.id))))),
    )

-- it counts all commits
commits_of-planned : (plan : FilePlan) → All (λ id. slice_index id 0 < 256) (ids_of plan.commits.items)
    → commits_of (exact_fan (ids_of plan.commits.items)) ≡ length plan.commits.items
commits_of-planned plan h = exact_fan-last (ids_of plan.commits.items) h ∙ length-map plan.commits.items (λ (c : PlanCommit).
    c.id)

ids-planned : (plan : FilePlan) (path : List ℕ) → IsPlan plan → All (λ id. slice_index id 0 < 256) (ids_of plan.commits.items)
    → IsSomeAnd (chunk_of (planned_file plan) ids_id) (λ chunk.
    (length chunk ≡ id_len plan.kind * commits_of (planned_layer plan path).fan)
    × ((planned_layer plan path).ids ≡ pieces (id_len plan.kind) chunk))
ids-planned plan path h e =
    let P : Option (List ℕ) → Type 0 = λ o. IsSomeAnd o (λ chunk.
    (length chunk ≡ id_len plan.kind * commits_of (planned_layer plan path).fan)
    × ((planned_layer plan path).ids ≡ pieces (id_len plan.kind) chunk)) in
    subst P (sym (chunk_of-planned plan ids_id h)) (
      (sizes plan h).ids ∙ ap (λ (n : ℕ). id_len plan.kind * n) (sym (commits_of-planned plan e)),
      sym (ids_bytes-read plan.kind (ids_of plan.commits.items) (ids_of-sized plan.kind plan.commits.items h.commits)),
    )

records-planned : (plan : FilePlan) (path : List ℕ) → IsPlan plan
    → All (λ id. slice_index id 0 < 256) (ids_of plan.commits.items)
    → IsSomeAnd (chunk_of (planned_file plan) records_id) (λ chunk.
    (length chunk ≡ record_len plan.kind * commits_of (planned_layer plan path).fan)
    × ((planned_layer plan path).records ≡ map (record_of plan.kind) (pieces (record_len plan.kind) chunk)))
records-planned plan path h e =
    let P : Option (List ℕ) → Type 0 = λ o. IsSomeAnd o (λ chunk.
    (length chunk ≡ record_len plan.kind * commits_of (planned_layer plan path).fan)
    × ((planned_layer plan path).records ≡ map (record_of plan.kind) (pieces (record_len plan.kind) chunk))) in
    subst P (sym (chunk_of-planned plan records_id h)) (
      (sizes plan h).records ∙ ap (λ (n : ℕ). record_len plan.kind * n) (sym (commits_of-planned plan e)),
      sym (records_from-read plan.kind plan.commits.items h.commits h.few_words),
    )

-- the base ids, if there are any
bases-right : (kind : Kind) (bases : List (List ℕ)) → All (λ id. length id ≡ id_len kind) bases
    → MatchOption (bases_bytes bases) ((length bases ≡ 0) × (bases ≡ [])) (λ chunk.
    (length chunk ≡ id_len kind * length bases) × (bases ≡ pieces (id_len kind) chunk))
bases-right kind [] h = (refl, refl)
bases-right kind (base ∷ bases) h = (length-ids_bytes kind (base ∷ bases) h, sym (ids_bytes-read kind (base ∷ bases) h))

named-edges : (plan : FilePlan) → IsPlan plan
    → chunk_of (planned_file plan) edges_id ≡ edges_bytes (all_extra_words plan.commits.items)
named-edges plan h = chunk_of-planned plan edges_id h ∙ edges-unless (all_extra_words plan.commits.items)

named-bases : (plan : FilePlan) → IsPlan plan → chunk_of (planned_file plan) bases_id ≡ bases_bytes plan.bases.items
named-bases plan h = chunk_of-planned plan bases_id h ∙ bases-unless plan.kind plan.bases.items h.bases

-- the filters, if there are any
index-planned : (plan : FilePlan) (path : List ℕ) → IsPlan plan
    → index_in (planned_layer plan path) ≡ option_map filter_index plan.filters
unfolding planned_file
index-planned plan path h = chunk_of-planned plan (codes "BIDX") h

data-planned : (plan : FilePlan) (path : List ℕ) → IsPlan plan
    → data_in (planned_layer plan path) ≡ option_map filter_data plan.filters
unfolding planned_file
data-planned plan path h = chunk_of-planned plan (codes "BDAT") h

-- the offsets of dates, if there are any
offsets-planned : (plan : FilePlan) (path : List ℕ) → IsPlan plan
    → chunk_of (bytes_of (planned_layer plan path)) (codes "GDA2")
    ≡ option_map (λ offsets. words_bytes (offset_words offsets)) (offsets_of plan)
unfolding planned_file
offsets-planned plan path h = chunk_of-planned plan (codes "GDA2") h

overflow-planned : (plan : FilePlan) (path : List ℕ) → IsPlan plan
    → chunk_of (bytes_of (planned_layer plan path)) (codes "GDO2")
    ≡ unless_empty (longs_bytes (large_offsets (unwrap_or (offsets_of plan) [])))
unfolding planned_file
overflow-planned plan path h = chunk_of-planned plan (codes "GDO2") h

dates-planned : (plan : FilePlan) (path : List ℕ) → IsPlan plan
    → MatchOption (offsets_of plan) (HasDates (planned_layer plan path) → ⊥) (λ offsets.
    HasDates (planned_layer plan path)
    × (dates_in (planned_layer plan path) ≡ map (λ pair. pair.0 + pair.1) (zip (times_in (planned_layer plan path)) offsets)))
unfolding planned_file
dates-planned plan path h =
    dates-said (offsets_of plan) (planned_layer plan path) (length plan.commits.items) (chunk_of-planned plan (codes "GDA2") h)
    (chunk_of-planned plan (codes "GDO2") h) h.offsets
    (length-map (planned_records 0 plan.commits.items) (λ (r : Record). r.time)
    ∙ length-planned_records 0 plan.commits.items) h.few_commits

bases-planned : (plan : FilePlan) → IsPlan plan
    → MatchOption (chunk_of (planned_file plan) bases_id) ((slice_index (planned_file plan) 7 ≡ 0) × (plan.bases.items ≡ []))
    (λ chunk.
    (length chunk ≡ id_len plan.kind * slice_index (planned_file plan) 7)
    × (plan.bases.items ≡ pieces (id_len plan.kind) chunk))
bases-planned plan h =
    let P : Option (List ℕ) → ℕ → Type 0 = λ o n. MatchOption o ((n ≡ 0) × (plan.bases.items ≡ [])) (λ chunk.
    (length chunk ≡ id_len plan.kind * n) × (plan.bases.items ≡ pieces (id_len plan.kind) chunk)) in
    let Q : Option (List ℕ) → Type 0 = λ o. P o (length plan.bases.items) in
    let R : ℕ → Type 0 = λ n. P (chunk_of (planned_file plan) bases_id) n in
    subst R (sym (headed-planned plan).bases)
    (subst Q (sym (named-bases plan h)) (bases-right plan.kind plan.bases.items h.bases))

body-planned : (plan : FilePlan) → IsPlan plan
    → (planned_body plan ≡ take (table_of (planned_file plan)).end (planned_file plan))
    × (digest_in plan ≡ drop (table_of (planned_file plan)).end (planned_file plan))
unfolding planned_file
body-planned plan h = (
  sym (take_at (planned_body plan) (digest_in plan) _ (sym (end-planned plan h))),
  sym (drop_at (planned_body plan) (digest_in plan) _ (sym (end-planned plan h))),
)

pub is-planned : (plan : FilePlan) (path : List ℕ) → IsPlan plan → All (λ id. slice_index id 0 < 256) (ids_of plan.commits.items)
    → IsLayer (planned_file plan) path (planned_layer plan path)
is-planned plan path h e =
    let starts = headed-planned plan in
    let ids : List (List ℕ) = ids_of plan.commits.items in
    record {
      size = planned_file-size plan h;
      starts = starts.starts;
      version = starts.version;
      kind = starts.kind;
      table = table-planned plan h;
      fan = fan-planned plan path h;
      rising = λ i k.
          omega (
            arith,
            exact_fan-at (ids_of plan.commits.items) i (omega (arith, k)),
            exact_fan-at (ids_of plan.commits.items) (i + 1) (omega (arith, k)),
            ids_up_to-rising (ids_of plan.commits.items) i,
          );
      ids = ids-planned plan path h e;
      records = records-planned plan path h e;
      bases = bases-planned plan h;
      edges = sym (named-edges plan h);
      few_edges = edges-few (all_extra_words plan.commits.items) (omega (arith, h.few_words));
      body = (body-planned plan h).0;
      checksum = (body-planned plan h).1;
      whole = digest_is_sized plan.kind (planned_body plan);
      origin = refl;
    }

pub says-planned : (plan : FilePlan) (path : List ℕ) → IsPlan plan → SaysPlan plan (planned_layer plan path)
says-planned plan path h =
    record {
      kind = refl;
      bases = refl;
      ids = refl;
      fan = λ b k. exact_fan-at (ids_of plan.commits.items) b k;
      count = length-planned_records 0 plan.commits.items;
      commits =
          records-say plan.kind [] plan.commits.items (edges_bytes (all_extra_words plan.commits.items)) h.commits
          (edges-hold (all_extra_words plan.commits.items) (all_extra_words-small plan.kind plan.commits.items h.commits));
      edges = edges-words (all_extra_words plan.commits.items) (all_extra_words-small plan.kind plan.commits.items h.commits);
      checksum = refl;
      dates = dates-planned plan path h;
      offsets = offsets-planned plan path h;
      overflow = overflow-planned plan path h;
      index = index-planned plan path h;
      filters = data-planned plan path h;
    }

-- The law.
pub planned_file-read : (plan : FilePlan) (path : List ℕ) → IsPlan plan
    → All (λ id. slice_index id 0 < 256) (ids_of plan.commits.items) → IsFileOf plan (planned_file plan) path
planned_file-read plan path h e = (planned_layer plan path, is-planned plan path h e, says-planned plan path h)

-- the trailer after the body
pub planned_file-added : (plan : FilePlan) (start body now checksum message : List ℕ) → body ≡ start ++ planned_body plan
    → start ≡ [] → now ≡ body ++ checksum → checksum ≡ digest_of plan.kind message → message ≡ body → now ≡ planned_file plan
unfolding planned_file
planned_file-added plan start body now checksum message h e k d m =
    let whole : body ≡ planned_body plan = h ∙ ap (λ (bytes : List ℕ). bytes ++ planned_body plan) e in
    k
    ∙ ap (λ (bytes : List ℕ). bytes ++ checksum) whole
    ∙ ap (λ (bytes : List ℕ). planned_body plan ++ bytes) (d ∙ ap (digest_of plan.kind) (m ∙ whole))
