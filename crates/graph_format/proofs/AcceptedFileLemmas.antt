-- bytes that no condition refuses are a file of their layer
use Rattle.std.proofs.Common.{◌≡◌, ℕ, ◌+◌, ◌-◌, ◌*◌, ◌/◌, ◌%◌, ◌<◌, ◌≤◌, true, false, ◌&&◌, List, [], map, length, take, Option}
use Rattle.std.proofs.Common.{Some, None, unwrap_or, option_map, is_none, IfSome, IsSomeAnd, MatchOption, slice_index, nat_lt}
use Rattle.std.proofs.Common.{refl, sym, ⊎_elim, ◌∙◌, arith, length-drop}
use Rattle.std.proofs.lemmas.Bool.{not-false, ltb-false, eqb-true, and_cases}
use Rattle.std.proofs.lemmas.Slice.Eq.{bytes_eq-Decides}
use Rattle.gix_hash_core.specs.declared.kind.Kind.{Kind}
use Rattle.gix_hash_core.specs.declared.kind.Kind.TheVariants.{Sha1, Sha256}
use Rattle.gix_hash_core.specs.Kind.{id_len, kind_of}
use Rattle.gix_chunk_core.specs.Table.{Chunks}
use Rattle.gix_chunk_core.proofs.TableLemmas.{table_fault-none}
use Rattle.gix_chunk_core.proofs.FirstFaultLemmas.{otherwise-none, then_some-none, first_below-none_at}
use Rattle.graph_format.specs.Format.{record_of, record_len, commits_of, kind_in, fan_of, signature, least_size, table_of}
use Rattle.graph_format.specs.Format.{chunk_of, pieces, words, fan_id, ids_id, records_id, edges_id, bases_id}
use Rattle.graph_format.specs.Layer.{IsLayer, decoded_layer}
use Rattle.graph_format.specs.RefusalGroups.{header_refusal, bases_refusal, records_refusal, fan_refusal, ids_refusal}
use Rattle.graph_format.specs.RefusalGroups.{edges_refusal, sizes_refusal, trailer_refusal, counts_refusal}
use Rattle.graph_format.specs.RefusalGroups.{refusal_by_head, refusal_by_fan}
use Rattle.graph_format.specs.Refusal.{falling_refusal, fall_after, has_other_count, refusal, size_of}
use Rattle.graph_format.proofs.RefusalGroupLemmas.{refusal-grouped}

option_map-none : {X Y : Type 0} (f : X → Y) (o : Option X) → option_map f o ≡ None → o ≡ None
option_map-none f None h = refl
option_map-none f (Some x) h = cc

known : (o : Option Kind) → is_none o ≡ false → o ≡ Some (unwrap_or o Sha1)
known None h = cc
known (Some kind) h = refl

pub record IsHeader (bytes : List ℕ) : Type 0 where
  pub size : least_size ≤ length bytes
  pub starts : take 4 bytes ≡ signature
  pub version : slice_index bytes 4 ≡ 1
  pub kind : kind_of (slice_index bytes 5) ≡ Some (kind_in bytes)

header-accepted : (bytes : List ℕ) → header_refusal bytes ≡ None → IsHeader bytes
unfolding header_refusal kind_in
header-accepted bytes h =
    let size = otherwise-none _ _ h in
    let starts = otherwise-none _ _ size.1 in
    let version = otherwise-none _ _ starts.1 in
    record {
      size = ltb-false _ _ (then_some-none _ _ size.0);
      starts = (bytes_eq-Decides _ _).0 (not-false _ (then_some-none _ _ starts.0));
      version = eqb-true _ _ (not-false _ (then_some-none _ _ version.0));
      kind = known _ (then_some-none _ _ version.1);
    }

-- the conditions that are left, one by one
pub record IsAccepted (bytes : List ℕ) : Type 0 where
  pub header : IsHeader bytes
  pub table : Chunks bytes 8 (slice_index bytes 6) (table_of bytes)
  pub bases : bases_refusal (kind_in bytes) (slice_index bytes 7) (size_of bytes bases_id) ≡ None
  pub records : records_refusal (kind_in bytes) (size_of bytes records_id) ≡ None
  pub fan : fan_refusal (size_of bytes fan_id) ≡ None
  pub ids : ids_refusal (kind_in bytes) (size_of bytes ids_id) ≡ None
  pub edges : edges_refusal (size_of bytes edges_id) ≡ None
  pub trailer : trailer_refusal (kind_in bytes) bytes ≡ None
  pub falling : falling_refusal (fan_of bytes) ≡ None
  pub counts : counts_refusal (kind_in bytes) bytes ≡ None

accepted-parts : (bytes : List ℕ) → refusal bytes ≡ None → IsAccepted bytes
unfolding refusal_by_head refusal_by_fan sizes_refusal table_of
accepted-parts bytes h =
    let groups = otherwise-none (refusal_by_head bytes) (refusal_by_fan bytes) (sym (refusal-grouped bytes) ∙ h) in
    let header = otherwise-none _ _ groups.0 in
    let table = otherwise-none _ _ header.1 in
    let sizes = otherwise-none _ _ table.1 in
    let falling = otherwise-none _ _ groups.1 in
    let bases = otherwise-none _ _ sizes.0 in
    let records = otherwise-none _ _ bases.1 in
    let fan = otherwise-none _ _ records.1 in
    let ids = otherwise-none _ _ fan.1 in
    record {
      header = header-accepted bytes header.0;
      table = table_fault-none _ _ _ (option_map-none _ _ table.0);
      bases = bases.0;
      records = records.0;
      fan = fan.0;
      ids = ids.0;
      edges = ids.1;
      trailer = sizes.1;
      falling = falling.0;
      counts = falling.1;
    }

-- a size that is a multiple is so many times the piece
whole_ids : (kind : Kind) (n c : ℕ) → n % id_len kind ≡ 0 → n / id_len kind ≡ c → n ≡ id_len kind * c
whole_ids Sha1 n c h e = omega arith
whole_ids Sha256 n c h e = omega arith

whole_records : (kind : Kind) (n c : ℕ) → n % record_len kind ≡ 0 → n / record_len kind ≡ c → n ≡ record_len kind * c
whole_records Sha1 n c h e = omega arith
whole_records Sha256 n c h e = omega arith

pub pieces-nil : (kind : Kind) → pieces (id_len kind) [] ≡ []
unfolding pieces
pieces-nil Sha1 = refl
pieces-nil Sha256 = refl

fan-accepted : (o : Option (List ℕ)) → fan_refusal (option_map length o) ≡ None → IsSomeAnd o (λ chunk.
    (length chunk ≡ 1024) × (words (unwrap_or o []) ≡ words chunk))
unfolding fan_refusal
fan-accepted None h = cc
fan-accepted (Some chunk) h = (eqb-true _ _ (not-false _ (then_some-none _ _ h)), refl)

ids-accepted : (kind : Kind) (o : Option (List ℕ)) (commits : ℕ) → ids_refusal kind (option_map length o) ≡ None
    → has_other_count commits (id_len kind) (option_map length o) ≡ false → IsSomeAnd o (λ chunk.
    (length chunk ≡ id_len kind * commits) × (pieces (id_len kind) (unwrap_or o []) ≡ pieces (id_len kind) chunk))
unfolding ids_refusal
ids-accepted kind None commits h e = cc
ids-accepted kind (Some chunk) commits h e =
    (whole_ids kind _ _ (eqb-true _ _ (not-false _ (then_some-none _ _ h))) (eqb-true _ _ (not-false _ e)), refl)

records-accepted : (kind : Kind) (o : Option (List ℕ)) (commits : ℕ) → records_refusal kind (option_map length o) ≡ None
    → has_other_count commits (record_len kind) (option_map length o) ≡ false → IsSomeAnd o (λ chunk.
    (length chunk ≡ record_len kind * commits)
    × (map (record_of kind) (pieces (record_len kind) (unwrap_or o [])) ≡ map (record_of kind) (pieces (record_len kind) chunk)))
unfolding records_refusal
records-accepted kind None commits h e = cc
records-accepted kind (Some chunk) commits h e =
    (whole_records kind _ _ (eqb-true _ _ (not-false _ (then_some-none _ _ h))) (eqb-true _ _ (not-false _ e)), refl)

bases-accepted : (kind : Kind) (count : ℕ) (o : Option (List ℕ)) → bases_refusal kind count (option_map length o) ≡ None
    → (nat_lt 0 count && is_none (option_map length o)) ≡ false
    → MatchOption o ((count ≡ 0) × (pieces (id_len kind) (unwrap_or o []) ≡ [])) (λ chunk.
    (length chunk ≡ id_len kind * count) × (pieces (id_len kind) (unwrap_or o []) ≡ pieces (id_len kind) chunk))
unfolding bases_refusal
bases-accepted kind count None h e = (
  ⊎_elim (λ (p : nat_lt 0 count ≡ false). omega (arith, ltb-false _ _ p)) (λ (p : true ≡ false). cc) (and_cases _ _ e),
  pieces-nil kind,
)
bases-accepted kind count (Some chunk) h e =
    let both = otherwise-none _ _ h in (
      whole_ids kind _ _ (eqb-true _ _ (not-false _ (then_some-none _ _ both.0)))
          (eqb-true _ _ (not-false _ (then_some-none _ _ both.1))),
      refl,
    )

edges-accepted : (o : Option (List ℕ)) → edges_refusal (option_map length o) ≡ None → IfSome o (λ chunk.
    length chunk / 4 ≤ 4294967294)
unfolding edges_refusal
edges-accepted None h = tt
edges-accepted (Some chunk) h = ltb-false _ _ (then_some-none _ _ h)

-- the trailer, the base ids and the counts
pub record IsCounted (bytes : List ℕ) : Type 0 where
  pub trailer : length bytes - (table_of bytes).end ≡ id_len (kind_in bytes)
  pub bases : (nat_lt 0 (slice_index bytes 7) && is_none (size_of bytes bases_id)) ≡ false
  pub ids : has_other_count (commits_of (fan_of bytes)) (id_len (kind_in bytes)) (size_of bytes ids_id) ≡ false
  pub records : has_other_count (commits_of (fan_of bytes)) (record_len (kind_in bytes)) (size_of bytes records_id) ≡ false

counts-accepted : (bytes : List ℕ) → trailer_refusal (kind_in bytes) bytes ≡ None → counts_refusal (kind_in bytes) bytes ≡ None
    → IsCounted bytes
unfolding trailer_refusal counts_refusal
counts-accepted bytes h e =
    let trailer = otherwise-none _ _ h in
    let counts = otherwise-none _ _ e in
    record {
      trailer = eqb-true _ _ (not-false _ (then_some-none _ _ trailer.0));
      bases = then_some-none _ _ trailer.1;
      ids = then_some-none _ _ counts.0;
      records = then_some-none _ _ counts.1;
    }

rising : (fan : List ℕ) → falling_refusal fan ≡ None → (i : ℕ) → i < 255 → slice_index fan i ≤ slice_index fan (i + 1)
unfolding falling_refusal
rising fan h i k = ltb-false _ _ (then_some-none _ _ (first_below-none_at (fall_after fan) i 255 h k))

-- bytes that are not refused are a file of their layer
pub accepted : (bytes path : List ℕ) → refusal bytes ≡ None → IsLayer bytes path (decoded_layer bytes path)
unfolding decoded_layer fan_of
accepted bytes path h =
    let parts = accepted-parts bytes h in
    let counted = counts-accepted bytes parts.trailer parts.counts in
    let kind = kind_in bytes in
    record {
      size = parts.header.size;
      starts = parts.header.starts;
      version = parts.header.version;
      kind = parts.header.kind;
      table = parts.table;
      fan = fan-accepted (chunk_of bytes fan_id) parts.fan;
      rising = rising (fan_of bytes) parts.falling;
      ids = ids-accepted kind (chunk_of bytes ids_id) _ parts.ids counted.ids;
      records = records-accepted kind (chunk_of bytes records_id) _ parts.records counted.records;
      bases = bases-accepted kind (slice_index bytes 7) (chunk_of bytes bases_id) parts.bases counted.bases;
      edges = refl;
      few_edges = edges-accepted (chunk_of bytes edges_id) parts.edges;
      body = refl;
      checksum = refl;
      whole = length-drop (table_of bytes).end bytes ∙ counted.trailer;
      origin = refl;
    }

pub ruleset accepted_laws = (accepted)
