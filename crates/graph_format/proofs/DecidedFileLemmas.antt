-- a file of a layer is not refused, and is a file of no other layer
use Rattle.std.proofs.Common.{◌≡◌, ℕ, ◌+◌, ◌*◌, ◌/◌, ◌%◌, ◌<◌, ◌≤◌, false, ◌&&◌, List, [], map, length, Option, Some, None, Ok}
use Rattle.std.proofs.Common.{Err, ◌↔◌, unwrap_or, option_map, is_none, IfSome, IsSomeAnd, MatchOption, slice_index, nat_lt, refl}
use Rattle.std.proofs.Common.{sym, ap, subst, ◌∙◌, arith, length-drop}
use Rattle.std.proofs.lemmas.Bool.{le-ltb, eq-eqb, not_from_true, and_right}
use Rattle.std.proofs.lemmas.Slice.Eq.{bytes_eq-Decides}
use Rattle.gix_hash_core.specs.declared.kind.Kind.{Kind}
use Rattle.gix_hash_core.specs.declared.kind.Kind.TheVariants.{Sha1, Sha256}
use Rattle.gix_hash_core.specs.Kind.{id_len}
use Rattle.gix_chunk_core.proofs.FirstFaultLemmas.{option_or-none, then_some-false, first_below-none_from}
use Rattle.gix_chunk_core.proofs.TableLemmas.{fault_free}
use Rattle.graph_format.specs.Format.{Record, record_of, record_len, commits_of, kind_in, fan_of, table_of, chunk_of, pieces}
use Rattle.graph_format.specs.Format.{words, fan_id, ids_id, records_id, bases_id}
use Rattle.graph_format.specs.Layer.{Layer, IsLayer, decoded_layer}
use Rattle.graph_format.specs.FormatLaws.{IsDecided, IsOnlyLayer}
use Rattle.graph_format.specs.RefusalGroups.{header_refusal, bases_refusal, records_refusal, fan_refusal, ids_refusal}
use Rattle.graph_format.specs.RefusalGroups.{edges_refusal, sizes_refusal, trailer_refusal, counts_refusal}
use Rattle.graph_format.specs.RefusalGroups.{refusal_by_head, refusal_by_fan}
use Rattle.graph_format.specs.Refusal.{falling_refusal, fall_after, has_other_count, refusal, size_of}
use Rattle.graph_format.specs.Opened.{IsAnswered, layer_of, unless_refused}
use Rattle.graph_format.specs.declared.error.FileError.{FileError}
use Rattle.graph_format.specs.declared.error.FileError.TheVariants.{Chunks}
use Rattle.graph_format.proofs.AcceptedFileLemmas.{accepted, pieces-nil}
use Rattle.graph_format.proofs.RefusalGroupLemmas.{refusal-grouped}

-- sizes that are right
whole_ids : (kind : Kind) (n c : ℕ) → n ≡ id_len kind * c → (n % id_len kind ≡ 0) × (n / id_len kind ≡ c)
whole_ids Sha1 n c h = (omega arith, omega arith)
whole_ids Sha256 n c h = (omega arith, omega arith)

whole_records : (kind : Kind) (n c : ℕ) → n ≡ record_len kind * c → (n % record_len kind ≡ 0) × (n / record_len kind ≡ c)
whole_records Sha1 n c h = (omega arith, omega arith)
whole_records Sha256 n c h = (omega arith, omega arith)

header-right : (bytes path : List ℕ) (layer : Layer) → IsLayer bytes path layer → header_refusal bytes ≡ None
unfolding header_refusal
header-right bytes path layer h =
    option_or-none _ _ (then_some-false _ _ (le-ltb _ _ h.size))
    (option_or-none _ _ (then_some-false _ _ (not_from_true _ ((bytes_eq-Decides _ _).1 h.starts)))
    (option_or-none _ _ (then_some-false _ _ (not_from_true _ (eq-eqb _ _ h.version)))
    (then_some-false _ _ (ap is_none h.kind))))

fan-right : (o : Option (List ℕ)) (fan : List ℕ) → IsSomeAnd o (λ chunk. (length chunk ≡ 1024) × (fan ≡ words chunk))
    → (fan_refusal (option_map length o) ≡ None) × (fan ≡ words (unwrap_or o []))
unfolding fan_refusal
fan-right None fan h = absurd h
fan-right (Some chunk) fan h = (then_some-false _ _ (not_from_true _ (eq-eqb _ _ h.0)), h.1)

ids-right : (kind : Kind) (commits : ℕ) (o : Option (List ℕ)) (ids : List (List ℕ))
    → IsSomeAnd o (λ chunk. (length chunk ≡ id_len kind * commits) × (ids ≡ pieces (id_len kind) chunk))
    → (ids_refusal kind (option_map length o) ≡ None) × (has_other_count commits (id_len kind) (option_map length o) ≡ false)
    × (ids ≡ pieces (id_len kind) (unwrap_or o []))
unfolding ids_refusal
ids-right kind commits None ids h = absurd h
ids-right kind commits (Some chunk) ids h =
    let whole = whole_ids kind _ _ h.0 in
    (then_some-false _ _ (not_from_true _ (eq-eqb _ _ whole.0)), not_from_true _ (eq-eqb _ _ whole.1), h.1)

records-right : (kind : Kind) (commits : ℕ) (o : Option (List ℕ)) (records : List Record)
    → IsSomeAnd o (λ chunk. (length chunk ≡ record_len kind * commits)
    × (records ≡ map (record_of kind) (pieces (record_len kind) chunk))) → (records_refusal kind (option_map length o) ≡ None)
    × (has_other_count commits (record_len kind) (option_map length o) ≡ false)
    × (records ≡ map (record_of kind) (pieces (record_len kind) (unwrap_or o [])))
unfolding records_refusal
records-right kind commits None records h = absurd h
records-right kind commits (Some chunk) records h =
    let whole = whole_records kind _ _ h.0 in
    (then_some-false _ _ (not_from_true _ (eq-eqb _ _ whole.0)), not_from_true _ (eq-eqb _ _ whole.1), h.1)

bases-right : (kind : Kind) (count : ℕ) (o : Option (List ℕ)) (bases : List (List ℕ))
    → MatchOption o ((count ≡ 0) × (bases ≡ [])) (λ chunk. (length chunk ≡ id_len kind * count)
    × (bases ≡ pieces (id_len kind) chunk)) → (bases_refusal kind count (option_map length o) ≡ None)
    × ((nat_lt 0 count && is_none (option_map length o)) ≡ false) × (bases ≡ pieces (id_len kind) (unwrap_or o []))
unfolding bases_refusal
bases-right kind count None bases h = (refl, rw h.0 refl, h.1 ∙ sym (pieces-nil kind))
bases-right kind count (Some chunk) bases h =
    let whole = whole_ids kind _ _ h.0 in (
      option_or-none _ _ (then_some-false _ _ (not_from_true _ (eq-eqb _ _ whole.0)))
          (then_some-false _ _ (not_from_true _ (eq-eqb _ _ whole.1))),
      and_right _ _ refl,
      h.1,
    )

edges-right : (o : Option (List ℕ)) → IfSome o (λ chunk. length chunk / 4 ≤ 4294967294)
    → edges_refusal (option_map length o) ≡ None
unfolding edges_refusal
edges-right None h = refl
edges-right (Some chunk) h = then_some-false _ _ (le-ltb _ _ h)

falling-right : (fan : List ℕ) → ((i : ℕ) → i < 255 → slice_index fan i ≤ slice_index fan (i + 1)) → falling_refusal fan ≡ None
unfolding falling_refusal
falling-right fan h = first_below-none_from (fall_after fan) 255 (λ i k. then_some-false _ _ (le-ltb _ _ (h i k)))

kind-right : (bytes path : List ℕ) (layer : Layer) → IsLayer bytes path layer → kind_in bytes ≡ layer.kind
unfolding kind_in
kind-right bytes path layer h = ap (λ (o : Option Kind). unwrap_or o Sha1) h.kind

fan_of-right : (bytes path : List ℕ) (layer : Layer) → IsLayer bytes path layer → fan_of bytes ≡ layer.fan
unfolding fan_of
fan_of-right bytes path layer h = sym (fan-right (chunk_of bytes fan_id) layer.fan h.fan).1

sizes-right : (bytes path : List ℕ) (layer : Layer) → IsLayer bytes path layer → sizes_refusal layer.kind bytes ≡ None
unfolding sizes_refusal
sizes-right bytes path layer h =
    option_or-none _ _ (bases-right layer.kind _ _ _ h.bases).0
    (option_or-none _ _ (records-right layer.kind _ _ _ h.records).0
    (option_or-none _ _ (fan-right _ _ h.fan).0
    (option_or-none _ _ (ids-right layer.kind _ _ _ h.ids).0
    (edges-right _ (let P : Option (List ℕ) → Type 0 = λ o.
    IfSome o (λ chunk. length chunk / 4 ≤ 4294967294) in subst P h.edges h.few_edges)))))

trailer-right : (bytes path : List ℕ) (layer : Layer) → IsLayer bytes path layer → trailer_refusal layer.kind bytes ≡ None
unfolding trailer_refusal
trailer-right bytes path layer h =
    option_or-none _ _
    (then_some-false _ _
    (not_from_true _ (eq-eqb _ _ (sym (length-drop (table_of bytes).end bytes) ∙ ap length (sym h.checksum) ∙ h.whole))))
    (then_some-false _ _ (bases-right layer.kind _ _ _ h.bases).1)

counts-right : (bytes path : List ℕ) (layer : Layer) → IsLayer bytes path layer → counts_refusal layer.kind bytes ≡ None
unfolding counts_refusal
counts-right bytes path layer h =
    let fan = ap commits_of (fan_of-right bytes path layer h) in
    option_or-none _ _
    (then_some-false _ _ (ap (λ (n : ℕ). has_other_count n (id_len layer.kind) (size_of bytes ids_id)) fan
    ∙ (ids-right layer.kind _ _ _ h.ids).1))
    (then_some-false _ _ (ap (λ (n : ℕ). has_other_count n (record_len layer.kind) (size_of bytes records_id)) fan
    ∙ (records-right layer.kind _ _ _ h.records).1))

by_head-right : (bytes path : List ℕ) (layer : Layer) → IsLayer bytes path layer → refusal_by_head bytes ≡ None
unfolding refusal_by_head
by_head-right bytes path layer h =
    let kind = kind-right bytes path layer h in
    option_or-none _ _ (header-right bytes path layer h)
    (option_or-none _ _ (ap (option_map Chunks) (fault_free bytes 8 (slice_index bytes 6) (table_of bytes) h.table))
    (option_or-none _ _ (ap (λ (k : Kind). sizes_refusal k bytes) kind ∙ sizes-right bytes path layer h)
    (ap (λ (k : Kind). trailer_refusal k bytes) kind ∙ trailer-right bytes path layer h)))

by_fan-right : (bytes path : List ℕ) (layer : Layer) → IsLayer bytes path layer → refusal_by_fan bytes ≡ None
unfolding refusal_by_fan
by_fan-right bytes path layer h =
    let kind = kind-right bytes path layer h in
    option_or-none _ _ (falling-right _ (rw (fan_of-right bytes path layer h) h.rising))
    (ap (λ (k : Kind). counts_refusal k bytes) kind ∙ counts-right bytes path layer h)

-- a file of a layer is not refused
pub not_refused : (bytes path : List ℕ) (layer : Layer) → IsLayer bytes path layer → refusal bytes ≡ None
not_refused bytes path layer h =
    refusal-grouped bytes ∙ option_or-none _ _ (by_head-right bytes path layer h) (by_fan-right bytes path layer h)

make : Kind → List (List ℕ) → List ℕ → List (List ℕ) → List Record → Option (List ℕ) → List ℕ → List ℕ → List ℕ → Layer
make kind bases fan ids records edges checksum body path =
    record {
      kind = kind;
      bases = bases;
      fan = fan;
      ids = ids;
      records = records;
      edges = edges;
      checksum = checksum;
      body = body;
      path = path;
    }

-- bytes and a path are a file of at most one layer
pub only : (bytes path : List ℕ) (layer : Layer) → IsLayer bytes path layer → layer ≡ decoded_layer bytes path
unfolding decoded_layer make
only bytes path layer h =
    let kind = sym (kind-right bytes path layer h) in
    let bases : layer.bases ≡ pieces (id_len (kind_in bytes)) (unwrap_or (chunk_of bytes bases_id) []) =
    (bases-right layer.kind _ _ _ h.bases).2
    ∙ ap (λ (k : Kind). pieces (id_len k) (unwrap_or (chunk_of bytes bases_id) [])) kind in
    let fan : layer.fan ≡ fan_of bytes = sym (fan_of-right bytes path layer h) in
    let ids : layer.ids ≡ pieces (id_len (kind_in bytes)) (unwrap_or (chunk_of bytes ids_id) []) =
    (ids-right layer.kind _ _ _ h.ids).2 ∙ ap (λ (k : Kind). pieces (id_len k) (unwrap_or (chunk_of bytes ids_id) [])) kind in
    let records : layer.records ≡ map (record_of (kind_in bytes))
    (pieces (record_len (kind_in bytes)) (unwrap_or (chunk_of bytes records_id) [])) =
    (records-right layer.kind _ _ _ h.records).2
    ∙ ap (λ (k : Kind). map (record_of k) (pieces (record_len k) (unwrap_or (chunk_of bytes records_id) []))) kind in
    let edges = h.edges in
    let checksum = h.checksum in
    let body = h.body in
    let origin = h.origin in
    let same : make layer.kind layer.bases layer.fan layer.ids layer.records layer.edges layer.checksum layer.body layer.path
    ≡ make (kind_in bytes) _ _ _ _ _ _ _ path = rw (kind, bases, fan, ids, records, edges, checksum, body, origin) refl in
    same

-- bytes are refused or are a file of one layer
pub decided : (bytes path : List ℕ) → IsDecided bytes path
decided bytes path =
    elim (refusal bytes) as (λ o. refusal bytes ≡ o
    → MatchOption o ((layer : Layer) × IsOnlyLayer bytes path layer) (λ _. (layer : Layer) → IsLayer bytes path layer → ⊥)) [
      | None ↦ λ e. (decoded_layer bytes path, record { is = accepted bytes path e; only = λ other h. only bytes path other h })
      | Some fault ↦ λ e layer h. let gone = sym e ∙ not_refused bytes path layer h in cc
    ] refl

answered-layer : (o : Option FileError) (decoded layer : Layer) (P : Layer → Type 0) → (o ≡ None → P decoded)
    → unless_refused o decoded ≡ Ok layer → P layer
answered-layer None decoded layer P right h = let same : decoded ≡ layer = cc in subst P same (right refl)
answered-layer (Some error) decoded layer P right h = cc

answered-error : (o : Option FileError) (decoded : Layer) (error : FileError) → (unless_refused o decoded ≡ Err error)
    ↔ (o ≡ Some error)
answered-error None decoded error = (λ h. cc, λ h. cc)
answered-error (Some fault) decoded error = (λ h. cc, λ h. cc)

-- opening answers the layer, or the refusal
pub answered : (bytes path : List ℕ) → IsAnswered bytes path
answered bytes path =
    let right : refusal bytes ≡ None → IsLayer bytes path (decoded_layer bytes path) = λ e. accepted bytes path e in
    let back : (layer : Layer) → IsLayer bytes path layer → layer_of bytes path ≡ Ok layer =
    λ layer h. ap (λ (o : Option FileError). unless_refused o (decoded_layer bytes path)) (not_refused bytes path layer h)
    ∙ ap (λ (l : Layer). Ok l) (sym (only bytes path layer h)) in
    record {
      layer = λ layer.
          (answered-layer (refusal bytes) (decoded_layer bytes path) layer (λ l. IsLayer bytes path l) right, back layer);
      error = λ error. answered-error (refusal bytes) (decoded_layer bytes path) error;
    }
