-- The history of a layer by the records of its commits.
use Rattle.std.proofs.Common.{◌≡◌, ℕ, ◌*◌, ◌<◌, List, map, length, Option, Some, None, IsSomeAnd, slice_get, sym, ap, ◌∙◌}
use Rattle.std.proofs.Common.{arith}
use Rattle.std.specs.Option.{option_map}
use Rattle.std.proofs.lemmas.List.{length-map}
use Rattle.std.proofs.lemmas.Option.{slice_get-get_or, unwrap_or-slice_get, slice_get-map}
use Rattle.gix_hash_core.specs.declared.kind.Kind.{Kind}
use Rattle.gix_hash_core.specs.Kind.{id_len}
use Rattle.graph_format.specs.Format.{Record, record_of, record_len, pieces}
use Rattle.graph_format.specs.Layer.{Layer, no_record, record_at}
use Rattle.graph_format.specs.Layer.{IsOpened}
use Rattle.graph_format.specs.StoredHistory.{node_of, layer_history}
use Rattle.graph_format.proofs.PieceLemmas.{id_len-positive, length-pieces_of}

-- a layer has one record for each id
abbrev pub IsPaired : Layer → Type 0
IsPaired layer = length layer.records ≡ length layer.ids

many_ids : (kind : Kind) (c : ℕ) (o : Option (List ℕ)) (ids : List (List ℕ))
    → IsSomeAnd o (λ chunk. (length chunk ≡ id_len kind * c) × (ids ≡ pieces (id_len kind) chunk)) → length ids ≡ c
many_ids kind c None ids h = absurd h
many_ids kind c (Some chunk) ids h = ap length h.1 ∙ length-pieces_of (id_len kind) c chunk (id_len-positive kind) h.0

many_records : (kind : Kind) (c : ℕ) (o : Option (List ℕ)) (records : List Record)
    → IsSomeAnd o (λ chunk. (length chunk ≡ record_len kind * c)
    × (records ≡ map (record_of kind) (pieces (record_len kind) chunk))) → length records ≡ c
many_records kind c None records h = absurd h
many_records kind c (Some chunk) records h =
    ap length h.1 ∙ length-map (pieces (record_len kind) chunk) (record_of kind)
    ∙ length-pieces_of (record_len kind) c chunk (omega (arith, id_len-positive kind)) h.0

-- an opened layer is paired
pub opened_is_paired : (layer : Layer) → IsOpened layer → IsPaired layer
opened_is_paired layer opened =
    many_records layer.kind _ _ layer.records opened.records ∙ sym (many_ids layer.kind _ _ layer.ids opened.ids)

-- each layer's part has as many commits as the layer
pub length-layer_history : (layer : Layer) → length (layer_history layer) ≡ length layer.records
unfolding layer_history
length-layer_history layer = length-map layer.records (node_of layer)

pub record_at-is : (layer : Layer) (pos : ℕ) → pos < length layer.records
    → slice_get layer.records pos ≡ Some (record_at layer pos)
unfolding record_at
record_at-is layer pos within =
    slice_get-get_or layer.records pos no_record within
    ∙ ap (λ (r : Record). Some r) (sym (unwrap_or-slice_get layer.records pos no_record))

pub layer_history-at : (layer : Layer) (pos : ℕ) → pos < length layer.records
    → slice_get (layer_history layer) pos ≡ Some (node_of layer (record_at layer pos))
unfolding layer_history
layer_history-at layer pos within =
    slice_get-map (node_of layer) layer.records pos ∙ ap (option_map (node_of layer)) (record_at-is layer pos within)
