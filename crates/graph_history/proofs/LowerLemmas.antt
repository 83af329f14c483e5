-- The commits of the lowest layers, one after another.
use Rattle.std.proofs.Common.{◌≡◌, ℕ, ◌+◌, ◌^◌, ◌<◌, List, [], ◌∷◌, ◌++◌, length, take, slice_get, Option, Some, None, unwrap_or}
use Rattle.std.proofs.Common.{sym, ap, subst, ◌∙◌, arith}
use Rattle.std.proofs.lemmas.List.{take_more, append-nil, length-map}
use Rattle.std.proofs.lemmas.List.Elements.{All-take}
use Rattle.std.proofs.lemmas.Option.{slice_get_within, get_or_from_slice_get}
use Rattle.graph_walks.specs.History.{Node}
use Rattle.graph_format.specs.Format.{Record}
use Rattle.graph_format.specs.Layer.{Layer, IsOpened, no_record, record_at}
use Rattle.graph_format.specs.Parents.{DecodedParents, parents_of}
use Rattle.graph_format.specs.RightLayer.{AreParentsDecoded}
use Rattle.graph_format.specs.StoredHistory.{node_of, layer_history, history_of}
use Rattle.graph_format.specs.declared.Position.{Position}
use Rattle.graph_format.proofs.CommitFaultFreeLemmas.{record_at-get_or}
use Rattle.graph_format.proofs.LayerHistoryLemmas.{length-layer_history, layer_history-at}
use Rattle.graph_layer.specs.ListedParents.{IsCount}
use Rattle.gix_commitgraph.specs.Graph.{IsGraph, start}
use Rattle.gix_commitgraph.proofs.history.HistoryLemmas.{length-history}
use Rattle.gix_commitgraph.proofs.layers.LayerListLemmas.{counted-fits}
use Rattle.graph_history.proofs.BelowLemmas.{history-more}

-- one more commit of a layer
pub layer-more : (layer : Layer) (n : ℕ) → n < length layer.records
    → take (n + 1) (layer_history layer) ≡ take n (layer_history layer) ++ node_of layer (record_at layer n) ∷ []
layer-more layer n within =
    let node : Node = node_of layer (record_at layer n) in
    take_more (layer_history layer) n node (omega (arith, within, length-layer_history layer))
    ∙ ap (λ (x : Node). take n (layer_history layer) ++ x ∷ [])
    (get_or_from_slice_get (layer_history layer) n node node (layer_history-at layer n within))

history-one : (layer : Layer) → history_of (layer ∷ []) ≡ layer_history layer
unfolding history_of
history-one layer = append-nil (layer_history layer)

-- the commits of one more layer
pub layers-more : (layers : List Layer) (i : ℕ) (layer : Layer) → slice_get layers i ≡ Some layer
    → history_of (take (i + 1) layers) ≡ history_of (take i layers) ++ layer_history layer
layers-more layers i layer here =
    ap history_of
    (take_more layers i layer (slice_get_within layers i layer here)
    ∙ ap (λ (x : Layer). take i layers ++ x ∷ []) (get_or_from_slice_get layers i layer layer here))
    ∙ history-more (take i layers) layer
    ∙ ap (λ (nodes : List Node). history_of (take i layers) ++ nodes) (history-one layer)

-- no more commits than 32 bits hold stand below the end of a layer
pub lower-fits : (layers : List Layer) (i : ℕ) (layer : Layer) → IsGraph layers → slice_get layers i ≡ Some layer
    → length (history_of (take i layers)) + length layer.ids < 2 ^ 32
unfolding start
lower-fits layers i layer graph here =
    counted-fits layers i (length (history_of (take i layers))) layer graph
    (length-history (take i layers) (All-take IsOpened i layers graph.opened)) here

-- a count of parents that are decoded
told : (parents : DecodedParents) (count : Option ℕ) → IsCount parents count → parents.fault ≡ None
    → unwrap_or count 0 ≡ length parents.positions
told parents None is none = absurd (is none)
told parents (Some n) is none = omega (arith, is.1)

-- the commit at place n of a layer, as it was read
module _ (layer own : Layer) (n pos : ℕ) (same : own ≡ layer) (at : pos ≡ n) where
  pub generation-read : (record_at own pos).generation ≡ (node_of layer (record_at layer n)).generation
  generation-read =
      ap (λ (l : Layer). (record_at l pos).generation) same ∙ ap (λ (k : ℕ). (record_at layer k).generation) at

  pub parents-read : (count : Option ℕ) → n < length layer.records → AreParentsDecoded layer
      → IsCount (parents_of (record_at own pos) own.edges) count
      → unwrap_or count 0 ≡ length (node_of layer (record_at layer n)).parents
  parents-read count within decoded is =
      let parents = parents_of (record_at layer n) layer.edges in
      let here : parents_of (record_at own pos) own.edges ≡ parents =
      ap (λ (l : Layer). parents_of (record_at l pos) l.edges) same
      ∙ ap (λ (k : ℕ). parents_of (record_at layer k) layer.edges) at in
      let none : parents.fault ≡ None =
      subst (λ (r : Record). (parents_of r layer.edges).fault ≡ None) (sym (record_at-get_or layer n))
      (decoded n no_record within) in
      told parents count (subst (λ (p : DecodedParents). IsCount p count) here is) none
      ∙ sym (length-map parents.positions (λ (q : Position). q.0))
