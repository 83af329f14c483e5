-- The history of a graph by its commits, each at its place in its layer.
use Rattle.std.proofs.Common.{◌≡◌, ℕ, ◌+◌, ◌-◌, ◌<◌, ◌≤◌, List, [], ◌∷◌, ◌++◌, map, length, take, All, slice_get}
use Rattle.std.proofs.Common.{Some, option_map, refl, sym, ap, ◌∙◌, arith}
use Rattle.std.specs.List.{flat_map, range_with_len}
use Rattle.std.specs.Option.{option_map_or}
use Rattle.std.proofs.lemmas.List.{map-append, same_lists, length-map, take_all, take_more}
use Rattle.std.proofs.lemmas.List.Elements.{All-head, All-tail}
use Rattle.std.proofs.lemmas.List.FromFn.{length-map-range_with_len, get_or-map-range_with_len}
use Rattle.std.proofs.lemmas.Option.{get_or_from_slice_get, slice_get-map, slice_get_within}
use Rattle.std.proofs.lemmas.Simd.{map-map}
use Rattle.graph_format.specs.Layer.{Layer, IsOpened, record_at, positions_from}
use Rattle.graph_format.specs.Parents.{parents_of}
use Rattle.graph_format.specs.StoredHistory.{node_of, layer_history, history_of}
use Rattle.graph_format.proofs.LayerHistoryLemmas.{opened_is_paired, length-layer_history, layer_history-at}
use Rattle.graph_walks.specs.History.{Node, generation_at, parents_at}
use Rattle.gix_commitgraph.specs.Graph.{graph_commits, total, start}
use Rattle.gix_commitgraph.specs.GraphLaw.{LiesIn}
use Rattle.gix_commitgraph.proofs.layers.GraphLemmas.{place-in}
use Rattle.gix_commitgraph.proofs.layers.LayerListLemmas.{size, start-all, start-more, start-fits}
use Rattle.gix_commitgraph.proofs.layers.PositionLemmas.{length-graph_commits}

-- what the commit at a place of a layer tells
abbrev pub node_at : Layer × ℕ → Node
node_at place = node_of place.0 (record_at place.0 place.1)

-- the commits of a layer, each by what it tells
layer_history-places : (layer : Layer) → IsOpened layer → layer_history layer ≡ map node_at (positions_from layer 0)
layer_history-places layer opened =
    let all = length layer.ids - 0 in
    let at : ℕ → Node = λ pos. node_of layer (record_at layer pos) in
    let paired = opened_is_paired layer opened in
    let long : length (layer_history layer) ≡ length layer.ids = length-layer_history layer ∙ paired in
    let counted : length (layer_history layer) ≡ length (map at (range_with_len 0 all)) =
    long ∙ sym (length-map-range_with_len at 0 all ∙ omega arith) in
    same_lists (layer_history layer) (map at (range_with_len 0 all)) counted (λ k d h.
    get_or_from_slice_get (layer_history layer) k (at k) d (layer_history-at layer k (omega (arith, h, long, paired)))
    ∙ sym (get_or-map-range_with_len at 0 all k k d (omega (arith, h, long)) (omega arith)))
    ∙ sym (map-map node_at (λ (pos : ℕ). (layer, pos)) (range_with_len 0 all))

-- the commits of a graph
history-places : (layers : List Layer) → All IsOpened layers → history_of layers ≡ map node_at (graph_commits layers)
unfolding history_of
history-places [] opened = refl
history-places (layer ∷ layers) opened =
    ap (λ (nodes : List Node). nodes ++ flat_map layer_history layers)
    (layer_history-places layer (All-head IsOpened layer layers opened))
    ∙ ap (λ (nodes : List Node). map node_at (positions_from layer 0) ++ nodes)
    (history-places layers (All-tail IsOpened layer layers opened))
    ∙ sym (map-append node_at (positions_from layer 0) (graph_commits layers))

pub length-history : (layers : List Layer) → All IsOpened layers → length (history_of layers) ≡ total layers
length-history layers opened =
    ap length (history-places layers opened) ∙ length-map (graph_commits layers) node_at ∙ length-graph_commits layers

-- the commit at a place of a layer is one of the history
pub within-history : (layers : List Layer) (i pos : ℕ) (layer : Layer) → All IsOpened layers → slice_get layers i ≡ Some layer
    → pos < size layer → start layers i + pos < length (history_of layers)
within-history layers i pos layer opened here within =
    omega (arith, length-history layers opened, start-more layers i layer here, start-fits layers (i + 1))

-- what the history tells of a position
pub history-told : (layers : List Layer) (p : ℕ) → All IsOpened layers
    → slice_get (history_of layers) p ≡ option_map node_at (slice_get (graph_commits layers) p)
history-told layers p opened =
    ap (λ (nodes : List Node). slice_get nodes p) (history-places layers opened) ∙ slice_get-map node_at (graph_commits layers) p

-- the same of a position that lies in a layer
pub history-placed : (layers : List Layer) (pos i : ℕ) (layer : Layer) → All IsOpened layers → LiesIn layers pos i layer
    → slice_get (history_of layers) pos ≡ Some (node_at (layer, pos - start layers i))
history-placed layers pos i layer opened lies =
    history-told layers pos opened ∙ ap (option_map node_at) (place-in layers pos i layer lies).commit

-- the same of a commit
module _ (layers : List Layer) (p j : ℕ) (layer : Layer) (opened : All IsOpened layers)
    (here : slice_get (graph_commits layers) p ≡ Some (layer, j)) where
  pub history-at : slice_get (history_of layers) p ≡ Some (node_at (layer, j))
  history-at = history-told layers p opened ∙ ap (option_map node_at) here

  pub generation-at : generation_at (history_of layers) p ≡ (record_at layer j).generation
  generation-at = ap (λ o. option_map_or (λ (node : Node). node.generation) o 0) history-at

  pub parents-at : parents_at (history_of layers) p ≡ map (λ pos. pos.0) (parents_of (record_at layer j) layer.edges).positions
  parents-at = ap (λ o. option_map_or (λ (node : Node). node.parents) o []) history-at

  -- the commits up to and with it
  pub take-history : take (p + 1) (history_of layers) ≡ take p (history_of layers) ++ node_at (layer, j) ∷ []
  take-history =
      take_more (history_of layers) p (node_at (layer, j)) (slice_get_within (history_of layers) p _ history-at)
      ∙ ap (λ (node : Node). take p (history_of layers) ++ node ∷ [])
      (get_or_from_slice_get (history_of layers) p (node_at (layer, j)) (node_at (layer, j)) history-at)

-- all commits stand before the end of the last layer
pub take-all : (layers : List Layer) (i : ℕ) → All IsOpened layers → length layers ≤ i
    → take (start layers i) (history_of layers) ≡ history_of layers
take-all layers i opened past =
    take_all (start layers i) (history_of layers) (omega (arith, length-history layers opened, start-all layers i past))
