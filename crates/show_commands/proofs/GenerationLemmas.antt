-- The greatest generation number of a graph with one more layer.
use Rattle.std.proofs.Common.{◌≡◌, ℕ, List, [], ◌∷◌, ◌++◌, map, max, fold, refl, ap, sym, ◌∙◌, append-nil}
use Rattle.std.proofs.lemmas.Grind.{flat_map-append, fold-append}
use Rattle.std.proofs.lemmas.List.{map-append}
use Rattle.std.specs.List.{flat_map}
use Rattle.graph_walks.specs.Counts.{greatest}
use Rattle.graph_walks.specs.History.{Node, generations}
use Rattle.graph_format.specs.Format.{Record}
use Rattle.graph_format.specs.Layer.{Layer}
use Rattle.graph_format.specs.StoredHistory.{history_of, layer_history, node_of}

-- the generation numbers of a layer's commits are those of its records
record_generations : (layer : Layer) (records : List Record)
    → generations (map (node_of layer) records) ≡ map (λ (r : Record). r.generation) records
record_generations layer [] = refl
record_generations layer (r ∷ records) = ap (λ (rest : List ℕ). r.generation ∷ rest) (record_generations layer records)

layer_generations : (layer : Layer) → generations (layer_history layer) ≡ map (λ (r : Record). r.generation) layer.records
unfolding layer_history
layer_generations layer = record_generations layer layer.records

history-push : (layers : List Layer) (layer : Layer)
    → history_of (layers ++ layer ∷ []) ≡ history_of layers ++ layer_history layer
unfolding history_of
history-push layers layer =
    flat_map-append layer_history layers (layer ∷ [])
    ∙ ap (λ (last : List Node). flat_map layer_history layers ++ last) (append-nil (layer_history layer))

pub greatest-push : (layers : List Layer) (layer : Layer)
    → fold max (greatest (generations (history_of layers))) (map (λ (r : Record). r.generation) layer.records)
    ≡ greatest (generations (history_of (layers ++ layer ∷ [])))
greatest-push layers layer =
    sym (ap (λ (history : List Node). greatest (generations history)) (history-push layers layer)
    ∙ ap greatest (map-append (λ (node : Node). node.generation) (history_of layers) (layer_history layer))
    ∙ ap (λ (last : List ℕ). greatest (generations (history_of layers) ++ last)) (layer_generations layer)
    ∙ fold-append max 0 (generations (history_of layers)) (map (λ (r : Record). r.generation) layer.records))

-- no layer, no generation number
pub greatest_of_no_layers : 0 ≡ greatest (generations (history_of []))
unfolding history_of
greatest_of_no_layers = refl
