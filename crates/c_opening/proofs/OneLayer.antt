-- the lookup of an id in a graph of one layer
use Rattle.std.proofs.Common.{◌≡◌, ◌∙◌, ℕ, ◌+◌, List, length, slice_get, Some, None, ap, arith, subst, sym}
use Rattle.std.proofs.lemmas.Option.{slice_get_within}
use Rattle.graph_format.specs.Layer.{Layer}
use Rattle.graph_format.specs.Lookup.{Found}
use Rattle.gix_commitgraph.specs.Graph.{graph_ids, start}
use Rattle.gix_commitgraph.specs.GraphLookup.{FoundIn}
use Rattle.gix_commitgraph.proofs.layers.LayerListLemmas.{graph_ids-at, start-none}
use Rattle.gix_commitgraph.proofs.lookup.GraphLookupLemmas.{found_in-at, found_in-none, missed-none, missed-more}

-- before the only layer there is no commit
none_before : (layers : List Layer) (pos : ℕ) → start layers 0 + pos ≡ pos
none_before layers pos = ap (λ (n : ℕ). n + pos) (start-none layers) ∙ omega arith

-- The answer of the only layer is that of the graph.
pub only_none : (layers : List Layer) (layer : Layer) (id : List ℕ) → length layers ≡ 1 → slice_get layers 0 ≡ Some layer
    → Found layer id None → FoundIn layers id None
only_none layers layer id one here found =
    found_in-none layers id 1 (missed-more layers id 0 layer (missed-none layers id) here found) (omega (arith, one))

pub only_found : (layers : List Layer) (layer : Layer) (id : List ℕ) (pos : ℕ) → slice_get layers 0 ≡ Some layer
    → Found layer id (Some pos) → FoundIn layers id (Some pos)
only_found layers layer id pos here found =
    subst (λ (n : ℕ). FoundIn layers id (Some n)) (none_before layers pos)
    (found_in-at layers id 0 pos layer (missed-none layers id) here found)

-- and the id stands there
pub only_holds : (layers : List Layer) (layer : Layer) (id : List ℕ) (pos : ℕ) → slice_get layers 0 ≡ Some layer
    → Found layer id (Some pos) → slice_get (graph_ids layers) pos ≡ Some id
only_holds layers layer id pos here found =
    ap (slice_get (graph_ids layers)) (sym (none_before layers pos))
    ∙ graph_ids-at layers 0 pos layer here (slice_get_within layer.ids pos id found.holds)
    ∙ found.holds

pub ruleset lookup_laws = (only_none, only_found, only_holds)
