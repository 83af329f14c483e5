-- In a graph that is right, the parents of each commit are there.
use Rattle.std.proofs.Common.{◌≡◌, ℕ, ◌+◌, ◌<◌, List, [], length, slice_get, All, Option, Some, None, option_map}
use Rattle.std.proofs.Common.{refl, sym, ap, subst, ◌∙◌, arith}
use Rattle.std.specs.Option.{option_map_or}
use Rattle.std.proofs.lemmas.List.Elements.{All-map, All-nil}
use Rattle.graph_walks.specs.History.{Node, parents_at}
use Rattle.graph_format.specs.Layer.{Layer, IsOpened, no_record}
use Rattle.graph_format.specs.Parents.{parents_of}
use Rattle.graph_format.specs.StoredHistory.{history_of}
use Rattle.graph_format.specs.declared.Position.{Position}
use Rattle.graph_format.proofs.CommitFaultFreeLemmas.{record_at-get_or}
use Rattle.graph_format.proofs.LayerHistoryLemmas.{opened_is_paired}
use Rattle.gix_commitgraph.specs.Graph.{graph_commits, stop, total}
use Rattle.gix_commitgraph.specs.ListedTallies.{AreWithin}
use Rattle.gix_commitgraph.specs.Sound.{AreParentsKnown, Sound}
use Rattle.gix_commitgraph.specs.Tallies.{decoded_at}
use Rattle.gix_commitgraph.proofs.history.HistoryLemmas.{node_at, history-told, parents-at}
use Rattle.gix_commitgraph.proofs.layers.GraphLemmas.{commit-lies}
use Rattle.gix_commitgraph.proofs.layers.LayerListLemmas.{start-fits, start-more}
use Rattle.gix_commitgraph.proofs.lookup.ElementLemmas.{all-at}

-- the parents of a commit of a layer, where all that the layer has are known
pub known-at : (layers : List Layer) (i pos : ℕ) (layer : Layer) → IsOpened layer → AreParentsKnown layers i layer
    → pos < length layer.ids → AreWithin (stop layers i) (decoded_at layer pos)
known-at layers i pos layer opened known below =
    let within : pos < length layer.records = omega (arith, opened_is_paired layer opened) in
    subst (λ r. AreWithin (stop layers i) (parents_of r layer.edges)) (sym (record_at-get_or layer pos))
    (record { decoded = known.decoded pos no_record within; below = known.within pos no_record within })

known-there : (layers : List Layer) (p pos : ℕ) (layer : Layer) → All IsOpened layers → Sound layers
    → slice_get (graph_commits layers) p ≡ Some (layer, pos) → AreWithin (total layers) (decoded_at layer pos)
known-there layers p pos layer opened sound here =
    let place = commit-lies layers p pos layer here in
    let i = place.0 in
    let lies = place.1 in
    let known =
    known-at layers i pos layer (all-at IsOpened layers i layer opened lies.there) (sound.parents i layer lies.there)
    (omega (arith, place.2, lies.from, lies.below, start-more layers i layer lies.there)) in
    record { decoded = known.decoded; below = λ k d h. omega (arith, known.below k d h, start-fits layers (i + 1)) }

-- the parents of a commit are decoded
pub known-decoded : (layers : List Layer) (p pos : ℕ) (layer : Layer) → All IsOpened layers → Sound layers
    → slice_get (graph_commits layers) p ≡ Some (layer, pos) → (decoded_at layer pos).fault ≡ None
known-decoded layers p pos layer opened sound here = (known-there layers p pos layer opened sound here).decoded

abbrev AreThere : List Layer → List ℕ → Type 0
AreThere layers qs = All (λ q. q < total layers) qs

there-at : (layers : List Layer) (p : ℕ) (o : Option (Layer × ℕ)) → All IsOpened layers → Sound layers
    → slice_get (graph_commits layers) p ≡ o → AreThere layers (parents_at (history_of layers) p)
there-at layers p None opened sound here =
    let none = history-told layers p opened ∙ ap (option_map node_at) here in
    subst (AreThere layers) (sym (ap (λ o. option_map_or (λ (node : Node). node.parents) o []) none))
    (All-nil (λ q. q < total layers))
there-at layers p (Some (layer, pos)) opened sound here =
    subst (AreThere layers) (sym (parents-at layers p pos layer opened here))
    (All-map (λ q. q < total layers) (λ (q : Position). q.0) (decoded_at layer pos).positions
    (known-there layers p pos layer opened sound here).below)

-- all parents are commits of the graph
pub known-within : (layers : List Layer) (p : ℕ) → All IsOpened layers → Sound layers
    → All (λ q. q < total layers) (parents_at (history_of layers) p)
known-within layers p opened sound = there-at layers p (slice_get (graph_commits layers) p) opened sound refl
