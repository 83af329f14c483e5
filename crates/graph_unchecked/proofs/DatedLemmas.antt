-- what the layers of a graph tell, with their corrected dates
use Rattle.std.proofs.Common.{◌≡◌, ℕ, ◌-◌, ◌≤◌, List, [], ◌∷◌, ◌++◌, All, Bool, length, map, min}
use Rattle.std.proofs.Common.{Option, Some, if◌then◌else◌, refl, sym, ap, ◌∙◌, arith, option_map}
use Rattle.std.specs.List.{flat_map, range_with_len, slice_get}
use Rattle.std.proofs.lemmas.Bool.{le-ltb, lt-ltb}
use Rattle.std.proofs.lemmas.List.{length-map, map-append}
use Rattle.std.proofs.lemmas.List.Elements.{All-head, All-tail}
use Rattle.std.proofs.lemmas.Option.{get_or_from_slice_get, slice_get-map, slice_get_within}
use Rattle.std.proofs.lemmas.Simd.{map-map}
use Rattle.std.proofs.lemmas.Slice.Zip.{AllZip-long}
use Rattle.graph_folder.specs.Tree.{Tree}
use Rattle.graph_walks.specs.Dates.{number_at}
use Rattle.graph_format.specs.Layer.{IsOpened, Layer, positions_from}
use Rattle.graph_format.specs.OptionalChunks.{date_of, dates_in, offsets_in, overflow_in, stored_dates, times_in}
use Rattle.graph_format.proofs.LayerHistoryLemmas.{opened_is_paired}
use Rattle.gix_commitgraph.specs.Graph.{graph_commits}
use Rattle.commit_search.specs.EdgeLists.{list_in}
use Rattle.commit_search.specs.Source.{Told}
use Rattle.graph_chunks.specs.GraphStoredDates.{dates_of}
use Rattle.graph_parts.specs.Offsets.{StoresDate}
use Rattle.graph_parts.specs.Shown.{Shows}
use Rattle.graph_parts.specs.ShownLayer.{ShowsLayer}
use Rattle.graph_parts.specs.declared.parts.GraphParts.{GraphParts}
use Rattle.graph_unchecked.specs.PartSource.{PartsTell, past_all_layers, told_dates, told_with_dates}

-- the list of a layer is told
pub lists-below : (layers : List Layer) (l : ℕ) (layer : Layer) → slice_get layers l ≡ Some layer
    → (told_with_dates layers).lists l ≡ list_in layers l
lists-below layers l layer there =
    ap (λ (b : Bool). if b then list_in layers l else dates_of layers)
    (lt-ltb l (length layers) (slice_get_within layers l layer there))

-- and past all layers the dates
pub dates-past : (layers : List Layer) → length layers ≤ past_all_layers
    → (told_with_dates layers).lists past_all_layers ≡ dates_of layers
dates-past layers few =
    ap (λ (b : Bool). if b then list_in layers past_all_layers else dates_of layers)
    (le-ltb past_all_layers (length layers) few)

-- what a layer stores of the dates of its commits
abbrev pub date-of : Layer × ℕ → ℕ
date-of commit = date_of (offsets_in commit.0) (overflow_in commit.0) (times_in commit.0) commit.1

dates-of-layer : (layer : Layer) → IsOpened layer → dates_in layer ≡ map date-of (positions_from layer 0)
unfolding dates_in stored_dates
dates-of-layer layer opened =
    let long : length (times_in layer) ≡ length layer.ids =
    length-map layer.records (λ r. r.time) ∙ opened_is_paired layer opened in
    let count : length (times_in layer) ≡ length layer.ids - 0 = omega (arith, long) in
    ap (λ (n : ℕ). map (λ p. date-of (layer, p)) (range_with_len 0 n)) count
    ∙ sym (map-map date-of (λ (p : ℕ). (layer, p)) (range_with_len 0 (length layer.ids - 0)))

dates-listed : (layers : List Layer) → All IsOpened layers → dates_of layers ≡ map date-of (graph_commits layers)
unfolding dates_of
dates-listed [] opened = refl
dates-listed (layer ∷ layers) opened =
    ap (λ (ds : List ℕ). ds ++ flat_map dates_in layers) (dates-of-layer layer (All-head IsOpened layer layers opened))
    ∙ ap (λ (ds : List ℕ). map date-of (positions_from layer 0) ++ ds)
    (dates-listed layers (All-tail IsOpened layer layers opened))
    ∙ sym (map-append date-of (positions_from layer 0) (graph_commits layers))

-- the date at a position
pub date-listed : (layers : List Layer) (p pos : ℕ) (layer : Layer) → All IsOpened layers
    → slice_get (graph_commits layers) p ≡ Some (layer, pos) → number_at (dates_of layers) p ≡ date-of (layer, pos)
date-listed layers p pos layer opened stands =
    let here : slice_get (map date-of (graph_commits layers)) p ≡ Some (date-of (layer, pos)) =
    slice_get-map date-of (graph_commits layers) p ∙ ap (option_map date-of) stands in
    ap (λ (ds : List ℕ). number_at ds p) (dates-listed layers opened)
    ∙ get_or_from_slice_get (map date-of (graph_commits layers)) p (date-of (layer, pos)) 0 here

-- the date that is read of a commit
pub date-told : (known : Option Tree) (parts : GraphParts) (p date : ℕ)
    → ((layers : List Layer) → Shows known parts layers → StoresDate layers p date)
    → (t : Told) → PartsTell known parts t → date ≡ (told_dates t).rank p
date-told known parts p date stores t tells =
    let layers = tells.layers in
    let at = stores layers tells.shows in
    let long = AllZip-long (ShowsLayer known) parts.layers.items layers tells.shows in
    let few : length layers ≤ past_all_layers = omega (arith, long, parts.layers.ok) in
    at.says
    ∙ ap (λ (d : ℕ). min d 18446744073709551615)
    (sym (date-listed layers p at.pos at.layer tells.graph.opened at.stands)
    ∙ ap (λ (ds : List ℕ). number_at ds p) (sym (dates-past layers few))
    ∙ ap (λ (x : Told). number_at (x.lists past_all_layers) p) (sym tells.told))
