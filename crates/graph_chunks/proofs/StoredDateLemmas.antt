-- the dates of layers, read one after another
use Rattle.std.proofs.Common.{◌≡◌, ℕ, zero, suc, ◌+◌, ◌<◌, ◌≤◌, ◌^◌, List, [], ◌∷◌, ◌++◌, All, length, take, Some, None}
use Rattle.std.proofs.Common.{option_map, get_or, refl, sym, ap, subst, ◌∙◌, arith, ⊎_elim}
use Rattle.std.specs.List.{flat_map}
use Rattle.std.specs.Option.{option_and_then}
use Rattle.std.proofs.lemmas.Bool.{cases_lt}
use Rattle.std.proofs.lemmas.List.{take_all, take_more, flat_map_more, length-append, length-map}
use Rattle.std.proofs.lemmas.List.Elements.{All-get_or, All-head, All-tail}
use Rattle.std.proofs.lemmas.List.Sums.{sum_by-cons}
use Rattle.std.proofs.lemmas.List.FromFn.{length-map-range_with_len}
use Rattle.std.proofs.lemmas.Option.{slice_get-get_or}
use Rattle.gix_chunk_core.specs.FirstFault.{first_below}
use Rattle.gix_chunk_core.proofs.FirstFaultLemmas.{first_below-none, first_below-none_more, first_below-found}
use Rattle.graph_format.specs.OptionalChunks.{date_of, stored_dates, offsets_in, overflow_in, times_in, dates_in}
use Rattle.graph_chunks.specs.declared.dates.layer.LayerDatesError.{LayerDatesError}
use Rattle.graph_format.specs.Layer.{Layer, IsOpened}
use Rattle.graph_walks.specs.Dates.{number_at}
use Rattle.gix_commitgraph.specs.Graph.{IsGraph, start, total}
use Rattle.gix_commitgraph.proofs.layers.LayerListLemmas.{counted-fits, start-more, start-none}
use Rattle.graph_format.proofs.LayerHistoryLemmas.{opened_is_paired}
use Rattle.graph_chunks.specs.GraphStoredDates.{dates_of, layer_dates_refusal}
use Rattle.graph_chunks.specs.GraphDates.{in_graph, reading_fault}

-- the dates of the layers below layer i
abbrev pub dates_below : List Layer → ℕ → List ℕ
dates_below layers i = flat_map dates_in (take i layers)

pub read-none : (layers : List Layer) → [] ≡ dates_below layers 0
read-none layers = refl

pub read-more : (layers : List Layer) (i : ℕ) (d : Layer) (now : List ℕ) → i < length layers → now ≡ dates_below layers i
    → now ++ dates_in (get_or layers i d) ≡ dates_below layers (i + 1)
read-more layers i d now within same =
    ap (λ (ds : List ℕ). ds ++ dates_in (get_or layers i d)) same
    ∙ flat_map_more dates_in [] (take i layers) (get_or layers i d)
    ∙ ap (flat_map dates_in) (sym (take_more layers i d within))

pub read-all : (layers : List Layer) (i : ℕ) → length layers ≤ i → dates_below layers i ≡ dates_of layers
unfolding dates_of
read-all layers i all = ap (flat_map dates_in) (take_all i layers all)

pub reading-none : (layers : List Layer) → first_below (reading_fault layers) 0 ≡ None
reading-none layers = first_below-none (reading_fault layers)

-- what layer i says of its reading
fault_at : (layers : List Layer) (i : ℕ) (d : Layer) → i < length layers
    → reading_fault layers i ≡ option_map (in_graph i (start layers i)) (layer_dates_refusal (get_or layers i d))
fault_at layers i d within =
    ap (λ o. option_map (in_graph i (start layers i)) (option_and_then layer_dates_refusal o))
    (slice_get-get_or layers i d within)

pub reading-fine : (layers : List Layer) (i : ℕ) (d : Layer) → first_below (reading_fault layers) i ≡ None → i < length layers
    → layer_dates_refusal (get_or layers i d) ≡ None → first_below (reading_fault layers) (i + 1) ≡ None
reading-fine layers i d none within fine =
    first_below-none_more (reading_fault layers) i none
    (fault_at layers i d within ∙ ap (option_map (in_graph i (start layers i))) fine)

pub reading-found : (layers : List Layer) (i before : ℕ) (d : Layer) (error : LayerDatesError)
    → first_below (reading_fault layers) i ≡ None → i < length layers → before ≡ start layers i
    → layer_dates_refusal (get_or layers i d) ≡ Some error
    → first_below (reading_fault layers) (length layers) ≡ Some (in_graph i before error)
reading-found layers i before d error none within counted found =
    first_below-found (reading_fault layers) i (length layers) (in_graph i before error) none
    (fault_at layers i d within
    ∙ ap (option_map (in_graph i (start layers i))) found
    ∙ ap (λ (n : ℕ). Some (in_graph i n error)) (sym counted)) within

-- the commits up to the end of layer i are few, and as many as stand before the next one
pub layer-fits : (layers items : List Layer) (i before : ℕ) (d : Layer) → IsGraph layers → items ≡ layers → i < length items
    → before ≡ start items i → before + length (get_or items i d).ids < 2 ^ 32
layer-fits layers items i before d graph same within counted =
    let here = slice_get-get_or items i d within in
    counted-fits items i before (get_or items i d) (subst IsGraph (sym same) graph) counted here

pub layer-next : (items : List Layer) (i before : ℕ) (d : Layer) → i < length items → before ≡ start items i
    → before + length (get_or items i d).ids ≡ start items (i + 1)
layer-next items i before d within counted =
    let here = slice_get-get_or items i d within in
    omega (arith, counted, start-more items i (get_or items i d) here)

length-dates_in : (layer : Layer) → IsOpened layer → length (dates_in layer) ≡ length layer.ids
unfolding dates_in stored_dates
length-dates_in layer opened =
    length-map-range_with_len (date_of (offsets_in layer) (overflow_in layer) (times_in layer)) 0 (length (times_in layer))
    ∙ length-map layer.records (λ r. r.time)
    ∙ opened_is_paired layer opened

pub length-dates_of : (layers : List Layer) → All IsOpened layers → length (dates_of layers) ≡ total layers
unfolding dates_of
length-dates_of [] opened = refl
length-dates_of (layer ∷ layers) opened =
    omega (
      arith,
      length-append (dates_in layer) (flat_map dates_in layers),
      length-dates_in layer (All-head IsOpened layer layers opened),
      length-dates_of layers (All-tail IsOpened layer layers opened),
      sum_by-cons (λ (l : Layer). length l.ids) layer layers,
    )

past : (numbers : List ℕ) (p : ℕ) → length numbers ≤ p → number_at numbers p ≡ 0
past [] p le = refl
past (n ∷ numbers) zero le = absurd (omega arith)
past (n ∷ numbers) (suc p) le = past numbers p (omega arith)

pub small_at : (dates : List ℕ) → All (λ date. date < 2 ^ 63) dates → (p : ℕ) → number_at dates p < 2 ^ 63
small_at dates small p =
    ⊎_elim
    (λ (lt : p < length dates). All-get_or (λ date. date < 2 ^ 63) dates p 0 lt small)
    (λ (le : length dates ≤ p). omega (arith, past dates p le))
    (cases_lt p (length dates))

pub ruleset reading_laws = (read-none, read-more, read-all, reading-none, reading-fine, reading-found, start-none)
