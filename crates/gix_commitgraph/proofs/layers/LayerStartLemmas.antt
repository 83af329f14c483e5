-- laws of the starts of the layers of a graph, and of a search that halves them
use Rattle.std.proofs.Common.{◌≡◌, ℕ, ◌+◌, ◌-◌, ◌/◌, ◌<◌, ◌≤◌, List, [], ◌∷◌, ◌++◌, drop, length, take, slice_get, slice_index}
use Rattle.std.proofs.Common.{get_or, Some, refl, sym, ap, ◌∙◌, arith, ⊎_elim}
use Rattle.std.proofs.lemmas.Bool.{cases_lt}
use Rattle.std.proofs.lemmas.List.{get_or_read, get_or_append_left, get_or_push, get_or-take, length_push, length-take-le}
use Rattle.std.proofs.lemmas.List.{length-drop, take-append-le, take-take, take_all}
use Rattle.std.proofs.lemmas.List.Elements.{All-take}
use Rattle.std.proofs.lemmas.Option.{slice_get_read}
use Rattle.graph_format.specs.Layer.{Layer, positions_from}
use Rattle.graph_format.specs.Lookup.{digits}
use Rattle.graph_format.proofs.DigitLemmas.{digits-half, digits-enough, digits-needed}
use Rattle.graph_format.specs.Layer.{IsOpened}
use Rattle.gix_commitgraph.specs.Graph.{graph_ids, graph_commits, start, stop, total, IsGraph}
use Rattle.gix_commitgraph.specs.GraphLaw.{LiesIn}
use Rattle.gix_commitgraph.proofs.layers.GraphLemmas.{place-in}
use Rattle.gix_commitgraph.proofs.layers.LayerListLemmas.{size, start-more, start-all, start-fits}
use Rattle.gix_commitgraph.proofs.layers.PositionLemmas.{commits-from}
use Rattle.gix_commitgraph.specs.LayerStarts.{AreStarts, IsGraphWithStarts}

-- a lesser number has no more digits
pub digits-rise : (n more : ℕ) → n ≤ more → digits n ≤ digits more
digits-rise n more h = digits-enough n (digits more) (omega (arith, digits-needed more))

-- half of a number, and more, has at most a digit less
pub digits-upper : (n half : ℕ) → 0 < n → n / 2 ≤ half → digits n ≤ digits half + 1
digits-upper n half some h = omega (arith, digits-half n some, digits-rise (n / 2) half h)

pub digits-one : digits 1 ≡ 1
unfolding digits
digits-one = refl

-- the start that a graph keeps of a layer
pub start-kept : (layers files : List Layer) (starts : List ℕ) (i found : ℕ) → files ≡ layers → IsGraphWithStarts files starts
    → i < length layers
    → found ≡ get_or starts i found → found ≡ start layers i
start-kept layers files starts i found view kept within read =
    let inside : i < length starts = omega (arith, kept.counted.one_each, ap length view) in
    get_or_read starts i found inside read 0 ∙ kept.counted.each i inside ∙ ap (λ (ls : List Layer). start ls i) view

-- The starts of so many layers.
pub record StartsUpTo (layers : List Layer) (count : ℕ) (found : List ℕ) : Type 0 where
  pub counted : length found ≡ count
  pub each : (i : ℕ) → i < count → slice_index found i ≡ start layers i

pub starts-none : (layers : List Layer) → StartsUpTo layers 0 []
starts-none layers = record { counted = refl; each = λ i h. absurd (omega (arith, h)) }

pub starts-more : (layers : List Layer) (count next : ℕ) (found more : List ℕ) → StartsUpTo layers count found
    → next ≡ start layers count → more ≡ found ++ next ∷ [] → StartsUpTo layers (count + 1) more
starts-more layers count next found more starts is pushed = record {
  counted = ap length pushed ∙ length_push found next ∙ omega (arith, starts.counted);
  each = λ i h. ap (λ (ns : List ℕ). slice_index ns i) pushed ∙ ⊎_elim
      (λ (before : i < count). get_or_append_left found (next ∷ []) 0 i (omega (arith, starts.counted)) ∙ starts.each i before)
      (λ (at : count ≤ i). get_or_push found next 0 i (omega (arith, starts.counted)) ∙ is ∙ ap (start layers) (omega arith))
      (cases_lt i count);
}

pub starts-all : (layers : List Layer) (count : ℕ) (found : List ℕ) → StartsUpTo layers count found → count ≡ length layers
    → AreStarts layers found
starts-all layers count found starts all = record {
  one_each = starts.counted ∙ all;
  each = λ i h. starts.each i (omega (arith, h, starts.counted));
}

-- the layer that a graph keeps at an index
pub layer-kept : (layers files : List Layer) (i : ℕ) (layer : Layer) → files ≡ layers → i < length layers
    → layer ≡ get_or files i layer → slice_get layers i ≡ Some layer
layer-kept layers files i layer view within read =
    ap (λ (ls : List Layer). slice_get ls i) (sym view)
    ∙ slice_get_read files (length files) i layer refl (omega (arith, ap length view)) read

-- the last layer ends where the graph does
pub last-stop : (layers : List Layer) (last first : ℕ) (layer : Layer) → last + 1 ≡ length layers → first ≡ start layers last
    → slice_get layers last ≡ Some layer → first + size layer ≡ total layers
last-stop layers last first layer is_last is_first here =
    omega (arith, start-more layers last layer here, start-all layers (last + 1) (omega arith))

-- A position, by the start of its layer and the layer.
pub record IsKeptPlace (layers : List Layer) (pos first : ℕ) (layer : Layer) : Type 0 where
  pub commit : slice_get (graph_commits layers) pos ≡ Some (layer, pos - first)
  pub id : slice_get (graph_ids layers) pos ≡ slice_get layer.ids (pos - first)
  pub within : pos - first < size layer

pub place-kept : (layers files : List Layer) (starts : List ℕ) (pos i first : ℕ) (layer : Layer) → files ≡ layers
    → IsGraphWithStarts files starts → i < length layers
    → first ≡ get_or starts i first → layer ≡ get_or files i layer → start layers i ≤ pos → pos < stop layers i
    → IsKeptPlace layers pos first layer
place-kept layers files starts pos i first layer view kept within read_start read_layer from below =
    let is_first = start-kept layers files starts i first view kept within read_start in
    let here = layer-kept layers files i layer view within read_layer in
    let lies : LiesIn layers pos i layer = record { there = here; from = from; below = below } in
    let place = place-in layers pos i layer lies in
    record {
      commit = rw is_first place.commit;
      id = rw is_first place.id;
      within = omega (arith, is_first, from, below, start-more layers i layer here);
    }

-- the commits from a position on: those of its layer, and the layers after it
pub places-kept : (layers items files : List Layer) (starts : List ℕ) (pos i first : ℕ) (layer : Layer) → items ≡ layers
    → files ≡ items → IsGraphWithStarts items starts → i < length layers
    → first ≡ get_or starts i first → layer ≡ get_or items i layer → start layers i ≤ pos → pos < stop layers i
    → positions_from layer (pos - first) ++ graph_commits (take (length files - (i + 1)) (drop (i + 1) files))
    ≡ drop pos (graph_commits layers)
places-kept layers items files starts pos i first layer view value kept within read_start read_layer from below =
    let is_first = start-kept layers items starts i first view kept within read_start in
    let here = layer-kept layers items i layer view within read_layer in
    let inside : pos - first ≤ size layer = omega (arith, is_first, from, below, start-more layers i layer here) in
    let all : take (length files - (i + 1)) (drop (i + 1) files) ≡ drop (i + 1) layers =
    take_all (length files - (i + 1)) (drop (i + 1) files) (omega (arith, length-drop (i + 1) files))
    ∙ ap (drop (i + 1)) (value ∙ view) in
    ap (λ (ls : List Layer). positions_from layer (pos - first) ++ graph_commits ls) all
    ∙ sym (commits-from layers i (pos - first) layer here inside)
    ∙ ap (λ (n : ℕ). drop n (graph_commits layers)) (omega (arith, is_first, from))

-- a layer that is put on top
start-front : (layers rest : List Layer) (i : ℕ) → i ≤ length layers → start (layers ++ rest) i ≡ start layers i
unfolding start
start-front layers rest i h = ap total (take-append-le i layers rest h)

pub starts-pushed : (layers : List Layer) (starts : List ℕ) (layer : Layer) (first : ℕ) → AreStarts layers starts
    → first ≡ total layers → AreStarts (layers ++ layer ∷ []) (starts ++ first ∷ [])
starts-pushed layers starts layer first kept is_first =
    let all = layers ++ layer ∷ [] in
    let upto : StartsUpTo all (length layers) starts = record {
      counted = kept.one_each;
      each = λ i h. kept.each i (omega (arith, kept.one_each)) ∙ sym (start-front layers (layer ∷ []) i (omega arith));
    } in
    let next : first ≡ start all (length layers) =
    is_first
    ∙ sym (start-all layers (length layers) (omega arith))
    ∙ sym (start-front layers (layer ∷ []) (length layers) (omega arith)) in
    starts-all all (length layers + 1) _ (starts-more all (length layers) first starts _ upto next refl)
    (sym (length_push layers layer))

-- the highest layer is taken off
graph-taken : (layers : List Layer) (n : ℕ) → IsGraph layers → n ≤ length layers → 0 < n → IsGraph (take n layers)
unfolding start
graph-taken layers n graph fits some = record {
  makes = record {
    some = omega (arith, length-take-le n layers fits);
    few = omega (arith, start-fits layers n, graph.makes.few);
    alike = λ i j d before within.
        let below : j < n = omega (arith, length-take-le n layers fits) in
        rw (get_or-take n layers i d (omega arith), get_or-take n layers j d below)
        (graph.makes.alike i j d before (omega arith));
  };
  opened = All-take IsOpened n layers graph.opened;
}

pub kept-taken : (layers : List Layer) (starts : List ℕ) (n : ℕ) → IsGraphWithStarts layers starts → n ≤ length layers → 0 < n
    → IsGraphWithStarts (take n layers) (take n starts)
unfolding start
kept-taken layers starts n kept fits some =
    let long : n ≤ length starts = omega (arith, kept.counted.one_each) in
    record {
      graph = graph-taken layers n kept.graph fits some;
      counted = record {
        one_each = length-take-le n starts long ∙ sym (length-take-le n layers fits);
        each = λ i h.
            let below : i < n = omega (arith, length-take-le n starts long) in
            get_or-take n starts i 0 below
            ∙ kept.counted.each i (omega arith)
            ∙ ap total (sym (take-take i n layers (omega arith)));
      };
    }
