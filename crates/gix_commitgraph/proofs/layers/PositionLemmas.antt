-- laws of what the iterators over a graph have left
use Rattle.std.proofs.Common.{◌≡◌, ℕ, zero, suc, ◌+◌, ◌-◌, ◌<◌, ◌≤◌, List, [], ◌∷◌, ◌++◌, map, length, take, drop, unwrap_or}
use Rattle.std.proofs.Common.{Some, get_or, slice_get, refl, sym, ap, ◌∙◌, arith, length-append}
use Rattle.std.specs.List.{range_with_len}
use Rattle.std.proofs.lemmas.List.{drop_all, length-drop, map-append, same_lists, take_all}
use Rattle.std.proofs.lemmas.List.FromFn.{length-map-range_with_len, get_or-map-range_with_len}
use Rattle.std.proofs.lemmas.List.Sums.{sum_by-cons}
use Rattle.std.proofs.lemmas.Option.{unwrap_or-slice_get, get_or_from_slice_get, slice_get-get_or, same_Some}
use Rattle.std.proofs.Math.Seq.{drop-append-add}
use Rattle.std.proofs.lemmas.Simd.{map-map}
use Rattle.graph_format.specs.Layer.{Layer}
use Rattle.graph_format.specs.Layer.{positions_from}
use Rattle.gix_commitgraph.specs.Graph.{graph_ids, graph_commits, start, total}
use Rattle.gix_commitgraph.specs.GraphRemaining.{id_of}
use Rattle.graph_layer.proofs.ElementLemmas.{range-next}
use Rattle.gix_commitgraph.proofs.layers.LayerListLemmas.{size, length-places, start-cons, start-none}

-- the position that comes next
pub places-next : (layer : Layer) (i : ℕ) (rest : List (Layer × ℕ)) → i < length layer.ids
    → positions_from layer i ++ rest ≡ (layer, i) ∷ (positions_from layer (i + 1) ++ rest)
places-next layer i rest h =
    ap (λ (ps : List (Layer × ℕ)). ps ++ rest) (range-next (λ (pos : ℕ). (layer, pos)) i (length layer.ids) h)

pub length-places-next : (layer : Layer) (i : ℕ) (rest : List (Layer × ℕ)) → i < length layer.ids
    → length (positions_from layer i ++ rest) ≡ length (positions_from layer (i + 1) ++ rest) + 1
length-places-next layer i rest h = ap length (places-next layer i rest h) ∙ omega arith

-- the positions that follow the first so many
places-after : (layer : Layer) (i k : ℕ) (rest : List (Layer × ℕ)) → i + k ≤ length layer.ids
    → drop k (positions_from layer i ++ rest) ≡ positions_from layer (i + k) ++ rest
places-after layer i zero rest h = ap (λ (n : ℕ). positions_from layer n ++ rest) (omega arith)
places-after layer i (suc k) rest h =
    ap (drop (suc k)) (places-next layer i rest (omega (arith, h)))
    ∙ places-after layer (i + 1) k rest (omega (arith, h))
    ∙ ap (λ (n : ℕ). positions_from layer n ++ rest) (omega arith)

-- the commits from a position of a layer on
pub commits-from : (layers : List Layer) (i j : ℕ) (layer : Layer) → slice_get layers i ≡ Some layer → j ≤ size layer
    → drop (start layers i + j) (graph_commits layers) ≡ positions_from layer j ++ graph_commits (drop (i + 1) layers)
commits-from [] i j layer here h = cc
commits-from (x ∷ xs) zero j layer here h =
    let same : x ≡ layer = same_Some x layer here in
    ap (λ (n : ℕ). drop (n + j) (graph_commits (x ∷ xs))) (start-none (x ∷ xs))
    ∙ ap (λ (n : ℕ). drop n (graph_commits (x ∷ xs))) (none j)
    ∙ places-after x 0 j (graph_commits xs) (omega (arith, h, ap size same))
    ∙ ap (λ (n : ℕ). positions_from x n ++ graph_commits xs) (none j)
    ∙ ap (λ (l : Layer). positions_from l j ++ graph_commits xs) same
  where
    none : (n : ℕ) → 0 + n ≡ n
    none n = omega arith
commits-from (x ∷ xs) (suc i) j layer here h =
    ap (λ (n : ℕ). drop n (graph_commits (x ∷ xs))) (omega (arith, start-cons x xs i, length-places x))
    ∙ drop-append-add (positions_from x 0) (graph_commits xs) (start xs i + j)
    ∙ commits-from xs i j layer here h
    ∙ ap (λ (n : ℕ). positions_from layer j ++ graph_commits (drop n (x ∷ xs))) (more i)
  where
    more : (n : ℕ) → suc (n + 1) ≡ suc n + 1
    more n = omega arith

-- as many as there are commits
pub length-graph_commits : (layers : List Layer) → length (graph_commits layers) ≡ total layers
length-graph_commits [] = refl
length-graph_commits (layer ∷ layers) =
    omega (
      arith,
      length-append (positions_from layer 0) (graph_commits layers),
      length-places layer,
      length-graph_commits layers,
      sum_by-cons size layer layers,
    )

first-and-rest : (layers : List Layer) (first : Layer) → 0 < length layers → first ≡ get_or layers 0 first
    → positions_from first 0 ++ graph_commits (take (length layers - 1) (drop 1 layers)) ≡ graph_commits layers
first-and-rest [] first some is = absurd (omega (arith, some))
first-and-rest (x ∷ xs) first some is =
    let head : first ≡ x = is in
    ap (λ (l : Layer). positions_from l 0 ++ graph_commits (take (length (x ∷ xs) - 1) xs)) head
    ∙ ap (λ (ls : List Layer). positions_from x 0 ++ graph_commits ls) (take_all (length (x ∷ xs) - 1) xs (omega arith))

-- the first layer and the others are all layers
pub all-places : (layers items files : List Layer) (first : Layer) → 0 < length items → items ≡ layers → files ≡ items
    → first ≡ get_or items 0 first → positions_from first 0 ++ graph_commits (take (length files - 1) (drop 1 files))
    ≡ graph_commits layers
all-places layers items files first some view value is =
    first-and-rest files first (omega (arith, some, ap length value)) (is
    ∙ ap (λ (ls : List Layer). get_or ls 0 first) (sym value)) ∙ ap graph_commits (value ∙ view)

pub length-all_places : (layers items files : List Layer) (first : Layer) → 0 < length items → items ≡ layers → files ≡ items
    → first ≡ get_or items 0 first → total layers
    ≡ length (positions_from first 0 ++ graph_commits (take (length files - 1) (drop 1 files)))
length-all_places layers items files first some view value is = sym (length-graph_commits layers)
    ∙ ap length (sym (all-places layers items files first some view value is))

pub id_of-is : (layer : Layer) (i : ℕ) (id : List ℕ) → slice_get layer.ids i ≡ Some id → id_of (layer, i) ≡ id
unfolding id_of
id_of-is layer i id here = ap (λ o. unwrap_or o []) here

ids-of_places : (layer : Layer) → map id_of (positions_from layer 0) ≡ layer.ids
unfolding id_of
ids-of_places layer =
    let id_at : ℕ → List ℕ = λ pos. unwrap_or (slice_get layer.ids pos) [] in
    let all = length layer.ids - 0 in
    let counted : length (map id_at (range_with_len 0 all)) ≡ length layer.ids = length-map-range_with_len id_at 0 all
    ∙ omega arith in
    map-map id_of (λ (pos : ℕ). (layer, pos)) (range_with_len 0 all)
    ∙ same_lists (map id_at (range_with_len 0 all)) layer.ids counted (λ k d h.
    get_or-map-range_with_len id_at 0 all k k d (omega (arith, h, counted)) (omega arith)
    ∙ unwrap_or-slice_get layer.ids k []
    ∙ sym (get_or_from_slice_get layer.ids k (get_or layer.ids k []) d
    (slice_get-get_or layer.ids k [] (omega (arith, h, counted)))))

-- the ids at the positions of a graph are its ids
pub ids-of_commits : (layers : List Layer) → map id_of (graph_commits layers) ≡ graph_ids layers
ids-of_commits [] = refl
ids-of_commits (layer ∷ layers) =
    map-append id_of (positions_from layer 0) (graph_commits layers)
    ∙ ap (λ (ids : List (List ℕ)). ids ++ map id_of (graph_commits layers)) (ids-of_places layer)
    ∙ ap (λ (ids : List (List ℕ)). layer.ids ++ ids) (ids-of_commits layers)

pub ids-next : (left after : List (Layer × ℕ)) (layer : Layer) (i : ℕ) (id : List ℕ) → left ≡ (layer, i) ∷ after
    → slice_get layer.ids i ≡ Some id → map id_of left ≡ id ∷ map id_of after
ids-next left after layer i id next here = ap (map id_of) next
    ∙ ap (λ (first : List ℕ). first ∷ map id_of after) (id_of-is layer i id here)

-- no position is left at the end of the last layer
pub places-none : (layer : Layer) (i : ℕ) (rest : List Layer) → length layer.ids ≤ i → length rest ≡ 0
    → positions_from layer i ++ graph_commits rest ≡ []
places-none layer i [] h none =
    ap (λ (n : ℕ). map (λ (pos : ℕ). (layer, pos)) (range_with_len i n) ++ []) (no-more (length layer.ids) i h)
  where
    no-more : (n m : ℕ) → n ≤ m → n - m ≡ 0
    no-more n m k = omega arith
places-none layer i (x ∷ xs) h none = absurd (omega (arith, none))

-- as many as the graph has from there on
pub length-places_kept : (layers : List Layer) (left : List (Layer × ℕ)) (pos : ℕ) → left ≡ drop pos (graph_commits layers)
    → total layers - pos ≡ length left
length-places_kept layers left pos is =
    omega (arith, length-graph_commits layers, length-drop pos (graph_commits layers), ap length is)

-- past the last position there is none
pub places-past : (layers : List Layer) (pos : ℕ) → total layers ≤ pos → drop pos (graph_commits layers) ≡ []
places-past layers pos h = drop_all pos (graph_commits layers) (omega (arith, h, length-graph_commits layers))
