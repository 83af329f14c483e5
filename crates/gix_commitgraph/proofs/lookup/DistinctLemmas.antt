-- Ids that stand at one position alone.
use Rattle.std.proofs.Common.{◌≡◌, ℕ, ◌+◌, ◌-◌, ◌<◌, ◌≤◌, List, [], ◌++◌, length, take, drop, slice_get, All, Option, Some}
use Rattle.std.proofs.Common.{None, refl, sym, ap, subst, ◌∙◌, arith, ⊎_elim}
use Rattle.std.specs.Prelude.{◌↔◌}
use Rattle.std.proofs.lemmas.Bool.{cases_lt}
use Rattle.std.proofs.lemmas.Grind.{flat_map-append}
use Rattle.std.proofs.lemmas.List.{take-append-drop}
use Rattle.std.proofs.lemmas.Option.{slice_get_within, slice_get-get_or, unwrap_or-slice_get, same_Some}
use Rattle.graph_format.specs.Layer.{Layer}
use Rattle.graph_format.specs.Faults.{id_at}
use Rattle.graph_format.specs.Lookup.{scan}
use Rattle.graph_format.specs.LookupLaw.{IsFirst}
use Rattle.graph_format.proofs.ScanLemmas.{scan-first, scan-found, scan-none}
use Rattle.graph_layer.proofs.AscendingIdLemmas.{ascending-less, not-less_itself}
use Rattle.gix_commitgraph.specs.Graph.{graph_ids, total, start}
use Rattle.gix_commitgraph.specs.GraphLaw.{LiesIn, IsInOrder}
use Rattle.gix_commitgraph.specs.Distinct.{AreDistinct, AreDistinctBelow}
use Rattle.gix_commitgraph.proofs.layers.GraphLemmas.{lies-in_one, place-in, counted}
use Rattle.gix_commitgraph.proofs.layers.LayerListLemmas.{size, start-more, get-front, graph_ids-at}
use Rattle.gix_commitgraph.proofs.lookup.ElementLemmas.{all-at}

-- the layers before one have as many commits as stand before it
total-take : (layers : List Layer) (n : ℕ) → total (take n layers) ≡ start layers n
unfolding start
total-take layers n = refl

-- the ids of the lowest layers come first
pub ids-front : (layers : List Layer) (n p : ℕ) → p < start layers n
    → slice_get (graph_ids (take n layers)) p ≡ slice_get (graph_ids layers) p
ids-front layers n p h =
    let front = graph_ids (take n layers) in
    let back = graph_ids (drop n layers) in
    let split : graph_ids layers ≡ front ++ back =
    ap graph_ids (sym (take-append-drop n layers)) ∙ flat_map-append (λ (l : Layer). l.ids) (take n layers) (drop n layers) in
    let within : p < length front = omega (arith, h, (counted (take n layers)).ids, total-take layers n) in
    sym (ap (λ (ids : List (List ℕ)). slice_get ids p) split ∙ get-front front back p within)

id-there : (layer : Layer) (pos : ℕ) → pos < size layer → slice_get layer.ids pos ≡ Some (id_at layer pos)
id-there layer pos within =
    slice_get-get_or layer.ids pos [] within ∙ ap (λ (id : List ℕ). Some id) (sym (unwrap_or-slice_get layer.ids pos []))

-- below a position where the ids are distinct, no earlier layer has that of a commit
pub none-below_distinct : (layers : List Layer) (n i pos : ℕ) (layer : Layer) → AreDistinctBelow layers n
    → slice_get layers i ≡ Some layer → pos < length layer.ids → start layers i + pos < n
    → scan (graph_ids (take i layers)) (id_at layer pos) ≡ None
none-below_distinct layers n i pos layer distinct here within below =
    scan-none (graph_ids (take i layers)) (id_at layer pos) (λ e found.
    let inside : e < start layers i =
    omega (
      arith,
      slice_get_within (graph_ids (take i layers)) e (id_at layer pos) found,
      (counted (take i layers)).ids,
      total-take layers i,
    ) in
    let same : e ≡ start layers i + pos =
    distinct e (start layers i + pos) (id_at layer pos) (omega (arith, inside, below)) below
    (sym (ids-front layers i e inside) ∙ found)
    (graph_ids-at layers i pos layer here within ∙ id-there layer pos within) in
    omega (arith, inside, same))

-- where all ids are distinct, no earlier layer has that of any commit
pub distinct-none : (layers : List Layer) (i pos : ℕ) (layer : Layer) → AreDistinct layers → slice_get layers i ≡ Some layer
    → pos < length layer.ids
    → scan (graph_ids (take i layers)) (id_at layer pos) ≡ None
distinct-none layers i pos layer distinct here within =
    none-below_distinct layers (start layers i + pos + 1) i pos layer
    (λ p q id below_p below_q at_p at_q. distinct p q id at_p at_q) here within (omega arith)

scan-misses : (ids : List (List ℕ)) (id : List ℕ) (p : ℕ) → scan ids id ≡ None → slice_get ids p ≡ Some id → ⊥
scan-misses ids id p none here = (subst (IsFirst ids id) none (scan-first ids id)) p here

-- No layer before that of a commit has its id.
pub record AreNew (layers : List Layer) : Type 0 where
  pub each : (i : ℕ) (layer : Layer) → slice_get layers i ≡ Some layer → (pos : ℕ) → pos < length layer.ids
      → scan (graph_ids (take i layers)) (id_at layer pos) ≡ None

-- an id of a layer stands at no position before the layer
apart : (layers : List Layer) (p q j : ℕ) (layer : Layer) (id : List ℕ) → AreNew layers → LiesIn layers q j layer
    → p < start layers j
    → slice_get (graph_ids layers) p ≡ Some id → slice_get (graph_ids layers) q ≡ Some id → ⊥
apart layers p q j layer id new lies before at_p at_q =
    let within : q - start layers j < size layer = omega (arith, lies.from, lies.below, start-more layers j layer lies.there) in
    let own : id_at layer (q - start layers j) ≡ id =
    same_Some _ _ (sym (id-there layer (q - start layers j) within) ∙ sym (place-in layers q j layer lies).id ∙ at_q) in
    scan-misses (graph_ids (take j layers)) id p
    (ap (scan (graph_ids (take j layers))) (sym own) ∙ new.each j layer lies.there (q - start layers j) within)
    (ids-front layers j p before ∙ at_p)

-- two positions of one layer that hold one id
alone : (layers : List Layer) (p q i : ℕ) (layer : Layer) (id : List ℕ) → IsInOrder layer → LiesIn layers p i layer
    → LiesIn layers q i layer → p < q
    → slice_get (graph_ids layers) p ≡ Some id → slice_get (graph_ids layers) q ≡ Some id → ⊥
alone layers p q i layer id ordered first second before at_p at_q =
    not-less_itself id
    (ascending-less layer.ids (p - start layers i) (q - start layers i) id id ordered.0
    (sym (place-in layers p i layer first).id ∙ at_p) (sym (place-in layers q i layer second).id ∙ at_q)
    (omega (arith, before, first.from, second.from)))

-- no two positions, one before the other, hold one id
never : (layers : List Layer) (p q : ℕ) (id : List ℕ) → All IsInOrder layers → AreNew layers → p < q
    → slice_get (graph_ids layers) p ≡ Some id → slice_get (graph_ids layers) q ≡ Some id → ⊥
never layers p q id ordered new before at_p at_q =
    let inside : q < total layers = omega (arith, slice_get_within (graph_ids layers) q id at_q, (counted layers).ids) in
    let place = lies-in_one layers q inside in ⊎_elim
    (λ (below : p < start layers place.index). apart layers p q place.index place.layer id new place.lies below at_p at_q)
    (λ (from : start layers place.index ≤ p).
    let there = place.lies.there in
    let here = all-at IsInOrder layers place.index place.layer ordered there in
    let lies : LiesIn layers p place.index place.layer =
    record { there = there; from = from; below = omega (arith, before, place.lies.below) } in
    alone layers p q place.index place.layer id here lies place.lies before at_p at_q)
    (cases_lt p (start layers place.index))

pub distinct-from : (layers : List Layer) → All IsInOrder layers → AreNew layers → AreDistinct layers
distinct-from layers ordered new = λ p q id at_p at_q. ⊎_elim
    (λ (before : p < q). absurd (never layers p q id ordered new before at_p at_q))
    (λ (not_before : q ≤ p). ⊎_elim
    (λ (after : q < p). absurd (never layers q p id ordered new after at_q at_p))
    (λ (not_after : p ≤ q). omega arith)
    (cases_lt q p))
    (cases_lt p q)

-- a scan of distinct ids answers a position exactly where it holds the id
pub exact-scan : (layers : List Layer) (id : List ℕ) (answer : Option ℕ) (p : ℕ) → AreDistinct layers
    → answer ≡ scan (graph_ids layers) id
    → (answer ≡ Some p) ↔ ((p < total layers) × (slice_get (graph_ids layers) p ≡ Some id))
exact-scan layers id answer p distinct is = (
  λ found.
      let here : slice_get (graph_ids layers) p ≡ Some id =
      (subst (IsFirst (graph_ids layers) id) (sym is ∙ found) (scan-first (graph_ids layers) id)).0 in
      (omega (arith, slice_get_within (graph_ids layers) p id here, (counted layers).ids), here),
  λ held. is ∙ scan-found (graph_ids layers) id p held.1 (λ i before at_i. let same : i ≡ p =
      distinct i p id at_i held.1 in omega (arith, before, same)),
)
