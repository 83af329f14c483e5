-- Ids whose fronts differ are distinct.
use Rattle.std.proofs.Common.{◌≡◌, inl, inr, ℕ, ◌+◌, ◌<◌, ◌≤◌, Bool, true, false, nat_lt}
use Rattle.std.proofs.Common.{List, [], ◌++◌, length, get_or, slice_get}
use Rattle.std.proofs.Common.{Some, option_map, IsTrue, refl, sym, ap, ◌∙◌, arith, ⊎_elim}
use Rattle.std.proofs.Math.Dec.{eqb}
use Rattle.std.specs.Prelude.{map}
use Rattle.std.specs.List.{AllAdjacentBelow, IsAllAdjacentAnswer, IsDistinct}
use Rattle.std.specs.List.Sorted.{IsPermutation, IsNonDecreasing, IsStrictlyIncreasing}
use Rattle.std.proofs.lemmas.Bool.{cases_lt, eq-eqb, lt-ltb, ltb-true}
use Rattle.std.proofs.lemmas.Bool.Decides.{eqb_tells}
use Rattle.std.proofs.lemmas.List.{append-nil}
use Rattle.std.proofs.lemmas.List.Sorted.{IsPermutation-sym}
use Rattle.std.proofs.lemmas.Map.Keys.{IsDistinct-from_apart, IsDistinct-IsPermutation, apart_from_distinct}
use Rattle.std.proofs.lemmas.Map.Keys.{IsStrictlyIncreasing-from_distinct}
use Rattle.std.proofs.lemmas.Option.{slice_get_within, get_or_from_slice_get, slice_get-map}
use Rattle.graph_format.specs.Layer.{Layer}
use Rattle.gix_commitgraph.specs.Graph.{graph_ids}
use Rattle.gix_commitgraph.specs.Distinct.{AreDistinct}
use Rattle.gix_commitgraph.specs.Fronts.{HaveDistinctFronts}
use Rattle.gix_hash_core.specs.Oid.{front_of}

-- each number is below the next
abbrev pub Rise : List ℕ → Type 0
Rise xs = AllAdjacentBelow (λ x y. true ≡ nat_lt x y) xs (length xs)

-- an answer that this is so
pub risen : (xs : List ℕ) (answer : Bool) → IsAllAdjacentAnswer (λ x y b. b ≡ nat_lt x y) xs answer → IsTrue answer → Rise xs
risen xs true h told = h
risen xs false h told = let clash : false ≡ true = told in cc

-- where each number is below the next, the answer says so
rise-told : (xs : List ℕ) (answer : Bool) → IsAllAdjacentAnswer (λ x y b. b ≡ nat_lt x y) xs answer → IsStrictlyIncreasing xs
    → IsTrue answer
rise-told xs true h up = refl
rise-told xs false h up = let clash : false ≡ true = h.2 0 ∙ lt-ltb _ _ (up h.0 h.1) in cc

eqb-less : (a b : ℕ) → a < b → eqb a b ≡ false
eqb-less a b less = elim (eqb_tells a b) [
  | inl same ↦ absurd (omega (arith, less, same.1))
  | inr apart ↦ apart.0
]

eqb-flips : (a b : ℕ) → eqb a b ≡ eqb b a
eqb-flips a b = elim (eqb_tells a b) [
  | inl same ↦ same.0 ∙ sym (eq-eqb b a (sym same.1))
  | inr apart ↦ elim (eqb_tells b a) [
    | inl same ↦ absurd (apart.1 (sym same.1))
    | inr other ↦ apart.0 ∙ sym other.0
  ]
]

less-told : (a b : ℕ) → true ≡ nat_lt a b → a < b
less-told a b told = ltb-true a b (sym told)

-- numbers that rise differ
risen-distinct : (xs : List ℕ) → IsNonDecreasing xs → Rise xs → IsDistinct eqb xs
risen-distinct xs up rise = IsDistinct-from_apart eqb xs (λ i j d before within.
    let less : get_or xs i d < get_or xs (i + 1) d = less-told _ _ (rise i d (omega (arith, before, within))) in
    eqb-less _ _ (omega (arith, less, up (i + 1) j d (omega arith) within)))

front-at : (layers : List Layer) (p : ℕ) (id : List ℕ) → slice_get (graph_ids layers) p ≡ Some id
    → slice_get (map front_of (graph_ids layers)) p ≡ Some (front_of id)
front-at layers p id here = slice_get-map front_of (graph_ids layers) p ∙ ap (option_map front_of) here

-- no two positions, one before the other, hold one id
never : (layers : List Layer) (p q : ℕ) (id : List ℕ) → IsDistinct eqb (map front_of (graph_ids layers)) → p < q
    → slice_get (graph_ids layers) p ≡ Some id → slice_get (graph_ids layers) q ≡ Some id → ⊥
never layers p q id distinct before at_p at_q =
    let fronts = map front_of (graph_ids layers) in
    let there = front-at layers q id at_q in
    let no : eqb (get_or fronts p 0) (get_or fronts q 0) ≡ false =
    apart_from_distinct eqb fronts p q 0 distinct before (slice_get_within fronts q (front_of id) there) in
    let yes : eqb (get_or fronts p 0) (get_or fronts q 0) ≡ true =
    eq-eqb _ _ (get_or_from_slice_get fronts p (front_of id) 0 (front-at layers p id at_p)
    ∙ sym (get_or_from_slice_get fronts q (front_of id) 0 there)) in
    let clash : true ≡ false = sym yes ∙ no in cc

-- once no id is left, the fronts are those of all
pub all-fronts : (fronts all : List ℕ) (left : List (List ℕ)) → fronts ++ map front_of left ≡ all → left ≡ [] → fronts ≡ all
all-fronts fronts all left whole none = sym (append-nil fronts) ∙ (rw none at whole)

-- where the sorted fronts rise, all ids are distinct
pub distinct-by_fronts : (layers : List Layer) (fronts sorted : List ℕ) → fronts ≡ map front_of (graph_ids layers)
    → IsPermutation fronts sorted → IsNonDecreasing sorted → Rise sorted → AreDistinct layers
distinct-by_fronts layers fronts sorted are moved up rise = λ p q id at_p at_q.
    let distinct : IsDistinct eqb (map front_of (graph_ids layers)) =
    rw are at (IsDistinct-IsPermutation eqb eqb-flips sorted fronts (IsPermutation-sym fronts sorted moved)
    (risen-distinct sorted up rise)) in ⊎_elim
    (λ (before : p < q). absurd (never layers p q id distinct before at_p at_q))
    (λ (not_before : q ≤ p). ⊎_elim
    (λ (after : q < p). absurd (never layers q p id distinct after at_q at_p))
    (λ (not_after : p ≤ q). omega arith)
    (cases_lt q p))
    (cases_lt p q)

-- and where all fronts differ, the sorted ones rise
pub rise-by_fronts : (layers : List Layer) (fronts sorted : List ℕ) (answer : Bool) → fronts ≡ map front_of (graph_ids layers)
    → IsPermutation fronts sorted → IsNonDecreasing sorted → IsAllAdjacentAnswer (λ x y b. b ≡ nat_lt x y) sorted answer
    → HaveDistinctFronts layers → IsTrue answer
rise-by_fronts layers fronts sorted answer are moved up told apart =
    let distinct : IsDistinct eqb fronts = rw are apart in
    rise-told sorted answer told
    (IsStrictlyIncreasing-from_distinct sorted up (IsDistinct-IsPermutation eqb eqb-flips fronts sorted moved distinct))
