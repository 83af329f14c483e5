-- Ids with their positions: gathered, sorted, and gone over.
use Rattle.std.proofs.Common.{◌≡◌, inl, inr, ℕ, ◌+◌, ◌-◌, ◌<◌, ◌≤◌, Bool, true, false, List, [], ◌∷◌, ◌++◌}
use Rattle.std.proofs.Common.{length, get_or, slice_get, Option, Some, option_map, refl, sym, ap}
use Rattle.std.proofs.Common.{◌∙◌, arith, ⊎_elim}
use Rattle.std.specs.List.Sorted.{IsPermutation, IsSortedBy}
use Rattle.std.specs.Ordering.{nat_cmp, ordering_reverse, ordering_then, is_lt, is_eq}
use Rattle.std.specs.Cmp.Lexicographic.{slice_cmp}
use Rattle.std.specs.declared.cmp.Ordering.{Ordering}
use Rattle.std.specs.declared.cmp.Ordering.TheVariants.{Less, Equal, Greater}
use Rattle.std.proofs.lemmas.Bool.{cases_lt}
use Rattle.std.proofs.lemmas.Cmp.{nat_list_cmp_total}
use Rattle.std.proofs.lemmas.List.Sorted.{ranks_by, sorted_far, length_permutation, Contains-permutation}
use Rattle.std.proofs.lemmas.Map.Text.{is_eq-slice_cmp}
use Rattle.std.proofs.lemmas.Option.{slice_get_within, slice_get-get_or, get_or_from_slice_get, slice_get-map, same_Some}
use Rattle.std.proofs.lemmas.Slice.Eq.{bytes_eq-Decides}
use Rattle.gix_hash_core.specs.Oid.{oid_bytes}
use Rattle.graph_format.specs.Layer.{Layer}
use Rattle.gix_commitgraph.specs.Graph.{graph_ids, graph_commits}
use Rattle.gix_commitgraph.specs.GraphRemaining.{id_of}
use Rattle.gix_commitgraph.specs.Distinct.{AreDistinctBelow}
use Rattle.gix_commitgraph.specs.IdPlaces.{AreIdPlaces, ComesBeforeRepeats}
use Rattle.gix_commitgraph.specs.declared.verify.distinct.IdPlace.{IdPlace}
use Rattle.gix_commitgraph.proofs.lookup.ElementLemmas.{pushed, some-place}
use Rattle.gix_commitgraph.proofs.layers.PositionLemmas.{ids-of_commits, id_of-is}

-- the id of the commit at a position
pub id-at_commit : (layers : List Layer) (p i : ℕ) (layer : Layer) (id : List ℕ)
    → slice_get (graph_commits layers) p ≡ Some (layer, i) → slice_get layer.ids i ≡ Some id
    → slice_get (graph_ids layers) p ≡ Some id
id-at_commit layers p i layer id here is =
    ap (λ (ids : List (List ℕ)). slice_get ids p) (sym (ids-of_commits layers))
    ∙ slice_get-map id_of (graph_commits layers) p
    ∙ ap (λ (o : Option (Layer × ℕ)). option_map id_of o) here
    ∙ ap (λ (x : List ℕ). Some x) (id_of-is layer i id is)

-- one more place is gathered
pub places-more : (layers : List Layer) (places : List IdPlace) (place : IdPlace) → AreIdPlaces layers places
    → place.pos.0 ≡ length places → slice_get (graph_ids layers) (length places) ≡ Some (oid_bytes place.id)
    → AreIdPlaces layers (places ++ place ∷ [])
places-more layers places place are at here = λ k other found.
    elim (pushed places place other k found) [
      | inl before ↦ are k other before
      | inr last ↦ (
        ap (λ (p : IdPlace). p.pos.0) (sym last.1) ∙ at ∙ sym last.0,
        ap (slice_get (graph_ids layers)) last.0 ∙ here ∙ ap (λ (p : IdPlace). Some (oid_bytes p.id)) last.1,
      )
    ]

-- two ids neither of which is less are the same
alike : (r : Ordering) → is_lt r ≡ false → is_lt (ordering_reverse r) ≡ false → is_eq r ≡ true
alike Less h k = cc
alike Equal h k = refl
alike Greater h k = cc

same-ids : (a b : List ℕ) → is_lt (slice_cmp nat_cmp a b) ≡ false → is_lt (slice_cmp nat_cmp b a) ≡ false → a ≡ b
same-ids a b h k =
    (bytes_eq-Decides a b).0
    (sym (is_eq-slice_cmp a b)
    ∙ alike (slice_cmp nat_cmp a b) h (ap is_lt (sym (nat_list_cmp_total.antisymm b a)) ∙ k))

-- where the first parts of two pairs are not in order, the pairs are not
front-first : (o rest : Ordering) → is_lt (ordering_then o rest) ≡ false → is_lt o ≡ false
front-first Less rest h = h
front-first Equal rest h = refl
front-first Greater rest h = refl

-- places are in the order of their ids
abbrev pub ById : IdPlace → IdPlace → Bool
ById a b = is_lt (slice_cmp nat_cmp (oid_bytes a.id) (oid_bytes b.id))

abbrev pub ByIdAndPosition : IdPlace → IdPlace → Bool
ByIdAndPosition a b = is_lt (ordering_then (slice_cmp nat_cmp (oid_bytes a.id) (oid_bytes b.id)) (nat_cmp a.pos.0 b.pos.0))

sorted-ids : (places : List IdPlace) → IsSortedBy ByIdAndPosition places → IsSortedBy ById places
sorted-ids places sorted = λ k d low high. front-first _ _ (sorted k d low high)

-- a place of which an earlier one has the id comes next after one that has it
beside : (places : List IdPlace) (i j : ℕ) (d : IdPlace) → IsSortedBy ById places → i < j → j < length places
    → oid_bytes (get_or places j d).id ≡ oid_bytes (get_or places i d).id
    → oid_bytes (get_or places j d).id ≡ oid_bytes (get_or places (j - 1) d).id
beside places i j d sorted before within same =
    let up = sorted_far ById (ranks_by nat_list_cmp_total (λ (p : IdPlace). oid_bytes p.id)) places sorted in
    let no_less : ById (get_or places (j - 1) d) (get_or places i d) ≡ false =
    up i (j - 1) d (omega arith) (omega arith) in
    same-ids _ _ (up (j - 1) j d (omega arith) within)
    (ap (λ (id : List ℕ). is_lt (slice_cmp nat_cmp (oid_bytes (get_or places (j - 1) d).id) id)) same ∙ no_less)

-- so that what comes before repeats is no greater than its position
no-greater : (places : List IdPlace) (first i j : ℕ) (a b : IdPlace) → IsSortedBy ById places → ComesBeforeRepeats places first
    → i < j → slice_get places i ≡ Some a → slice_get places j ≡ Some b → oid_bytes b.id ≡ oid_bytes a.id
    → first ≤ b.pos.0
no-greater places first i j a b sorted comes before at_i at_j same =
    let within : j < length places = slice_get_within places j b at_j in
    let is_a : get_or places i a ≡ a = get_or_from_slice_get places i a a at_i in
    let is_b : get_or places j a ≡ b = get_or_from_slice_get places j b a at_j in
    let equal : oid_bytes (get_or places j a).id ≡ oid_bytes (get_or places i a).id =
    ap (λ (p : IdPlace). oid_bytes p.id) is_b ∙ same ∙ ap (λ (p : IdPlace). oid_bytes p.id) (sym is_a) in
    let next : slice_get places (j - 1 + 1) ≡ Some b = ap (slice_get places) (omega arith) ∙ at_j in
    comes.before (j - 1) (get_or places (j - 1) a) b (slice_get-get_or places (j - 1) a (omega arith)) next
    (ap (λ (p : IdPlace). oid_bytes p.id) (sym is_b) ∙ beside places i j a sorted before within equal)

-- the element at an index is the one that was read there
pub same-place : (places : List IdPlace) (k index : ℕ) (item place : IdPlace) → slice_get places index ≡ Some item → k ≡ index
    → slice_get places k ≡ Some place → item ≡ place
same-place places k index item place here is at_k = same_Some _ _ (sym here ∙ ap (slice_get places) (sym is) ∙ at_k)

-- one place more is compared with the place before it
pub repeats-more : (places : List IdPlace) (index first less : ℕ) (item : IdPlace) → slice_get places index ≡ Some item
    → less ≤ first
    → ((k : ℕ) (place next : IdPlace) → k + 1 < index → slice_get places k ≡ Some place → slice_get places (k + 1) ≡ Some next
    → oid_bytes next.id ≡ oid_bytes place.id → first ≤ next.pos.0)
    → ((k : ℕ) (place : IdPlace) → k + 1 ≡ index → slice_get places k ≡ Some place → oid_bytes item.id ≡ oid_bytes place.id
    → less ≤ item.pos.0)
    → (k : ℕ) (place next : IdPlace) → k + 1 < index + 1 → slice_get places k ≡ Some place
    → slice_get places (k + 1) ≡ Some next → oid_bytes next.id ≡ oid_bytes place.id → less ≤ next.pos.0
repeats-more places index first less item here lower old new = λ k place next below at_k at_next same. ⊎_elim
    (λ (before : k + 1 < index). let most : first ≤ next.pos.0 = old k place next before at_k at_next same in omega arith)
    (λ (not_before : index ≤ k + 1).
    let is : k + 1 ≡ index = omega arith in
    let read : item ≡ next = same-place places (k + 1) index item next here is at_next in
    let most : less ≤ item.pos.0 = new k place is at_k (ap (λ (p : IdPlace). oid_bytes p.id) read ∙ same) in
    omega (arith, most, ap (λ (p : IdPlace). p.pos.0) read))
    (cases_lt (k + 1) index)

-- a place of the gathered ones, and where it is sorted to
record Sorted (layers : List Layer) (places : List IdPlace) (p : ℕ) (id : List ℕ) : Type 0 where
  index : ℕ
  place : IdPlace
  there : slice_get places index ≡ Some place
  position : place.pos.0 ≡ p
  holds : oid_bytes place.id ≡ id

sorted-place : (layers : List Layer) (places sorted : List IdPlace) (p : ℕ) (id : List ℕ) → AreIdPlaces layers places
    → IsPermutation places sorted → p < length places → slice_get (graph_ids layers) p ≡ Some id → Sorted layers sorted p id
sorted-place layers places sorted p id are moved within here =
    let one = some-place places p within in
    let place = one.0 in
    let is = are p place one.1 in
    let found = Contains-permutation places sorted place moved (p, within, get_or_from_slice_get places p place place one.1) in
    record {
      index = found.0;
      place = place;
      there = slice_get-get_or sorted found.0 place found.1 ∙ ap (λ (x : IdPlace). Some x) found.2;
      position = is.0;
      holds = same_Some _ _ (sym is.1 ∙ here);
    }

-- below what comes before the repeats of the sorted places the ids are distinct
pub distinct-below : (layers : List Layer) (places sorted : List IdPlace) (first : ℕ) → AreIdPlaces layers places
    → IsPermutation places sorted → IsSortedBy ByIdAndPosition sorted → ComesBeforeRepeats sorted first
    → AreDistinctBelow layers first
distinct-below layers places sorted first are moved order comes = λ p q id below_p below_q at_p at_q.
    let up = sorted-ids sorted order in
    let many : length sorted ≡ length places = length_permutation places sorted moved in
    let a = sorted-place layers places sorted p id are moved (omega (arith, comes.within)) at_p in
    let b = sorted-place layers places sorted q id are moved (omega (arith, comes.within)) at_q in
    ⊎_elim
    (λ (before : a.index < b.index).
    let most : first ≤ b.place.pos.0 =
    no-greater sorted first a.index b.index a.place b.place up comes before a.there b.there (b.holds ∙ sym a.holds) in
    absurd (omega (arith, most, b.position)))
    (λ (not_before : b.index ≤ a.index). ⊎_elim
    (λ (after : b.index < a.index).
    let most : first ≤ a.place.pos.0 =
    no-greater sorted first b.index a.index b.place a.place up comes after b.there a.there (a.holds ∙ sym b.holds) in
    absurd (omega (arith, most, a.position)))
    (λ (not_after : a.index ≤ b.index).
    let at : a.index ≡ b.index = omega arith in
    let same : a.place ≡ b.place = same_Some _ _ (sym a.there ∙ ap (slice_get sorted) at ∙ b.there) in
    sym a.position ∙ ap (λ (x : IdPlace). x.pos.0) same ∙ b.position)
    (cases_lt b.index a.index))
    (cases_lt a.index b.index)
