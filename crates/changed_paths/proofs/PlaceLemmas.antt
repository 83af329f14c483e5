-- where filters lie
use Rattle.std.proofs.Common.{◌≡◌, ℕ, zero, suc, ◌+◌, ◌<◌, ◌≤◌, Bool, true, false, ◌&&◌, List, Some, None, nat_lt, refl}
use Rattle.std.proofs.Common.{ap, ◌∙◌, ⊎_elim, subst, arith}
use Rattle.std.specs.Bool.{then_some}
use Rattle.std.specs.Option.{option_or}
use Rattle.std.proofs.Math.Dec.{leb}
use Rattle.std.proofs.lemmas.Bool.{cases_lt, lt-ltb, le-ltb, leb-true, leb-false}
use Rattle.gix_chunk_core.specs.FirstFault.{first_below}
use Rattle.gix_chunk_core.proofs.FirstFaultLemmas.{first_below-none, first_below-none_more, first_below-found}
use Rattle.gix_chunk_core.proofs.FirstFaultLemmas.{first_below-none_at}
use Rattle.gix_chunk_core.proofs.FirstFaultLemmas.{option_or-none_left, option_or-none_right, option_or-none, then_some-none}
use Rattle.gix_chunk_core.proofs.FirstFaultLemmas.{then_some-false}
use Rattle.changed_paths.specs.Filters.{start_of, end_of, IsRising, filter_position, place_fault, places_refusal}
use Rattle.changed_paths.specs.declared.filters.LayerFiltersError.TheVariants.{Falls, PastEnd}

pub not_less : (m n : ℕ) → nat_lt m n ≡ false → n ≤ m
not_less m n h = ⊎_elim (λ (lt : m < n). absurd (clash (nat_lt m n) (lt-ltb m n lt) h)) (λ (le : n ≤ m). le) (cases_lt m n)
  where
    clash : (b : Bool) → b ≡ true → b ≡ false → ⊥
    clash true t f = cc
    clash false t f = cc

pub place-none : (index : List ℕ) (room : ℕ) → first_below (place_fault index room) 0 ≡ None
place-none index room = first_below-none (place_fault index room)

pub place-falls : (index : List ℕ) (room p commits : ℕ) → first_below (place_fault index room) p ≡ None
    → end_of index p < start_of index p → p < commits → places_refusal commits index room ≡ Some (Falls (filter_position p))
unfolding places_refusal
place-falls index room p commits none falls below =
    first_below-found (place_fault index room) p commits _ none
    (ap (λ (b : Bool). option_or (then_some b (Falls (filter_position p)))
    (then_some (nat_lt room (end_of index p)) (PastEnd (filter_position p))))
    (lt-ltb _ _ falls)) below

pub place-past : (index : List ℕ) (room p commits : ℕ) → first_below (place_fault index room) p ≡ None
    → start_of index p ≤ end_of index p → room < end_of index p → p < commits
    → places_refusal commits index room ≡ Some (PastEnd (filter_position p))
unfolding places_refusal
place-past index room p commits none order past below =
    first_below-found (place_fault index room) p commits _ none
    (ap (λ (b : Bool). option_or (then_some b (Falls (filter_position p)))
    (then_some (nat_lt room (end_of index p)) (PastEnd (filter_position p))))
    (le-ltb _ _ order)
    ∙ ap (λ (b : Bool). then_some b (PastEnd (filter_position p))) (lt-ltb _ _ past)) below

pub place-fits : (index : List ℕ) (room p : ℕ) → first_below (place_fault index room) p ≡ None
    → start_of index p ≤ end_of index p → end_of index p ≤ room → first_below (place_fault index room) (p + 1) ≡ None
place-fits index room p none order fits =
    first_below-none_more (place_fault index room) p none
    (option_or-none _ _ (then_some-false _ _ (le-ltb _ _ order)) (then_some-false _ _ (le-ltb _ _ fits)))

pub ruleset found_laws = (place-none, place-falls, place-past, place-fits)

-- a filter more, that ends after it begins, or before

pub rising-none : (index : List ℕ) → IsRising 0 index
rising-none index p below = absurd (omega (arith, below))

pub rising-more : (index : List ℕ) (n : ℕ) → IsRising n index → start_of index n ≤ end_of index n → IsRising (n + 1) index
rising-more index n rising order p below =
    ⊎_elim (λ (lt : p < n). rising p lt)
    (λ (le : n ≤ p). subst (λ (q : ℕ). start_of index q ≤ end_of index q) (omega (arith, le, below)) order) (cases_lt p n)

pub rising-less : (index : List ℕ) (n : ℕ) → IsRising (n + 1) index → IsRising n index
rising-less index n rising p below = rising p (omega (arith, below))

pub falls_here : (index : List ℕ) (n : ℕ) → end_of index n < start_of index n → ¬ IsRising (n + 1) index
falls_here index n falls rising = omega (arith, falls, rising n (omega arith))

pub rising-both : (index : List ℕ) (n start end : ℕ) (before : Bool) → start ≡ start_of index n → end ≡ end_of index n
    → (before ≡ true → IsRising n index) → before && leb start end ≡ true → IsRising (n + 1) index
rising-both index n start end true first last rising both =
    rising-more index n (rising refl) (omega (arith, first, last, leb-true start end both))
rising-both index n start end false first last rising both = cc

pub rising-neither : (index : List ℕ) (n start end : ℕ) (before : Bool) → start ≡ start_of index n → end ≡ end_of index n
    → (before ≡ false → ¬ IsRising n index) → before && leb start end ≡ false → ¬ IsRising (n + 1) index
rising-neither index n start end true first last falling both =
    falls_here index n (omega (arith, first, last, leb-false start end both))
rising-neither index n start end false first last falling both = λ more. falling refl (rising-less index n more)

pub ruleset rising_laws = (rising-none, rising-both, rising-neither)

-- where none ends before it begins, and the last one within the data, no place is refused

rises_to : (index : List ℕ) (n k : ℕ) → IsRising (n + k) index → start_of index n ≤ start_of index (n + k)
rises_to index n zero rising =
    let here : n ≡ n + 0 = omega arith in
    let same : start_of index n ≡ start_of index (n + 0) = ap (start_of index) here in
    omega (arith, same)
rises_to index n (suc k) rising =
    let before = rises_to index n k (λ p below. rising p (omega (arith, below))) in
    let last : start_of index (n + k) ≤ end_of index (n + k) = rising (n + k) (omega arith) in
    let next : suc (n + k) ≡ n + suc k = omega arith in
    let same : start_of index (suc (n + k)) ≡ start_of index (n + suc k) = ap (start_of index) next in
    omega (arith, before, last, same)

all_below_fit : (commits : ℕ) (index : List ℕ) (room n k : ℕ) → n + k ≡ commits → IsRising commits index
    → start_of index commits ≤ room → first_below (place_fault index room) n ≡ None
all_below_fit commits index room zero k all rising within = place-none index room
all_below_fit commits index room (suc n) k all rising within =
    let before : n + suc k ≡ commits = omega (arith, all) in
    let none = all_below_fit commits index room n (suc k) before rising within in
    let order : start_of index n ≤ end_of index n = rising n (omega (arith, all)) in
    let above = rises_to index (suc n) k (λ p below. rising p (omega (arith, all, below))) in
    let last : start_of index (suc n + k) ≡ start_of index commits = ap (start_of index) all in
    let fits : end_of index n ≤ room = omega (arith, above, within, last) in
    let one_more : n + 1 ≡ suc n = omega arith in
    subst (λ (m : ℕ). first_below (place_fault index room) m ≡ None) one_more (place-fits index room n none order fits)

pub all_fit : (commits : ℕ) (index : List ℕ) (room : ℕ) → IsRising commits index → start_of index commits ≤ room
    → places_refusal commits index room ≡ None
unfolding places_refusal
all_fit commits index room rising within = all_below_fit commits index room commits 0 (omega arith) rising within

-- where no place is refused, each filter ends after it begins, and within the data
pub placed : (commits : ℕ) (index : List ℕ) (room p : ℕ) → places_refusal commits index room ≡ None → p < commits
    → (start_of index p ≤ end_of index p) × (end_of index p ≤ room)
unfolding places_refusal
placed commits index room p none below =
    let here = first_below-none_at (place_fault index room) p commits none below in (
      not_less _ _ (then_some-none _ _ (option_or-none_left _ _ here)),
      not_less _ _ (then_some-none _ _ (option_or-none_right _ _ here)),
    )

pub ends_within : (commits : ℕ) (index : List ℕ) (room : ℕ) → places_refusal commits index room ≡ None
    → start_of index commits ≤ room
ends_within zero index room none = omega arith
ends_within (suc p) index room none = (placed (suc p) index room p none (omega arith)).1
