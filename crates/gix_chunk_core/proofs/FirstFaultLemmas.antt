-- laws of `when`, `otherwise` and `first_below`
use Rattle.std.proofs.Common.{◌≡◌, ℕ, zero, suc, ◌+◌, ◌<◌, Bool, true, false, cond, Option, Some, None, [], ◌∷◌, map, refl, sym}
use Rattle.std.proofs.Common.{ap, ◌∙◌, subst, ⊎_elim, arith, add-one}
use Rattle.std.specs.Prelude.{◌↔◌}
use Rattle.std.specs.Bool.{then_some}
use Rattle.std.specs.Option.{option_or}
use Rattle.std.specs.List.{find, range_with_len}
use Rattle.std.proofs.lemmas.Bool.{cases_eq}
use Rattle.std.proofs.lemmas.List.Folds.{find-append}
use Rattle.std.proofs.lemmas.List.FromFn.{map-range_with_len_more}
use Rattle.gix_chunk_core.specs.FirstFault.{◌when◌, ◌otherwise◌, first_below, IsLeastGiving}

pub option_or-none_left : {X : Type 0} (a b : Option X) → option_or a b ≡ None → a ≡ None
option_or-none_left None b h = refl
option_or-none_left (Some x) b h = cc

pub option_or-none_right : {X : Type 0} (a b : Option X) → option_or a b ≡ None → b ≡ None
option_or-none_right None b h = h
option_or-none_right (Some x) b h = cc

pub option_or-none : {X : Type 0} (a b : Option X) → a ≡ None → b ≡ None → option_or a b ≡ None
option_or-none a b h e = rw (h, e) refl

pub then_some-none : {X : Type 0} (b : Bool) (x : X) → then_some b x ≡ None → b ≡ false
then_some-none true x h = cc
then_some-none false x h = refl

pub then_some-false : {X : Type 0} (b : Bool) (x : X) → b ≡ false → then_some b x ≡ None
then_some-false b x h = rw h refl

-- where no fault is named, the test fails
pub when-none : {E : Type 0} (fault : E) (test : Bool) → (fault when test) ≡ None → test ≡ false
when-none fault test h = then_some-none test fault h

-- where no fault is named, each part names none
pub otherwise-none : {E : Type 0} (first second : Option E) → (first otherwise second) ≡ None → (first ≡ None) × (second ≡ None)
otherwise-none first second h = (option_or-none_left first second h, option_or-none_right first second h)

-- where nothing is given below i, what is given below the next number is what f gives at i
pub first_below-next : {X : Type 0} (f : ℕ → Option X) (i : ℕ) → first_below f i ≡ None → first_below f (i + 1) ≡ f i
unfolding first_below
first_below-next f i h = rw (add-one, h) refl

pub first_below-none_more : {X : Type 0} (f : ℕ → Option X) (i : ℕ) → first_below f i ≡ None → f i ≡ None
    → first_below f (i + 1) ≡ None
first_below-none_more f i h e = first_below-next f i h ∙ e

pub first_below-none : {X : Type 0} (f : ℕ → Option X) → first_below f 0 ≡ None
unfolding first_below
first_below-none f = refl

-- what f gives first at i is what it gives first
pub first_below-found : {X : Type 0} (f : ℕ → Option X) (i n : ℕ) (x : X) → first_below f i ≡ None → f i ≡ Some x → i < n
    → first_below f n ≡ Some x
unfolding first_below
first_below-found f i zero x h e k = absurd (omega (arith, k))
first_below-found f i (suc n) x h e k = ⊎_elim
    (λ (same : i ≡ n). subst (λ (m : ℕ). option_or (first_below f m) (f m) ≡ Some x) same (rw h e))
    (λ (apart : i ≡ n → ⊥). rw (first_below-found f i n x h e (omega (arith, apart, k))) refl)
    (cases_eq i n)

-- nothing is given below n only where f gives nothing at each number below n
pub first_below-none_at : {X : Type 0} (f : ℕ → Option X) (i n : ℕ) → first_below f n ≡ None → i < n → f i ≡ None
unfolding first_below
first_below-none_at f i zero h k = absurd (omega (arith, k))
first_below-none_at f i (suc n) h k = ⊎_elim
    (λ (same : i ≡ n). rw same (option_or-none_right (first_below f n) (f n) h))
    (λ (apart : i ≡ n → ⊥). first_below-none_at f i n (option_or-none_left (first_below f n) (f n) h) (omega (arith, apart, k)))
    (cases_eq i n)

pub first_below-none_from : {X : Type 0} (f : ℕ → Option X) (n : ℕ) → ((i : ℕ) → i < n → f i ≡ None) → first_below f n ≡ None
unfolding first_below
first_below-none_from f zero h = refl
first_below-none_from f (suc n) h = rw (first_below-none_from f n (λ i k. h i (omega (arith, k)))) (h n (omega arith))

-- what is given first is given at the least number
pub first_below-least : {X : Type 0} (f : ℕ → Option X) (n : ℕ) (x : X) → first_below f n ≡ Some x → (i : ℕ)
    × IsLeastGiving f n i x
unfolding first_below
first_below-least f zero x h = cc
first_below-least f (suc n) x h = elim (first_below f n) as (λ o. first_below f n ≡ o → (i : ℕ) × IsLeastGiving f (suc n) i x) [
  | None ↦ λ e. (n, record { below = omega arith; gives = rw e at h; least = λ j k. first_below-none_at f j n e k })
  | Some y ↦ λ e.
      let found = first_below-least f n x (e ∙ rw e at h) in
      (found.0, record { below = omega (arith, found.1.below); gives = found.1.gives; least = found.1.least })
] refl

first_below-is : {X : Type 0} (f : ℕ → Option X) (n i : ℕ) (x : X) → IsLeastGiving f n i x → first_below f n ≡ Some x
first_below-is f n i x at_i = first_below-found f i n x (first_below-none_from f i at_i.least) at_i.gives at_i.below

-- what is given first, and where nothing is
pub first_below-some_iff : {X : Type 0} (f : ℕ → Option X) (n : ℕ) (x : X) → (first_below f n ≡ Some x)
    ↔ ((i : ℕ) × IsLeastGiving f n i x)
first_below-some_iff f n x = (first_below-least f n x, λ found. first_below-is f n found.0 x found.1)

pub first_below-none_iff : {X : Type 0} (f : ℕ → Option X) (n : ℕ) → (first_below f n ≡ None) ↔ ((i : ℕ) → i < n → f i ≡ None)
first_below-none_iff f n = (λ h i k. first_below-none_at f i n h k, first_below-none_from f n)

-- the first of a list made from a function of the index
pub find-first_below : {X : Type 0} (p : X → Bool) (f : ℕ → X) (n : ℕ)
    → find p (map f (range_with_len 0 n)) ≡ first_below (λ i. cond (p (f i)) (Some (f i)) None) n
unfolding first_below
find-first_below p f zero = refl
find-first_below p f (suc n) =
    ap (λ m. find p (map f (range_with_len 0 m))) (sym (add-one n))
    ∙ ap (find p) (map-range_with_len_more f 0 n n (omega arith))
    ∙ find-append p (map f (range_with_len 0 n)) (f n ∷ [])
    ∙ ap (λ o. option_or o (cond (p (f n)) (Some (f n)) None)) (find-first_below p f n)

pub ruleset first_laws = (first_below-none, first_below-none_more, first_below-found)

pub ruleset least_laws = (first_below-some_iff, first_below-none_iff)
