-- Lists with one more, and texts that lead to others.
use Rattle.std.proofs.Common.{◌≡◌, ℕ, zero, suc, ◌+◌, ◌%◌, ◌<◌, ◌≤◌, ◌⊎◌, List, [], ◌∷◌, ◌++◌, length, get_or, take, drop, map}
use Rattle.std.proofs.Common.{refl, sym, ap, ◌∙◌, subst, inl, inr, arith, length-append}
use Rattle.std.specs.Prelude.{Contains}
use Rattle.std.proofs.lemmas.List.Elements.{Contains-append_left, Contains-append_right, Contains-append_cases, Contains-push}
use Rattle.std.proofs.lemmas.List.Elements.{Contains-push_cases}
use Rattle.std.proofs.lemmas.List.{take-append-drop, take_at, get_or_at, drop_more, get_or-take, take-take}
use Rattle.path_filters.specs.Touched.{LeadsTo}

pub first : {X : Type 0} (x : X) (xs : List X) → Contains (x ∷ xs) x
first x xs = Contains-append_left (x ∷ []) xs x (Contains-push [] x)

pub later : {X : Type 0} (a : X) (xs : List X) (x : X) → Contains xs x → Contains (a ∷ xs) x
later a xs x h = Contains-append_right (a ∷ []) xs x h

pub nothing_in : {X : Type 0} (x : X) → ¬ Contains [] x
nothing_in x h = omega (arith, h.1)

alone : {X : Type 0} (a x : X) → Contains (a ∷ []) x → a ≡ x
alone a x h = elim (Contains-push_cases [] a x h) [ inl k ↦ absurd (nothing_in x k) | inr e ↦ e ]

pub cases : {X : Type 0} (a : X) (xs : List X) (x : X) → Contains (a ∷ xs) x → (a ≡ x) ⊎ Contains xs x
cases a xs x h = elim (Contains-append_cases (a ∷ []) xs x h) [ inl k ↦ inl (alone a x k) | inr k ↦ inr k ]

shorter : (d path : List ℕ) → LeadsTo d path → length d < length path
shorter d path h = omega (arith, ap length h.1, length-append d (47 ∷ h.0))

-- a directory that leads to a path is its front, before a slash
pub leads_at : (d path : List ℕ) → LeadsTo d path
    → (length d < length path) × (d ≡ take (length d) path) × (get_or path (length d) 0 ≡ 47)
leads_at d path h = (
  shorter d path h,
  sym (ap (take (length d)) h.1 ∙ take_at d (47 ∷ h.0) (length d) refl),
  ap (λ p. get_or p (length d) 0) h.1 ∙ get_or_at d 47 h.0 0 (length d) refl,
)

pub leads_from : (n : ℕ) (path : List ℕ) → n < length path → get_or path n 0 ≡ 47 → LeadsTo (take n path) path
leads_from n path within slash = (
  drop (n + 1) path,
  sym (take-append-drop n path) ∙ ap (λ t. take n path ++ t) (drop_more path n 0 within)
      ∙ ap (λ b. take n path ++ b ∷ drop (n + 1) path) slash,
)

-- where two texts begin alike, what leads to one from there leads to the other
pub leads_alike : (n : ℕ) (a b d : List ℕ) → take n a ≡ take n b → n ≤ length a → LeadsTo d b → length d < n → LeadsTo d a
leads_alike n a b d same within h short =
    let place = leads_at d b h in
    let m = length d in
    let front : take m a ≡ d =
    sym (take-take m n a (omega arith)) ∙ ap (take m) same ∙ take-take m n b (omega arith) ∙ sym place.1 in
    let slash : get_or a m 0 ≡ 47 =
    sym (get_or-take n a m 0 short) ∙ ap (λ t. get_or t m 0) same ∙ get_or-take n b m 0 short ∙ place.2 in
    subst (λ t. LeadsTo t a) front (leads_from m a (omega arith) slash)

pub nothing_leads : (d : List ℕ) → ¬ LeadsTo d []
nothing_leads d h = omega (arith, shorter d [] h)

-- an element, as it is in the list of all views
pub view_at : {X : Type 0} (view : X → List ℕ) (xs : List X) (i : ℕ) (x : X) → i < length xs → x ≡ get_or xs i x
    → view x ≡ get_or (map view xs) i []
view_at view [] i x within is = absurd (omega arith)
view_at view (y ∷ ys) zero x within is = ap view is
view_at view (y ∷ ys) (suc i) x within is = view_at view ys i x (omega arith) is

pub view_get : {X : Type 0} (view : X → List ℕ) (xs : List X) (i : ℕ) (d : X) → i < length xs
    → view (get_or xs i d) ≡ get_or (map view xs) i []
view_get view [] i d within = absurd (omega arith)
view_get view (y ∷ ys) zero d within = refl
view_get view (y ∷ ys) (suc i) d within = view_get view ys i d (omega arith)

pub mod_small : (n m : ℕ) → n < m → n % m ≡ n
mod_small n m h = grind arith
