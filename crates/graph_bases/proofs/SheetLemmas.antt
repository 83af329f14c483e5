-- A coat for each commit: of all commits, or kept for those alone that were painted.
use Rattle.std.proofs.Common.{◌≡◌, ◌≢◌, ℕ, suc, zero, ◌<◌, ◌≤◌, Bool, List, [], ◌∷◌, ◌++◌, if◌then◌else◌, length, map, set}
use Rattle.std.proofs.Common.{get_or, All, Contains, refl, sym, ap, ◌∙◌, subst, inl, inr, ⊎_elim, arith}
use Rattle.std.proofs.Common.{◌==◌, eq-eqb, ne_eqb}
use Rattle.std.proofs.lemmas.Bool.{cases_eq, cases_lt}
use Rattle.std.proofs.lemmas.List.{length-set, length_push, get_or-set_same, get_or-set_other, get_or_past}
use Rattle.std.proofs.lemmas.List.Elements.{All-contains, Contains-append_left, Contains-get_or, Contains-push}
use Rattle.std.proofs.lemmas.List.Elements.{Contains-push_cases}
use Rattle.std.proofs.lemmas.List.FromFn.{length-map-range_with_len, get_or-map-range_with_len, fill_by_all}
use Rattle.std.specs.List.{range_with_len}
use Rattle.commit_search.specs.Places.{IsListed}
use Rattle.commit_search.proofs.PlaceLemmas.{place_cases, old_place, new_place}
use Rattle.graph_bases.specs.Sheet.{bare, coat_at, AreChanged, kept_coat, AreKeptCoats, sheet_of}
use Rattle.graph_bases.specs.declared.paint.Coat.{Coat}

-- Which coats were changed.

pub changed_none : (coats : List Coat) (changed : List ℕ) → changed ≡ [] → ((p : ℕ) → coat_at coats p ≡ bare)
    → AreChanged coats changed
changed_none coats changed none bare' = record {
  within = λ i d lt. absurd (omega (arith, lt, ap length none));
  those = λ p. inl (bare' p);
}

-- one coat changes, and its commit is one of those that changed
pub changed_set : (coats : List Coat) (changed more : List ℕ) (p : ℕ) (coat : Coat) → Contains more p
    → ((q : ℕ) → Contains changed q → Contains more q) → All (λ n. n < length coats) more → AreChanged coats changed
    → AreChanged (set coats p coat) more
changed_set coats changed more p coat here stays within are = record {
  within = λ i d lt. omega (arith, within i d lt, length-set coats p coat);
  those = λ q.
      ⊎_elim
      (λ (e : q ≡ p). inr (subst (Contains more) (sym e) here))
      (λ (apart : q ≢ p).
      ⊎_elim
      (λ (b : coat_at coats q ≡ bare). inl (get_or-set_other coats p q coat bare apart ∙ b))
      (λ (was : Contains changed q). inr (stays q was))
      (are.those q))
      (cases_eq q p);
}

-- a coat that is not bare is one of them
pub changed_painted : (coats : List Coat) (changed : List ℕ) (p : ℕ) → AreChanged coats changed → coat_at coats p ≢ bare
    → Contains changed p
changed_painted coats changed p are painted =
    ⊎_elim
    (λ (b : coat_at coats p ≡ bare). absurd (painted b))
    (λ (was : Contains changed p). was)
    (are.those p)

-- the last of them is made bare
pub changed_popped : (coats : List Coat) (rest : List ℕ) (n : ℕ) → AreChanged coats (rest ++ n ∷ [])
    → (n < length coats) × AreChanged (set coats n bare) rest
changed_popped coats rest n are =
    let inside : n < length coats =
    All-contains (λ (m : ℕ). m < length coats) (rest ++ n ∷ []) n are.within (Contains-push rest n) in (
      inside,
      record {
        within = λ i d lt.
            omega (
              arith,
              All-contains (λ (m : ℕ). m < length coats) (rest ++ n ∷ []) (get_or rest i d) are.within
                  (Contains-append_left rest (n ∷ []) (get_or rest i d) (Contains-get_or rest i d lt)),
              length-set coats n bare,
            );
        those = λ q.
            ⊎_elim
            (λ (e : q ≡ n). inl (ap (coat_at (set coats n bare)) e ∙ get_or-set_same coats n bare bare inside))
            (λ (apart : q ≢ n).
            ⊎_elim
            (λ (b : coat_at coats q ≡ bare). inl (get_or-set_other coats n q bare bare apart ∙ b))
            (λ (was : Contains (rest ++ n ∷ []) q).
            ⊎_elim
            (λ (left : Contains rest q). inr left)
            (λ (e : n ≡ q). absurd (apart (sym e)))
            (Contains-push_cases rest n q was))
            (are.those q))
            (cases_eq q n);
      },
    )

-- none is left
pub changed_empty : (coats : List Coat) (changed : List ℕ) → length changed ≡ 0 → AreChanged coats changed → (p : ℕ)
    → coat_at coats p ≡ bare
changed_empty coats changed none are p =
    ⊎_elim
    (λ (b : coat_at coats p ≡ bare). b)
    (λ (was : Contains changed p). let lt = was.1 in absurd (omega arith))
    (are.those p)

-- The coats of the commits that were painted.

is_one : (n p : ℕ) (x y : Coat) → n ≡ p → (if n == p then x else y) ≡ x
is_one n p x y e = ap (λ (b : Bool). if b then x else y) (eq-eqb n p e)

is_other : (n p : ℕ) (x y : Coat) → n ≢ p → (if n == p then x else y) ≡ y
is_other n p x y apart = ap (λ (b : Bool). if b then x else y) (ne_eqb n p apart)

kept_tail : (e : ℕ) (painted : List ℕ) (x : Coat) (coats : List Coat) → AreKeptCoats (e ∷ painted) (x ∷ coats)
    → AreKeptCoats painted coats
kept_tail e painted x coats are = record {
  as_many = omega (arith, are.as_many);
  once = λ i j lt lt' same.
      (let next : suc i ≡ suc j = are.once (suc i) (suc j) (omega (arith, lt)) (omega (arith, lt')) same in omega (arith, next));
}

-- that of the commit at a place
kept_place : (painted : List ℕ) (coats : List Coat) (place p : ℕ) → AreKeptCoats painted coats → place < length painted
    → get_or painted place 0 ≡ p → kept_coat painted coats p ≡ get_or coats place bare
kept_place [] coats place p are lt at = absurd (omega (arith, lt))
kept_place (e ∷ painted) [] place p are lt at = absurd (omega (arith, are.as_many))
kept_place (e ∷ painted) (x ∷ coats) zero p are lt at = is_one e p x (kept_coat painted coats p) at
kept_place (e ∷ painted) (x ∷ coats) (suc k) p are lt at =
    is_other e p x (kept_coat painted coats p)
    (λ same.
    let clash : 0 ≡ suc k = are.once 0 (suc k) (omega arith) lt (same ∙ sym at) in absurd (omega (arith, clash)))
    ∙ kept_place painted coats k p (kept_tail e painted x coats are) (omega (arith, lt)) at

-- that of a commit that was not painted
kept_none : (painted : List ℕ) (coats : List Coat) (p : ℕ) → ¬ IsListed painted p → kept_coat painted coats p ≡ bare
kept_none [] coats p none = refl
kept_none (e ∷ painted) [] p none = refl
kept_none (e ∷ painted) (x ∷ coats) p none =
    is_other e p x (kept_coat painted coats p) (λ same. none (0, omega arith, same))
    ∙ kept_none painted coats p (λ (i, lt, at). none (suc i, omega (arith, lt), at))

-- those of the others, where the one at a place changes
kept_others : (painted : List ℕ) (coats : List Coat) (place q : ℕ) (coat : Coat) → place < length coats
    → get_or painted place 0 ≢ q → kept_coat painted (set coats place coat) q ≡ kept_coat painted coats q
kept_others [] coats place q coat lt apart = refl
kept_others (e ∷ painted) [] place q coat lt apart = absurd (omega (arith, lt))
kept_others (e ∷ painted) (x ∷ coats) zero q coat lt apart =
    is_other e q coat (kept_coat painted coats q) apart ∙ sym (is_other e q x (kept_coat painted coats q) apart)
kept_others (e ∷ painted) (x ∷ coats) (suc k) q coat lt apart =
    ap (λ (y : Coat). if e == q then x else y) (kept_others painted coats k q coat (omega (arith, lt)) apart)

-- that of a commit that is painted after the others, and those of the others
kept_new : (painted : List ℕ) (coats : List Coat) (e : ℕ) (coat : Coat) → length coats ≡ length painted
    → ¬ IsListed painted e → kept_coat (painted ++ e ∷ []) (coats ++ coat ∷ []) e ≡ coat
kept_new [] [] e coat many none = is_one e e coat bare refl
kept_new [] (x ∷ coats) e coat many none = absurd (omega (arith, many))
kept_new (f ∷ painted) [] e coat many none = absurd (omega (arith, many))
kept_new (f ∷ painted) (x ∷ coats) e coat many none =
    is_other f e x (kept_coat (painted ++ e ∷ []) (coats ++ coat ∷ []) e)
    (λ same. none (0, omega arith, same))
    ∙ kept_new painted coats e coat (omega (arith, many)) (λ (i, lt, at). none (suc i, omega (arith, lt), at))

kept_old : (painted : List ℕ) (coats : List Coat) (e : ℕ) (coat : Coat) (q : ℕ) → length coats ≡ length painted
    → e ≢ q → kept_coat (painted ++ e ∷ []) (coats ++ coat ∷ []) q ≡ kept_coat painted coats q
kept_old [] [] e coat q many apart = is_other e q coat bare apart
kept_old [] (x ∷ coats) e coat q many apart = absurd (omega (arith, many))
kept_old (f ∷ painted) [] e coat q many apart = absurd (omega (arith, many))
kept_old (f ∷ painted) (x ∷ coats) e coat q many apart =
    ap (λ (y : Coat). if f == q then x else y) (kept_old painted coats e coat q (omega (arith, many)) apart)

pub kept_pushed : (painted : List ℕ) (coats : List Coat) (e : ℕ) (coat : Coat) → ¬ IsListed painted e
    → AreKeptCoats painted coats → AreKeptCoats (painted ++ e ∷ []) (coats ++ coat ∷ [])
kept_pushed painted coats e coat none are = record {
  as_many = omega (arith, are.as_many, length_push painted e, length_push coats coat);
  once = λ i j lt lt' same.
      ⊎_elim
      (λ (lo : i < length painted).
      ⊎_elim
      (λ (lo' : j < length painted). are.once i j lo lo' (sym (old_place painted e i lo) ∙ same ∙ old_place painted e j lo'))
      (λ (hi' : j ≡ length painted). absurd (none (i, lo, sym (old_place painted e i lo) ∙ same ∙ new_place painted e j hi')))
      (place_cases painted e j lt'))
      (λ (hi : i ≡ length painted).
      ⊎_elim
      (λ (lo' : j < length painted).
      absurd (none (j, lo', sym (old_place painted e j lo') ∙ sym same ∙ new_place painted e i hi)))
      (λ (hi' : j ≡ length painted). hi ∙ sym hi')
      (place_cases painted e j lt'))
      (place_cases painted e i lt);
}

pub kept_replaced : (painted : List ℕ) (coats : List Coat) (place : ℕ) (coat : Coat) → AreKeptCoats painted coats
    → AreKeptCoats painted (set coats place coat)
kept_replaced painted coats place coat are = record { as_many = length-set coats place coat ∙ are.as_many; once = are.once }

pub kept_nothing : (painted : List ℕ) (coats : List Coat) → painted ≡ [] → coats ≡ [] → AreKeptCoats painted coats
kept_nothing painted coats none bare' = record {
  as_many = ap length bare' ∙ sym (ap length none);
  once = λ i j lt lt' same. absurd (omega (arith, lt, ap length none));
}

-- Coats that are made for so many commits.

module _ (f : ℕ → Coat) (count : ℕ) where
  made_len : length (map f (range_with_len 0 count)) ≡ count
  made_len = length-map-range_with_len f 0 count

  made_at : (p : ℕ) → p < length (map f (range_with_len 0 count)) → coat_at (map f (range_with_len 0 count)) p ≡ f p
  made_at p lt = get_or-map-range_with_len f 0 count p p bare (omega (arith, lt, made_len)) (omega arith)

-- the coat of one commit is changed
made_set : (f g : ℕ → Coat) (count p : ℕ) (coat : Coat) → p < length (map f (range_with_len 0 count)) → g p ≡ coat
    → ((q : ℕ) → p ≢ q → g q ≡ f q)
    → map g (range_with_len 0 count) ≡ set (map f (range_with_len 0 count)) p coat
made_set f g count p coat inside here there =
    sym (fill_by_all g (set before p coat) count bare (length-set before p coat ∙ made_len f count) each)
  where
    before : List Coat
    before = map f (range_with_len 0 count)

    each : (k : ℕ) → k < count → get_or (set before p coat) k bare ≡ g k
    each k below =
        ⊎_elim
        (λ (same : k ≡ p).
        ap (λ j. get_or (set before p coat) j bare) same ∙ get_or-set_same before p coat bare inside ∙ sym here
        ∙ ap g (sym same))
        (λ (other : k ≢ p).
        get_or-set_other before p k coat bare other
        ∙ made_at f count k (omega (arith, below, made_len f count))
        ∙ sym (there k (λ e. other (sym e))))
        (cases_eq k p)

-- of a sheet of so many coats
module _ (painted : List ℕ) (coats : List Coat) (count : ℕ) where
  pub sheet_len : length (sheet_of painted coats count) ≡ count
  sheet_len = made_len (kept_coat painted coats) count

  pub sheet_bare : painted ≡ [] → (p : ℕ) → coat_at (sheet_of painted coats count) p ≡ bare
  sheet_bare none p =
      ⊎_elim
      (λ (lt : p < length (sheet_of painted coats count)).
      made_at (kept_coat painted coats) count p lt
      ∙ kept_none painted coats p (λ (i, in', at). absurd (omega (arith, in', ap length none))))
      (λ (le : length (sheet_of painted coats count) ≤ p). get_or_past (sheet_of painted coats count) p bare le)
      (cases_lt p (length (sheet_of painted coats count)))

  module _ (p : ℕ) (inside : p < length (sheet_of painted coats count)) where
    pub sheet_none : ¬ IsListed painted p → coat_at (sheet_of painted coats count) p ≡ bare
    sheet_none none = made_at (kept_coat painted coats) count p inside ∙ kept_none painted coats p none

    module _ (are : AreKeptCoats painted coats) where
      pub sheet_place : (place : ℕ) → place < length painted → get_or painted place 0 ≡ p
          → coat_at (sheet_of painted coats count) p ≡ get_or coats place bare
      sheet_place place lt at =
          made_at (kept_coat painted coats) count p inside ∙ kept_place painted coats place p are lt at

      pub sheet_replaced : (place : ℕ) (coat : Coat) → place < length painted → get_or painted place 0 ≡ p
          → sheet_of painted (set coats place coat) count ≡ set (sheet_of painted coats count) p coat
      sheet_replaced place coat lt at =
          let within : place < length coats = omega (arith, lt, are.as_many) in
          made_set (kept_coat painted coats) (kept_coat painted (set coats place coat)) count p coat inside
          (kept_place painted (set coats place coat) place p (kept_replaced painted coats place coat are) lt at
          ∙ get_or-set_same coats place coat bare within)
          (λ q apart. kept_others painted coats place q coat within (λ same. apart (sym at ∙ same)))

      pub sheet_pushed : (e : ℕ) (coat : Coat) → ¬ IsListed painted p → e ≡ p
          → sheet_of (painted ++ e ∷ []) (coats ++ coat ∷ []) count ≡ set (sheet_of painted coats count) p coat
      sheet_pushed e coat none at =
          made_set (kept_coat painted coats) (kept_coat (painted ++ e ∷ []) (coats ++ coat ∷ [])) count p coat inside
          (ap (kept_coat (painted ++ e ∷ []) (coats ++ coat ∷ [])) (sym at)
          ∙ kept_new painted coats e coat are.as_many (λ m. none (subst (IsListed painted) at m)))
          (λ q apart. kept_old painted coats e coat q are.as_many (λ same. apart (sym at ∙ same)))
