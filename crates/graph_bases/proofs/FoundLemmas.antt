-- What is read off a painting at its end: how many commits have a paint, and which are merge bases.
use Rattle.std.proofs.Common.{◌≡◌, ◌≢◌, ◌↔◌, ℕ, ◌+◌, ◌<◌, ◌≤◌, suc, zero, List, [], ◌∷◌, ◌++◌, length, Bool, true, false, get_or}
use Rattle.std.proofs.Common.{All, AllPairs, Contains, IsPermutation, take, count_by, refl, sym, ap, ◌∙◌, subst, ⊎_elim, arith}
use Rattle.std.specs.List.{filter}
use Rattle.std.specs.List.Sorted.{IsSorted}
use Rattle.std.specs.Ordering.{nat_cmp}
use Rattle.std.specs.Cmp.{unsigned_Decides, nat_eq_equiv}
use Rattle.std.proofs.lemmas.Bool.{cases_Bool, cases_lt, both_ways, cond-true, cond-false}
use Rattle.std.proofs.lemmas.List.{length_push, take_all, append-nil}
use Rattle.std.proofs.lemmas.List.Elements.{All-nil, All-cons, All-head, All-tail, All-weaker, All-contains_itself}
use Rattle.std.proofs.lemmas.List.Elements.{Contains-push, Contains-push_cases, Contains-append_left, Contains-get_or}
use Rattle.std.proofs.lemmas.List.Elements.{filter_more}
use Rattle.std.proofs.lemmas.List.Kept.{IsStrictlyIncreasing-filter}
use Rattle.std.proofs.lemmas.List.Quantifiers.{all_pairs_push}
use Rattle.std.proofs.lemmas.List.Sorted.{Contains-permutation, IsNonDecreasingBy-from_sort}
use Rattle.std.proofs.lemmas.List.Sums.{count_by_more_yes, count_by_more_no}
use Rattle.std.proofs.lemmas.Map.Keys.{IsStrictlyIncreasing-from_distinct, IsDistinct-IsPermutation}
use Rattle.std.proofs.lemmas.Map.Made.{IsDistinct-from_AllPairs}
use Rattle.graph_walks.specs.History.{Node}
use Rattle.graph_format.specs.declared.Position.{Position}
use Rattle.commit_search.specs.Positions.{numbers_of}
use Rattle.graph_bases.specs.Bases.{AreMergeBases, IsAhead, IsBehind, IsCommonAncestor}
use Rattle.commit_search.specs.Cardinality.{IsNumberOf}
use Rattle.graph_bases.specs.declared.paint.Coat.{Coat}
use Rattle.graph_bases.specs.Paint.{is_base, is_ahead, is_behind, first_leads, bare, coat_at, paint_at, IsPaint}
use Rattle.graph_bases.specs.Painting.{AreCandidates, AreBases, IsPainted}
use Rattle.graph_bases.proofs.PaintLemmas.{base_first, base_others}
use Rattle.graph_bases.proofs.ReachLemmas.{reaches_within}
use Rattle.commit_search.proofs.EdgeListLemmas.{head_contained, tail_contained, contained_cases}

-- How many coats pass a test, as the length of a list of their places.

-- These are the places below n of the coats that pass the test.
record ArePlaces (t : Coat → Bool) (coats : List Coat) (n : ℕ) (ps : List ℕ) : Type 0 where
  once : AllPairs (λ p q. p ≢ q) ps
  those : (p : ℕ) → Contains ps p ↔ ((p < n) × (t (coat_at coats p) ≡ true))
  count : length ps ≡ count_by t (take n coats)

module _ (t : Coat → Bool) (coats : List Coat) where
  place_skip : (n : ℕ) (ps : List ℕ) → n < length coats → t (coat_at coats n) ≡ false → ArePlaces t coats n ps
      → ArePlaces t coats (n + 1) ps
  place_skip n ps lt unmet are = record {
    once = are.once;
    those = λ p. (
      (λ contained. let was = (are.those p).0 contained in (omega (arith, was.0), was.1)),
      (λ (below, met).
          (are.those p).1 (
            ⊎_elim
                (λ (lo : p < n). lo)
                (λ (hi : n ≤ p).
                let same : p ≡ n = omega arith in
                absurd (both_ways (t (coat_at coats n)) unmet (ap (λ (q : ℕ). t (coat_at coats q)) (sym same) ∙ met)))
                (cases_lt p n),
            met,
          )),
    );
    count = are.count ∙ sym (count_by_more_no t coats n bare lt unmet);
  }

  place_one : (n : ℕ) (ps : List ℕ) → n < length coats → t (coat_at coats n) ≡ true → ArePlaces t coats n ps
      → ArePlaces t coats (n + 1) (ps ++ n ∷ [])
  place_one n ps lt met are = record {
    once = all_pairs_push (λ p q. p ≢ q) ps n are.once
        (λ k d below same. let was = (are.those (get_or ps k d)).0 (Contains-get_or ps k d below) in
        let low = was.0 in absurd (omega arith));
    those = λ p. (
      (λ contained.
          ⊎_elim
          (λ (was : Contains ps p). let old = (are.those p).0 was in (omega (arith, old.0), old.1))
          (λ (same : n ≡ p). (omega arith, ap (λ (q : ℕ). t (coat_at coats q)) (sym same) ∙ met))
          (Contains-push_cases ps n p contained)),
      (λ (below, passes).
          ⊎_elim
          (λ (lo : p < n). Contains-append_left ps (n ∷ []) p ((are.those p).1 (lo, passes)))
          (λ (hi : n ≤ p).
          let same : n ≡ p = omega arith in subst (λ (q : ℕ). Contains (ps ++ n ∷ []) q) same (Contains-push ps n))
          (cases_lt p n)),
    );
    count = length_push ps n ∙ ap (λ (k : ℕ). k + 1) are.count ∙ sym (count_by_more_yes t coats n bare lt met);
  }

  places_below : (n : ℕ) → n ≤ length coats → (ps : List ℕ) × ArePlaces t coats n ps
  places_below zero le = (
    [],
    record {
      once = λ i j d lt lt'. absurd (omega arith);
      those = λ p. ((λ (k, lt, at). absurd (omega arith)), (λ (lt, is). absurd (omega arith)));
      count = refl;
    },
  )
  places_below (suc n) le =
      let before = places_below n (omega arith) in
      let next : n + 1 ≡ suc n = omega arith in
      subst (λ (m : ℕ). (ps : List ℕ) × ArePlaces t coats m ps) next
      (⊎_elim
      (λ (met : t (coat_at coats n) ≡ true). (before.0 ++ n ∷ [], place_one n before.0 (omega arith) met before.1))
      (λ (unmet : t (coat_at coats n) ≡ false). (before.0, place_skip n before.0 (omega arith) unmet before.1))
      (cases_Bool (t (coat_at coats n))))

  -- where the test tells a property of commits, the count is the number of those that have it
  pub counted_number : (P : ℕ → Type 0) → ((p : ℕ) → (t (coat_at coats p) ≡ true) ↔ P p)
      → ((p : ℕ) → P p → p < length coats) → (n : ℕ) → n ≡ count_by t coats → IsNumberOf n P
  counted_number P tells within n is =
      let all = places_below (length coats) (omega arith) in (
        all.0,
        record {
          once = all.1.once;
          those = λ p. (
            (λ contained. (tells p).0 ((all.1.those p).0 contained).1),
            (λ has. (all.1.those p).1 (within p has, (tells p).1 has)),
          );
        },
        all.1.count ∙ ap (count_by t) (take_all (length coats) coats (omega arith)) ∙ sym is,
      )

  -- where it is not 0, one of them passes
  pub some_counted : 0 < count_by t coats → (p : ℕ) × (t (coat_at coats p) ≡ true)
  some_counted lt =
      let all = places_below (length coats) (omega arith) in
      let len = all.1.count ∙ ap (count_by t) (take_all (length coats) coats (omega arith)) in
      by_cases all.0 (omega arith) all.1 where
        by_cases : (ps : List ℕ) → 0 < length ps → ArePlaces t coats (length coats) ps → (p : ℕ) × (t (coat_at coats p) ≡ true)
        by_cases [] some are = absurd (omega arith)
        by_cases (p ∷ ps) some are = (p, ((are.those p).0 (head_contained p ps)).1)

-- a coat that passes a test which the bare one does not is that of a commit
pub tested_within : (t : Coat → Bool) → t bare ≡ false → (coats : List Coat) (p : ℕ) → t (coat_at coats p) ≡ true
    → p < length coats
tested_within t none [] p e = absurd (both_ways (t bare) none e)
tested_within t none (c ∷ cs) zero e = omega arith
tested_within t none (c ∷ cs) (suc p) e = let more = tested_within t none cs p e in omega arith

module _ (h : List Node) (a : ℕ) (bs : List ℕ) (coats : List Coat) (painted : IsPainted h a bs coats) where
  pub ahead_number : (n : ℕ) → n ≡ count_by (λ coat. is_ahead coat.paint) coats → IsNumberOf n (IsAhead h a bs)
  ahead_number n is =
      counted_number (λ (c : Coat). is_ahead c.paint) coats (IsAhead h a bs) painted.ahead
      (λ p ahead. omega (arith, reaches_within h a p ahead.0, painted.coats_len)) n is

  pub behind_number : (n : ℕ) → n ≡ count_by (λ coat. is_behind coat.paint) coats → IsNumberOf n (IsBehind h a bs)
  behind_number n is =
      counted_number (λ (c : Coat). is_behind c.paint) coats (IsBehind h a bs) painted.behind
      (λ p behind. omega (arith, reaches_within h behind.0.0 p behind.0.2, painted.coats_len)) n is

  pub bases_are : (bases : List ℕ) → AreBases coats bases → AreMergeBases h a bs bases
  bases_are bases are = record {
    ascending = are.ascending;
    those = λ p. (
      (λ contained. (painted.base p).0 ((are.those p).0 contained)),
      (λ base. (are.those p).1 ((painted.base p).1 base)),
    );
  }

-- The merge bases among the candidates.

-- a commit of which something is known
pub known_within : (coats : List Coat) (p : ℕ) → first_leads (paint_at coats p) ≡ true → p < length coats
known_within coats p e = tested_within (λ (c : Coat). first_leads c.paint) refl coats p e

positions_are : (P : ℕ → Type 0) (xs : List Position) → All P (numbers_of xs) → All (λ (x : Position). P x.0) xs
positions_are P [] all = All-nil (λ (x : Position). P x.0)
positions_are P (x ∷ xs) all =
    All-cons (λ (y : Position). P y.0) x xs (All-head P x.0 (numbers_of xs) all)
    (positions_are P xs (All-tail P x.0 (numbers_of xs) all))

-- the commits that are merge bases as far as is known
module _ (coats : List Coat) (bases : List Position) (are : AreBases coats (numbers_of bases)) where
  bases_all : (P : ℕ → Type 0) → ((p : ℕ) → is_base (paint_at coats p) ≡ true → P p) → All (λ (x : Position). P x.0) bases
  bases_all P holds =
      positions_are P bases
      (All-weaker (Contains (numbers_of bases)) P (λ p contained. holds p ((are.those p).0 contained)) (numbers_of bases)
      (All-contains_itself (numbers_of bases)))

  pub bases_below : (n : ℕ) → length coats ≡ n → All (λ (x : Position). x.0 < n) bases
  bases_below n len =
      bases_all (λ p. p < n)
      (λ p base. let in' = known_within coats p (base_first (paint_at coats p) base) in omega arith)

  pub bases_common : (h : List Node) (a : ℕ) (bs : List ℕ) → IsPaint h a bs coats
      → All (λ (x : Position). IsCommonAncestor h a bs x.0) bases
  bases_common h a bs paint =
      bases_all (IsCommonAncestor h a bs)
      (λ p base. (
        (paint.each p).first (base_first (paint_at coats p) base),
        (paint.each p).others (base_others (paint_at coats p) base),
      ))

filter_contains : (t : ℕ → Bool) (xs : List ℕ) (p : ℕ) → Contains xs p → t p ≡ true → Contains (filter t xs) p
filter_contains t [] p contained met = absurd (let lt = contained.1 in omega arith)
filter_contains t (x ∷ xs) p contained met =
    ⊎_elim
    (λ (same : x ≡ p).
    subst (λ (ys : List ℕ). Contains ys p) (sym (cond-true (t x) (x ∷ filter t xs) (filter t xs) (ap t same ∙ met)))
    (subst (λ (q : ℕ). Contains (x ∷ filter t xs) q) same (head_contained x (filter t xs))))
    (λ (later : Contains xs p).
    let there = filter_contains t xs p later met in
    ⊎_elim
    (λ (keeps : t x ≡ true).
    subst (λ (ys : List ℕ). Contains ys p) (sym (cond-true (t x) (x ∷ filter t xs) (filter t xs) keeps))
    (tail_contained x p (filter t xs) there))
    (λ (drops : t x ≡ false).
    subst (λ (ys : List ℕ). Contains ys p) (sym (cond-false (t x) (x ∷ filter t xs) (filter t xs) drops)) there)
    (cases_Bool (t x)))
    (contained_cases x p xs contained)

filter_passed : (t : ℕ → Bool) (xs : List ℕ) (p : ℕ) → Contains (filter t xs) p → t p ≡ true
filter_passed t [] p contained = absurd (let lt = contained.1 in omega arith)
filter_passed t (x ∷ xs) p contained =
    ⊎_elim
    (λ (keeps : t x ≡ true).
    ⊎_elim
    (λ (same : x ≡ p). ap t (sym same) ∙ keeps)
    (λ (later : Contains (filter t xs) p). filter_passed t xs p later)
    (contained_cases x p (filter t xs)
    (subst (λ (ys : List ℕ). Contains ys p) (cond-true (t x) (x ∷ filter t xs) (filter t xs) keeps) contained)))
    (λ (drops : t x ≡ false).
    filter_passed t xs p
    (subst (λ (ys : List ℕ). Contains ys p) (cond-false (t x) (x ∷ filter t xs) (filter t xs) drops) contained))
    (cases_Bool (t x))

-- one more of a list
module _ (t : ℕ → Bool) (xs : List ℕ) (i : ℕ) (lt : i < length xs) where
  pub filter_one : t (get_or xs i 0) ≡ true → filter t (take (i + 1) xs) ≡ filter t (take i xs) ++ get_or xs i 0 ∷ []
  filter_one met =
      filter_more t xs i 0 lt
      ∙ ap (λ (ys : List ℕ). filter t (take i xs) ++ ys) (cond-true (t (get_or xs i 0)) (get_or xs i 0 ∷ []) [] met)

  pub filter_skip : t (get_or xs i 0) ≡ false → filter t (take (i + 1) xs) ≡ filter t (take i xs)
  filter_skip unmet =
      filter_more t xs i 0 lt
      ∙ ap (λ (ys : List ℕ). filter t (take i xs) ++ ys) (cond-false (t (get_or xs i 0)) (get_or xs i 0 ∷ []) [] unmet)
      ∙ append-nil (filter t (take i xs))

-- those of a sorted list that are merge bases
pub sorted_bases : (coats : List Coat) (candidates sorted : List ℕ) → AreCandidates coats candidates
    → IsPermutation candidates sorted → IsSorted nat_cmp sorted → AreBases coats (filter (λ p. is_base (paint_at coats p)) sorted)
sorted_bases coats candidates sorted are moved up =
    let t : ℕ → Bool = λ p. is_base (paint_at coats p) in record {
      ascending =
          IsStrictlyIncreasing-filter t sorted
          (IsStrictlyIncreasing-from_distinct sorted (IsNonDecreasingBy-from_sort (λ x. x) sorted up)
          (IsDistinct-IsPermutation _ nat_eq_equiv.symm candidates sorted moved
          (IsDistinct-from_AllPairs unsigned_Decides candidates are.once)));
      those = λ p. (
        (λ contained. filter_passed t sorted p contained),
        (λ base. filter_contains t sorted p (Contains-permutation candidates sorted p moved (are.all p base)) base),
      );
    }

pub numbers_push : (found : List Position) (x : Position) → numbers_of (found ++ x ∷ []) ≡ numbers_of found ++ x.0 ∷ []
numbers_push [] x = refl
numbers_push (y ∷ ys) x = ap (λ (xs : List ℕ). y.0 ∷ xs) (numbers_push ys x)
