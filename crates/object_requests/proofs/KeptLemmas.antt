-- Ids that are kept in order and by their numbers, with one more.
use Rattle.std.proofs.Common.{◌≡◌, ◌⊎◌, ℕ, zero, suc, ◌+◌, ◌<◌, List, [], ◌∷◌, ◌++◌, length, slice_get, Contains}
use Rattle.std.proofs.Common.{Option, Some, None, refl, sym, ap, ◌∙◌, subst, inl, inr, ⊎_elim, arith, true, false}
use Rattle.std.specs.BTreeMap as tree
use Rattle.std.specs.Option.{MatchOption}
use Rattle.std.specs.Ordering.{nat_cmp, is_eq}
use Rattle.std.specs.declared.cmp.Ordering.{Ordering}
use Rattle.std.specs.declared.cmp.Ordering.TheVariants.{Less, Equal, Greater}
use Rattle.std.specs.Cmp.{eq_by_cmp_equiv}
use Rattle.std.specs.Cmp.Lexicographic.{slice_cmp}
use Rattle.std.proofs.lemmas.Bool.{cases_Bool, cond-true, cond-false}
use Rattle.std.proofs.lemmas.Cmp.{nat_list_cmp_total}
use Rattle.std.proofs.lemmas.Map.Lookups.{exact_bytes}
use Rattle.std.proofs.lemmas.Option.{same_Some, none-some, get_or_from_slice_get, slice_get_within}
use Rattle.std.proofs.lemmas.List.{length-append}
use Rattle.std.proofs.lemmas.List.Elements.{Contains-push_cases}
use Rattle.object_requests.specs.Asked.{AreEachOnce}
use Rattle.object_requests.specs.Kept.{AreKept, AreRequestNumbers}

get_pushed : {X : Type 0} (xs : List X) (x : X) → slice_get (xs ++ x ∷ []) (length xs) ≡ Some x
get_pushed [] x = refl
get_pushed (y ∷ xs) x = get_pushed xs x

get_old : {X : Type 0} (xs ys : List X) (i : ℕ) (y : X) → slice_get xs i ≡ Some y → slice_get (xs ++ ys) i ≡ Some y
get_old [] ys i y at = absurd (none-some y at)
get_old (x ∷ xs) ys zero y at = at
get_old (x ∷ xs) ys (suc i) y at = get_old xs ys i y at

push_cases : {X : Type 0} (xs : List X) (x : X) (i : ℕ) (y : X) → slice_get (xs ++ x ∷ []) i ≡ Some y
    → (slice_get xs i ≡ Some y) ⊎ ((i ≡ length xs) × (x ≡ y))
push_cases [] x zero y at = inr (refl, same_Some x y at)
push_cases [] x (suc i) y at = absurd (none-some y at)
push_cases (z ∷ xs) x zero y at = inl at
push_cases (z ∷ xs) x (suc i) y at =
    ⊎_elim
    (λ (old : slice_get xs i ≡ Some y). inl old)
    (λ (last : (i ≡ length xs) × (x ≡ y)). inr (ap suc last.0, last.1))
    (push_cases xs x i y at)

is_equal_from : (o : Ordering) → is_eq o ≡ true → o ≡ Equal
is_equal_from Less is = absurd (cc)
is_equal_from Equal is = refl
is_equal_from Greater is = absurd (cc)

contained : (ids : List (List ℕ)) (i : ℕ) (id : List ℕ) → slice_get ids i ≡ Some id → Contains ids id
contained ids i id at = (i, slice_get_within ids i id at, get_or_from_slice_get ids i id id at)

-- no id stands in two places, with one more that stood in none
pub distinct_pushed : (ids : List (List ℕ)) (id : List ℕ) → AreEachOnce ids → ¬ Contains ids id → AreEachOnce (ids ++ id ∷ [])
distinct_pushed ids id distinct absent i j q one other =
    ⊎_elim
    (λ (a : slice_get ids i ≡ Some q). ⊎_elim
    (λ (b : slice_get ids j ≡ Some q). distinct i j q a b)
    (λ (b : (j ≡ length ids) × (id ≡ q)). absurd (absent (subst (Contains ids) (sym b.1) (contained ids i q a))))
    (push_cases ids id j q other))
    (λ (a : (i ≡ length ids) × (id ≡ q)). ⊎_elim
    (λ (b : slice_get ids j ≡ Some q). absurd (absent (subst (Contains ids) (sym a.1) (contained ids j q b))))
    (λ (b : (j ≡ length ids) × (id ≡ q)). a.0 ∙ sym b.0)
    (push_cases ids id j q other))
    (push_cases ids id i q one)

-- the map of numbers, with one more
module _ (numbers after : tree.BTreeMap (List ℕ) ℕ) (ids : List (List ℕ)) (id : List ℕ) (right : AreRequestNumbers numbers ids)
    (updates : tree.Updates (slice_cmp nat_cmp) numbers after id (Some (length ids))) where
  abbrev IsTold : List ℕ → Option ℕ → Type 0
  IsTold q told = MatchOption told (¬ Contains (ids ++ id ∷ []) q) (λ i. slice_get (ids ++ id ∷ []) i ≡ Some q)

  at_others : (q : List ℕ) → tree.is_at (slice_cmp nat_cmp id) q ≡ false → (o : Option ℕ)
      → MatchOption o (¬ Contains ids q) (λ i. slice_get ids i ≡ Some q) → IsTold q o
  at_others q apart None told = λ contains.
      ⊎_elim
      (λ (old : Contains ids q). told old)
      (λ (same : id ≡ q).
      let reflexive : tree.is_at (slice_cmp nat_cmp id) id ≡ true = (eq_by_cmp_equiv nat_list_cmp_total).refl id in
      let here : tree.is_at (slice_cmp nat_cmp id) id ≡ false = ap (tree.is_at (slice_cmp nat_cmp id)) same ∙ apart in
      absurd (cc))
      (Contains-push_cases ids id q contains)
  at_others q apart (Some i) told = get_old ids (id ∷ []) i q told

  numbers_pushed : AreRequestNumbers after (ids ++ id ∷ [])
  numbers_pushed q =
      ⊎_elim
      (λ (here : tree.is_at (slice_cmp nat_cmp id) q ≡ true).
      let same : id ≡ q = exact_bytes id q (is_equal_from (slice_cmp nat_cmp id q) here) in
      let found : tree.get (slice_cmp nat_cmp) after q ≡ Some (length ids) = updates.0 q ∙ cond-true _ _ _ here in
      subst (IsTold q) (sym found) (get_pushed ids id ∙ ap (λ (x : List ℕ). Some x) same))
      (λ (apart : tree.is_at (slice_cmp nat_cmp id) q ≡ false).
      let kept : tree.get (slice_cmp nat_cmp) after q ≡ tree.get (slice_cmp nat_cmp) numbers q =
      updates.0 q ∙ cond-false _ _ _ apart in
      subst (IsTold q) (sym kept) (at_others q apart (tree.get (slice_cmp nat_cmp) numbers q) (right q)))
      (cases_Bool (tree.is_at (slice_cmp nat_cmp id) q))

module _ (asked : List (List ℕ)) (taken : ℕ) (numbers after : tree.BTreeMap (List ℕ) ℕ) (id : List ℕ)
    (kept : AreKept asked taken numbers) where
  -- one more id is kept
  pub kept_pushed : ¬ Contains asked id → tree.Updates (slice_cmp nat_cmp) numbers after id (Some (length asked))
      → length asked < taken + 64 → AreKept (asked ++ id ∷ []) taken after
  kept_pushed absent updates room = record {
    within = omega (arith, kept.within, length-append asked (id ∷ []));
    few = omega (arith, room, length-append asked (id ∷ []));
    distinct = distinct_pushed asked id kept.distinct absent;
    numbered = numbers_pushed numbers after asked id kept.numbered updates;
  }

  -- none more is kept
  pub kept_same : after.entries ≡ numbers.entries → AreKept asked taken after
  kept_same entries = record {
    within = kept.within;
    few = kept.few;
    distinct = kept.distinct;
    numbered = λ q. rw entries (kept.numbered q);
  }

-- one more entry was taken
pub kept_taken : (asked : List (List ℕ)) (taken : ℕ) (numbers : tree.BTreeMap (List ℕ) ℕ) → AreKept asked taken numbers
    → taken < length asked → AreKept asked (taken + 1) numbers
kept_taken asked taken numbers kept some = record {
  within = omega (arith, some);
  few = omega (arith, kept.few);
  distinct = kept.distinct;
  numbered = kept.numbered;
}

-- none is kept
pub kept_none : (numbers : tree.BTreeMap (List ℕ) ℕ) → numbers.entries ≡ [] → AreKept [] 0 numbers
kept_none numbers none = record {
  within = omega arith;
  few = omega arith;
  distinct = λ i j id one other. absurd (none-some id one);
  numbered = λ id. rw none (λ (contains : Contains [] id). absurd (omega (arith, contains.1)));
}
