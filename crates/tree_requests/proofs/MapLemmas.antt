-- What holds of each value of a map by its key.
use Rattle.std.proofs.Common.{◌≡◌, ⊎_elim, ℕ, List, [], Option, Some, None, sym, ◌∙◌, subst, true, false}
use Rattle.std.specs.BTreeMap as tree
use Rattle.std.specs.Prelude.{⊤}
use Rattle.std.specs.Option.{MatchOption}
use Rattle.std.specs.Ordering.{nat_cmp, is_eq}
use Rattle.std.specs.declared.cmp.Ordering.{Ordering}
use Rattle.std.specs.declared.cmp.Ordering.TheVariants.{Less, Equal, Greater}
use Rattle.std.specs.Cmp.Lexicographic.{slice_cmp}
use Rattle.std.proofs.lemmas.Bool.{cases_Bool, cond-true, cond-false}
use Rattle.std.proofs.lemmas.Map.Lookups.{exact_bytes}

is_equal_from : (o : Ordering) → is_eq o ≡ true → o ≡ Equal
is_equal_from Less is = absurd (cc)
is_equal_from Equal is = cc
is_equal_from Greater is = absurd (cc)

module _ {X : Type 0} (map after : tree.BTreeMap (List ℕ) X) (P : List ℕ → X → Type 0) where
  abbrev Each : tree.BTreeMap (List ℕ) X → Type 0
  Each m = (id : List ℕ) → MatchOption (tree.get (slice_cmp nat_cmp) m id) ⊤ (P id)

  -- with one value more
  pub each_updated : (id : List ℕ) (x : X) → Each map → P id x → tree.Updates (slice_cmp nat_cmp) map after id (Some x)
      → Each after
  each_updated id x each it updates q =
      ⊎_elim
      (λ (here : tree.is_at (slice_cmp nat_cmp id) q ≡ true).
      let same : id ≡ q = exact_bytes id q (is_equal_from (slice_cmp nat_cmp id q) here) in
      let found : tree.get (slice_cmp nat_cmp) after q ≡ Some x = updates.0 q ∙ cond-true _ _ _ here in
      subst (λ (o : Option X). MatchOption o ⊤ (P q)) (sym found) (subst (λ (i : List ℕ). P i x) same it))
      (λ (apart : tree.is_at (slice_cmp nat_cmp id) q ≡ false).
      let kept : tree.get (slice_cmp nat_cmp) after q ≡ tree.get (slice_cmp nat_cmp) map q =
      updates.0 q ∙ cond-false _ _ _ apart in
      subst (λ (o : Option X). MatchOption o ⊤ (P q)) (sym kept) (each q))
      (cases_Bool (tree.is_at (slice_cmp nat_cmp id) q))

  -- with the same values
  pub each_same : Each map → after.entries ≡ map.entries → Each after
  each_same each entries q = rw entries (each q)

  -- with none
  pub each_none : map.entries ≡ [] → Each map
  each_none none q = rw none tt

-- with a weaker claim
pub each_weaker : {X : Type 0} (o : Option X) (P Q : X → Type 0) → ((x : X) → P x → Q x) → MatchOption o ⊤ P → MatchOption o ⊤ Q
each_weaker None P Q weaker it = tt
each_weaker (Some x) P Q weaker it = weaker x it
