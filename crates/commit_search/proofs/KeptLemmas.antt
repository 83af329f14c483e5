-- Numbers that are marked below a bound, in a hash table or by bits.
use Rattle.std.proofs.Common.{◌≡◌, ℕ, ◌<◌, ◌≤◌, ◌^◌, List, [], ◌∷◌, ◌++◌, length, refl, sym, subst, ⊎_elim, arith}
use Rattle.std.proofs.Common.{Bool, true, false, Vec, vec_len}
use Rattle.std.specs.Prelude.{◌==◌}
use Rattle.std.specs.Global.{Global}
use Rattle.std.proofs.lemmas.Bool.{cases_lt, eq-eqb, eqb-true}
use Rattle.commit_search.specs.Marks.{Marked, IsMarked, AreMarks, AreBits}
use Rattle.commit_search.specs.HashTable.{AreHeld, Puts}
use Rattle.commit_search.proofs.QueueLemmas.{marked_cases}
use Rattle.commit_search.proofs.HashTableLemmas.{same_len, few_put}

-- whether there are bits
pub no_bits : (bits : Vec ℕ Global) (empty : Bool) → empty ≡ (vec_len bits == 0) → empty ≡ true → length bits.items ≡ 0
no_bits bits true is told =
    let sized = bits.ok in
    let counted = eqb-true (vec_len bits) 0 (sym is) in
    omega (arith, sized.0, counted)
no_bits bits false is told = cc

pub some_bits : (bits : Vec ℕ Global) (empty : Bool) → empty ≡ (vec_len bits == 0) → empty ≡ false → 0 < length bits.items
some_bits bits true is told = cc
some_bits bits false is told =
    let sized = bits.ok in
    ⊎_elim
    (λ (any : 0 < length bits.items). any)
    (λ (few : length bits.items ≤ 0). let counted = eq-eqb (vec_len bits) 0 (omega (arith, sized.0)) in cc)
    (cases_lt 0 (length bits.items))

-- one number more is marked
module _ (bound : ℕ) (marked : List Marked) (e : Marked) (below : e.number < bound) where
  pub within_more : ((n : ℕ) → IsMarked marked n → n < bound) → (n : ℕ) → IsMarked (marked ++ e ∷ []) n → n < bound
  within_more within n is =
      ⊎_elim
      (λ (old : IsMarked marked n). within n old)
      (λ (here : e.number ≡ n). subst (λ (m : ℕ). m < bound) here below)
      (marked_cases marked e n is)

  -- its place is put into the table
  pub kept_put : (old new bits : List ℕ) (p : ℕ) → length bits ≡ 0 → p ≡ length marked → Puts old new e.number p
      → AreHeld bound old bits marked → AreHeld bound new bits (marked ++ e ∷ [])
  kept_put old new bits p none place puts kept = record {
    slots = omega (arith, kept.slots, same_len old new e.number p puts);
    within = within_more kept.within;
    few = λ _. few_put old new e.number p puts marked e refl place (kept.few none);
    many = λ some. absurd (omega (arith, none, some));
  }

  -- its bit is set
  pub kept_set : (table old new : List ℕ) → 0 < length old → length new ≡ length old
      → (AreMarks old marked → AreMarks new (marked ++ e ∷ []))
      → AreHeld bound table old marked → AreHeld bound table new (marked ++ e ∷ [])
  kept_set table old new some len set_one kept = record {
    slots = kept.slots;
    within = within_more kept.within;
    few = λ none. absurd (omega (arith, none, some, len));
    many = λ _. let bits = kept.many some in record {
      some = omega (arith, some, len);
      room = omega (arith, bits.room, len);
      marks = set_one bits.marks;
    };
  }

-- the bound grows
module _ (bound more : ℕ) (le : bound ≤ more) (marked : List Marked) (below : (n : ℕ) → IsMarked marked n → n < bound) where
  pub within_grown : (n : ℕ) → IsMarked marked n → n < more
  within_grown n is = omega (arith, le, below n is)

  -- while there are no bits
  pub kept_grown : (table bits : List ℕ) → length bits ≡ 0 → AreHeld bound table bits marked → AreHeld more table bits marked
  kept_grown table bits none kept = record {
    slots = kept.slots;
    within = within_grown;
    few = kept.few;
    many = λ some. absurd (omega (arith, none, some));
  }

  -- and bits are made anew
  pub kept_anew : (table bits : List ℕ) → length table < 2 ^ 32 → AreBits more bits marked → AreHeld more table bits marked
  kept_anew table bits slots are = record {
    slots = slots;
    within = within_grown;
    few = λ none. absurd (let some = are.some in omega (arith, none, some));
    many = λ _. are;
  }
