-- How an extra edge list is gone over from its last word to its first.
use Rattle.std.proofs.Common.{◌≡◌, ℕ, zero, suc, ◌+◌, ◌<◌, ◌≤◌, List, [], ◌∷◌, ◌++◌, Option, Some, None, IfSome, length}
use Rattle.std.proofs.Common.{get_or, drop, option_map, reverse, refl, sym, ap, ◌∙◌, arith, append_assoc, length-append}
use Rattle.std.proofs.lemmas.List.{nil_from_length, append-nil, reverse-append}
use Rattle.graph_format.specs.Format.{words}
use Rattle.graph_format.specs.Parents.{DecodedParents, no_parents, faulty, followed_by, listed}
use Rattle.graph_format.specs.declared.Position.{Position}
use Rattle.graph_format.specs.declared.parents.ParentError.{ParentError}
use Rattle.graph_format.specs.declared.parents.ParentError.TheVariants.{NoEdgeList, EdgeOverflow}
use Rattle.graph_layer.specs.ListedParents.{AreListed, IsCount}
use Rattle.graph_layer.proofs.ListedParentLemmas.{length-words}
use Rattle.graph_layer.proofs.ParentCountLemmas.{HasFew, listed-few}

-- What is told of each list of parents. Of a list that gives a fault alone, nothing is.
module _ {T : Type 0} (Tells : DecodedParents → Option T → Type 0)
    (nothing : (error : ParentError) → Tells (faulty error) None) where
  -- what is told of words, of each the parents that are listed from it on
  abbrev pub AreTold : List ℕ → List (Option T) → Type 0
  AreTold [] [] = Unit {0}
  AreTold [] (first ∷ told) = ⊥
  AreTold (word ∷ words) [] = ⊥
  AreTold (word ∷ words) (first ∷ told) = Tells (listed (word ∷ words)) first × AreTold words told

  told_at : (words : List ℕ) (told : List (Option T)) → AreTold words told
      → (index : ℕ) → Tells (listed (drop index words)) (get_or told index None)
  told_at [] [] all zero = nothing EdgeOverflow
  told_at [] [] all (suc index) = nothing EdgeOverflow
  told_at [] (first ∷ told) all index = absurd all
  told_at (word ∷ words) [] all index = absurd all
  told_at (word ∷ words) (first ∷ told) all zero = all.0
  told_at (word ∷ words) (first ∷ told) all (suc index) = told_at words told all.1 index

  told-counted : (words : List ℕ) (told : List (Option T)) → AreTold words told → length told ≡ length words
  told-counted [] [] all = refl
  told-counted [] (first ∷ told) all = absurd all
  told-counted (word ∷ words) [] all = absurd all
  told-counted (word ∷ words) (first ∷ told) all = ap suc (told-counted words told all.1)

  -- Of all words the last ones were passed, the very last first, and the others are left.
  pub record HasPassed (all left : List ℕ) (newest : Option T) (told : List (Option T)) : Type 0 where
    pub passed : List ℕ
    pub split : all ≡ left ++ passed
    pub last : Tells (listed passed) newest
    pub each : AreTold passed (reverse told)

  pub passed_none : (all : List ℕ) → HasPassed all all None []
  passed_none all = record { passed = []; split = sym (append-nil all); last = nothing EdgeOverflow; each = tt }

  pub passed_more : (all left rest : List ℕ) (last next : Option T) (told : List (Option T)) (word : ℕ)
      (before : HasPassed all left last told) → left ≡ rest ++ word ∷ [] → Tells (listed (word ∷ before.passed)) next
      → HasPassed all rest next (told ++ next ∷ [])
  passed_more all left rest last next told word before taken is = record {
    passed = word ∷ before.passed;
    split = before.split ∙ ap (λ (xs : List ℕ). xs ++ before.passed) taken ∙ append_assoc rest (word ∷ []) before.passed;
    last = is;
    each = rw reverse-append (is, before.each);
  }

  -- the words that were passed list few parents
  pub passed_few : (edges : Option (List ℕ)) (all left : List ℕ) (last : Option T) (told : List (Option T))
      (before : HasPassed all left last told) → Some all ≡ option_map words edges → HasFew edges
      → length (listed before.passed).positions ≤ 4294967294
  passed_few None all left last told before is few = absurd (cc)
  passed_few (Some bytes) all left last told before is few =
      let same : all ≡ words bytes = cc in
      omega (
        arith,
        listed-few before.passed,
        ap length before.split,
        length-append left before.passed,
        ap length same,
        length-words bytes,
        few,
      )

  -- once all words were passed
  pub passed_all : (edges : Option (List ℕ)) (all left : List ℕ) (last : Option T) (told : List (Option T))
      → HasPassed all left last told → length left ≡ 0 → Some all ≡ option_map words edges
      → AreListed Tells edges (reverse told)
  passed_all None all left last told before none is = absurd (cc)
  passed_all (Some bytes) all left last told before none is =
      let same : before.passed ≡ words bytes =
      sym (before.split ∙ ap (λ (xs : List ℕ). xs ++ before.passed) (nil_from_length left none)) ∙ cc in
      record {
        one_each = told-counted before.passed (reverse told) before.each ∙ ap length same;
        each = λ index. rw (← same) (told_at before.passed (reverse told) before.each index);
      }

  -- where there is no list
  pub passed_nothing : (edges : Option (List ℕ)) → None ≡ option_map words edges → AreListed Tells edges []
  passed_nothing None is = record { one_each = refl; each = each } where
    each : (index : ℕ) → Tells (faulty NoEdgeList) (get_or [] index None)
    each zero = nothing NoEdgeList
    each (suc index) = nothing NoEdgeList
  passed_nothing (Some bytes) is = absurd (cc)

-- nothing is counted of a list that gives a fault alone
pub nothing-counted : (error : ParentError) → IsCount (faulty error) None
nothing-counted error = λ h. cc

-- one parent alone
pub counted_last : (pos : Position) → IsCount (followed_by pos no_parents) (Some 1)
counted_last pos = (refl, refl)

-- one parent before those that were counted
pub counted_more : (parents : DecodedParents) (pos : Position) (count : Option ℕ) → IsCount parents count
    → IsCount (followed_by pos parents) (option_map (λ n. n + 1) count)
counted_more parents pos None is = is
counted_more parents pos (Some n) is = (is.0, omega (arith, is.1))

-- a bound of the parents is one of their count
pub counted_few : (parents : DecodedParents) (count : Option ℕ) → IsCount parents count
    → length parents.positions ≤ 4294967294 → IfSome count (λ n. n < 4294967295)
counted_few parents None is few = tt
counted_few parents (Some n) is few = omega (arith, is.1, few)
