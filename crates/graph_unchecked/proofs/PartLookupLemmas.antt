-- which commits lookups find in the graph that was opened
use Rattle.std.proofs.Common.{◌≡◌, ℕ, ◌+◌, ◌<◌, List, [], ◌∷◌, ◌++◌, All, Some, None, Vec, take, slice_get}
use Rattle.std.proofs.Common.{ap, refl, sym, subst, ◌∙◌}
use Rattle.std.specs.Global.{Global}
use Rattle.std.specs.List.{AllZip}
use Rattle.std.proofs.lemmas.List.{map-append, take_more}
use Rattle.std.proofs.lemmas.Option.{get_or_from_slice_get, slice_get_within}
use Rattle.graph_format.specs.Layer.{Layer}
use Rattle.graph_format.specs.declared.Position.{Position}
use Rattle.gix_commitgraph.specs.GraphLookup.{FoundIn}
use Rattle.commit_search.specs.Positions.{numbers_of}
use Rattle.graph_unchecked.specs.PartLookups.{AreFirstAndOthers, AreOthersFound}
use Rattle.graph_unchecked.specs.Unchecked.{IsFoundAmong, IsFoundAt}
use Rattle.answers.specs.declared.answer.Answer.TheVariants.{Unknown, Known}
use Rattle.answers.specs.FoundOf.{OfFirst}
use Rattle.answers.proofs.FoundLemmas.{all_found, first_missing, later_missing}

-- positions of as many commits
pub within-as : (n m : ℕ) (positions : List Position) → n ≡ m → All (λ (pos : Position). pos.0 < n) positions
    → All (λ (pos : Position). pos.0 < m) positions
within-as n m positions is within = subst (λ (k : ℕ). All (λ (pos : Position). pos.0 < k) positions) is within

zip_push : {A B : Type 0} (R : A → B → Type 0) (xs : List A) (ys : List B) (x : A) (y : B)
    → AllZip R xs ys → R x y → AllZip R (xs ++ x ∷ []) (ys ++ y ∷ [])
zip_push R [] [] x y all here = (here, tt)
zip_push R [] (z ∷ ys) x y all here = absurd all
zip_push R (w ∷ xs) [] x y all here = absurd all
zip_push R (w ∷ xs) (z ∷ ys) x y all here = (all.0, zip_push R xs ys x y all.1 here)

take_push : {A : Type 0} (xs : List A) (i : ℕ) (x : A) → slice_get xs i ≡ Some x → take (i + 1) xs ≡ take i xs ++ x ∷ []
take_push {A} xs i x at =
    take_more xs i x (slice_get_within xs i x at)
    ∙ ap (λ (z : A). take i xs ++ z ∷ []) (get_or_from_slice_get xs i x x at)

-- the ids after the first, one after another
module _ (layers : List Layer) where
  -- one id more is found
  pub found-more : (ids : List (List ℕ)) (found : List Position) (i : ℕ) (id : List ℕ) (pos : Position)
      → AllZip (IsFoundAt layers) (take i ids) (numbers_of found) → slice_get ids i ≡ Some id → IsFoundAt layers id pos.0
      → AllZip (IsFoundAt layers) (take (i + 1) ids) (numbers_of (found ++ pos ∷ []))
  found-more ids found i id pos before at here =
      subst (AllZip (IsFoundAt layers) (take (i + 1) ids)) (sym (map-append (λ (p : Position). p.0) found (pos ∷ [])))
      (subst (λ (zs : List (List ℕ)). AllZip (IsFoundAt layers) zs (numbers_of found ++ pos.0 ∷ []))
      (sym (take_push ids i id at))
      (zip_push (IsFoundAt layers) (take i ids) (numbers_of found) id pos.0 before here))

  -- one is not found
  pub not-found : (ids : List (List ℕ)) (positions : List ℕ) (i : ℕ) (id : List ℕ)
      → AllZip (IsFoundAt layers) (take i ids) positions → slice_get ids i ≡ Some id → FoundIn layers id None
      → AreOthersFound layers ids (Unknown (i + 2))
  not-found ids positions i id before at none =
      (i, refl, all_found (FoundIn layers) (take i ids) positions before, (id, at, none))

  -- with the first id
  pub none-of-first : (first : List ℕ) (others : List (List ℕ)) → FoundIn layers first None
      → IsFoundAmong AreFirstAndOthers (first ∷ others) layers (Unknown 1)
  none-of-first first others none = first_missing (FoundIn layers) (OfFirst (AreFirstAndOthers layers)) first others none

  pub some-of-others : (first : List ℕ) (p : ℕ) (others : List (List ℕ)) (number : ℕ) → IsFoundAt layers first p
      → AreOthersFound layers others (Unknown number)
      → IsFoundAmong AreFirstAndOthers (first ∷ others) layers (Unknown number)
  some-of-others first p others number here found =
      subst (λ (n : ℕ). IsFoundAmong AreFirstAndOthers (first ∷ others) layers (Unknown n)) (sym found.1)
      (later_missing (FoundIn layers) (OfFirst (AreFirstAndOthers layers)) first others p found.0 here found.2 found.3)

  pub all-of-others : (first : List ℕ) (pos : Position) (others : List (List ℕ)) (positions : Vec Position Global)
      → IsFoundAt layers first pos.0 → AreOthersFound layers others (Known positions)
      → IsFoundAmong AreFirstAndOthers (first ∷ others) layers (Known (pos, positions))
  all-of-others first pos others positions here found =
      (pos.0 ∷ numbers_of positions.items, (here, found), (refl, refl))
