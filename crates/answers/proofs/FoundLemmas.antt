-- What is found of one id, of two, or of all.
use Rattle.std.proofs.Common.{◌≡◌, ℕ, ◌+◌, suc, List, [], ◌∷◌, All, Option, Some, None, refl, take, slice_get, arith}
use Rattle.std.proofs.lemmas.List.Elements.{All-cons, All-head, All-nil, All-tail}
use Rattle.std.specs.List.{AllZip}
use Rattle.answers.specs.FoundOf.{FindsSome, FindsAt, IsFoundOf, OfFirst, OfOne, OfTwo, known_map}
use Rattle.answers.specs.declared.answer.Answer.{Answer}
use Rattle.answers.specs.declared.answer.Answer.TheVariants.{Unknown, Known}

module _ {A : Type 0} (Finds : List ℕ → Option ℕ → Type 0) (IsSo : List ℕ → A → Type 0) where
  -- the first id is missing
  pub first_missing : (id : List ℕ) (ids : List (List ℕ)) → Finds id None → IsFoundOf Finds IsSo (id ∷ ids) (Unknown 1)
  first_missing id ids none = (0, refl, All-nil (FindsSome Finds), (id, refl, none))

  -- the first is there, and the second is missing
  pub second_missing : (id other : List ℕ) (ids : List (List ℕ)) (p : ℕ) → Finds id (Some p) → Finds other None
      → IsFoundOf Finds IsSo (id ∷ other ∷ ids) (Unknown 2)
  second_missing id other ids p one none =
      (1, refl, All-cons (FindsSome Finds) id [] (p, one) (All-nil (FindsSome Finds)), (other, refl, none))

  -- the first is there, and one of the others is missing
  pub later_missing : (id : List ℕ) (ids : List (List ℕ)) (p place : ℕ) → Finds id (Some p)
      → All (FindsSome Finds) (take place ids) → ((other : List ℕ) × (slice_get ids place ≡ Some other) × Finds other None)
      → IsFoundOf Finds IsSo (id ∷ ids) (Unknown (place + 2))
  later_missing id ids p place one before none =
      (suc place, omega arith, All-cons (FindsSome Finds) id (take place ids) (p, one) before, none)

-- ids that are at some positions are found
pub all_found : (Finds : List ℕ → Option ℕ → Type 0) (ids : List (List ℕ)) (positions : List ℕ)
    → AllZip (FindsAt Finds) ids positions → All (FindsSome Finds) ids
all_found Finds [] positions at = All-nil (FindsSome Finds)
all_found Finds (id ∷ ids) [] at = absurd at
all_found Finds (id ∷ ids) (p ∷ positions) at =
    All-cons (FindsSome Finds) id ids (p, at.0) (all_found Finds ids positions at.1)

-- What is so of positions is so of them in another way.
module _ {A B : Type 0} (f : A → B) where
  pub one_so : (IsSo : ℕ → A → Type 0) (WasSo : ℕ → B → Type 0)
      → ((p : ℕ) (known : A) → IsSo p known → WasSo p (f known)) → (positions : List ℕ) (known : A)
      → OfOne IsSo positions known → OfOne WasSo positions (f known)
  one_so IsSo WasSo was [] known so = absurd so
  one_so IsSo WasSo was (p ∷ []) known so = was p known so
  one_so IsSo WasSo was (p ∷ q ∷ rest) known so = absurd so

  pub two_so : (IsSo : ℕ → ℕ → A → Type 0) (WasSo : ℕ → ℕ → B → Type 0)
      → ((p q : ℕ) (known : A) → IsSo p q known → WasSo p q (f known)) → (positions : List ℕ) (known : A)
      → OfTwo IsSo positions known → OfTwo WasSo positions (f known)
  two_so IsSo WasSo was [] known so = absurd so
  two_so IsSo WasSo was (p ∷ []) known so = absurd so
  two_so IsSo WasSo was (p ∷ q ∷ []) known so = was p q known so
  two_so IsSo WasSo was (p ∷ q ∷ r ∷ rest) known so = absurd so

  pub all_so : (IsSo : ℕ → List ℕ → A → Type 0) (WasSo : ℕ → List ℕ → B → Type 0)
      → ((p : ℕ) (others : List ℕ) (known : A) → IsSo p others known → WasSo p others (f known)) → (positions : List ℕ)
      (known : A) → OfFirst IsSo positions known → OfFirst WasSo positions (f known)
  all_so IsSo WasSo was [] known so = absurd so
  all_so IsSo WasSo was (p ∷ others) known so = was p others known so

-- What is found by one search is found by another, where this finds the same.
module _ (Finds Scans : List ℕ → Option ℕ → Type 0) (same : (id : List ℕ) (found : Option ℕ) → Finds id found → Scans id found)
  where
    all_same : (ids : List (List ℕ)) → All (FindsSome Finds) ids → All (FindsSome Scans) ids
    all_same [] all = All-nil (FindsSome Scans)
    all_same (id ∷ ids) all =
        let one = All-head (FindsSome Finds) id ids all in
        All-cons (FindsSome Scans) id ids (one.0, same id (Some one.0) one.1)
        (all_same ids (All-tail (FindsSome Finds) id ids all))

    at_same : (ids : List (List ℕ)) (positions : List ℕ) → AllZip (FindsAt Finds) ids positions
        → AllZip (FindsAt Scans) ids positions
    at_same [] [] zipped = tt
    at_same [] (p ∷ positions) zipped = absurd zipped
    at_same (id ∷ ids) [] zipped = absurd zipped
    at_same (id ∷ ids) (p ∷ positions) zipped = (same id (Some p) zipped.0, at_same ids positions zipped.1)

    module _ {A B : Type 0} (IsSo : List ℕ → A → Type 0) (WasSo : List ℕ → B → Type 0) (ids : List (List ℕ)) where
      missing_same : (number : ℕ) → IsFoundOf Finds IsSo ids (Unknown number) → IsFoundOf Scans WasSo ids (Unknown number)
      missing_same number found =
          (found.0, found.1, all_same (take found.0 ids) found.2, (found.3.0, found.3.1, same found.3.0 None found.3.2))

      -- the same of what is known
      pub found_as : (f : A → B) (answer : Answer A)
          → ((positions : List ℕ) (known : A) → IsSo positions known → WasSo positions (f known))
          → IsFoundOf Finds IsSo ids answer → IsFoundOf Scans WasSo ids (known_map f answer)
      found_as f (Unknown number) so found = missing_same number found
      found_as f (Known known) so found = (found.0, at_same ids found.0 found.1, so found.0 known found.2)

    pub found_same : {A : Type 0} (IsSo WasSo : List ℕ → A → Type 0) (ids : List (List ℕ)) (answer : Answer A)
        → ((positions : List ℕ) (known : A) → IsSo positions known → WasSo positions known) → IsFoundOf Finds IsSo ids answer
        → IsFoundOf Scans WasSo ids answer
    found_same IsSo WasSo ids (Unknown number) so found = missing_same IsSo WasSo ids number found
    found_same IsSo WasSo ids (Known known) so found =
        (found.0, at_same ids found.0 found.1, so found.0 known found.2)
