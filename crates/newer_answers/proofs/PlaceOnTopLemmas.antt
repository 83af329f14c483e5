-- The positions where ids are found, and the ids at positions, one after another.
use Rattle.std.proofs.Common.{◌≡◌, ℕ, ◌+◌, ◌<◌, List, [], ◌∷◌, ◌++◌, All, Option, None, Some, Vec, take, slice_get}
use Rattle.std.proofs.Common.{ap, refl, sym, subst, ◌∙◌}
use Rattle.std.specs.Global.{Global}
use Rattle.std.specs.List.{AllZip}
use Rattle.std.proofs.lemmas.List.{map-append, take_more}
use Rattle.std.proofs.lemmas.List.Elements.{All-cons, All-head, All-nil, All-tail}
use Rattle.std.proofs.lemmas.Option.{get_or_from_slice_get, slice_get_within}
use Rattle.graph_format.specs.declared.Position.{Position}
use Rattle.commit_search.specs.Positions.{numbers_of}
use Rattle.answers.specs.FoundOf.{FindsAt, IsFoundOf, OfFirst}
use Rattle.answers.specs.declared.answer.Answer.{Answer}
use Rattle.answers.specs.declared.answer.Answer.TheVariants.{Known, Unknown}
use Rattle.answers.proofs.FoundLemmas.{all_found, later_missing}
use Rattle.newer_commits.specs.CommitsOnTop.{CommitsOnTop}
use Rattle.newer_commits.specs.FindingOnTop.{Finds, HasId}
use Rattle.newer_answers.specs.FoundOnTop.{AreAllPlaces, AreOthersPlaces}

zip_push : {A B : Type 0} (R : A → B → Type 0) (xs : List A) (ys : List B) (x : A) (y : B) → AllZip R xs ys → R x y
    → AllZip R (xs ++ x ∷ []) (ys ++ y ∷ [])
zip_push R [] [] x y all here = (here, tt)
zip_push R [] (z ∷ ys) x y all here = absurd all
zip_push R (w ∷ xs) [] x y all here = absurd all
zip_push R (w ∷ xs) (z ∷ ys) x y all here = (all.0, zip_push R xs ys x y all.1 here)

take_push : {A : Type 0} (xs : List A) (i : ℕ) (x : A) → slice_get xs i ≡ Some x → take (i + 1) xs ≡ take i xs ++ x ∷ []
take_push {A} xs i x at =
    take_more xs i x (slice_get_within xs i x at)
    ∙ ap (λ (z : A). take i xs ++ z ∷ []) (get_or_from_slice_get xs i x x at)

numbers_push : (positions : List Position) (pos : Position)
    → numbers_of (positions ++ pos ∷ []) ≡ numbers_of positions ++ pos.0 ∷ []
numbers_push positions pos = map-append (λ (p : Position). p.0) positions (pos ∷ [])

-- one more id is that of a position
pub id_more : (HasIt : ℕ → List ℕ → Type 0) (positions : List Position) (ids : List (List ℕ)) (i : ℕ) (pos : Position)
    (id : List ℕ) → AllZip HasIt (numbers_of (take i positions)) ids → slice_get positions i ≡ Some pos → HasIt pos.0 id
    → AllZip HasIt (numbers_of (take (i + 1) positions)) (ids ++ id ∷ [])
id_more HasIt positions ids i pos id before at here =
    subst (λ (ps : List ℕ). AllZip HasIt ps (ids ++ id ∷ []))
    (sym (ap numbers_of (take_push positions i pos at) ∙ numbers_push (take i positions) pos))
    (zip_push HasIt (numbers_of (take i positions)) ids pos.0 id before here)

-- one more id is found, or is not
module _ (Finds : List ℕ → Option ℕ → Type 0) where
  pub found_next : (ids : List (List ℕ)) (found : List Position) (i : ℕ) (id : List ℕ) (pos : Position)
      → AllZip (FindsAt Finds) (take i ids) (numbers_of found) → slice_get ids i ≡ Some id → Finds id (Some pos.0)
      → AllZip (FindsAt Finds) (take (i + 1) ids) (numbers_of (found ++ pos ∷ []))
  found_next ids found i id pos before at here =
      subst (AllZip (FindsAt Finds) (take (i + 1) ids)) (sym (numbers_push found pos))
      (subst (λ (zs : List (List ℕ)). AllZip (FindsAt Finds) zs (numbers_of found ++ pos.0 ∷ [])) (sym (take_push ids i id at))
      (zip_push (FindsAt Finds) (take i ids) (numbers_of found) id pos.0 before here))

  pub missing_next : (ids : List (List ℕ)) (found : List Position) (i : ℕ) (id : List ℕ)
      → AllZip (FindsAt Finds) (take i ids) (numbers_of found) → slice_get ids i ≡ Some id → Finds id None
      → AreOthersPlaces Finds ids (Unknown (i + 2))
  missing_next ids found i id before at none =
      (i, refl, all_found Finds (take i ids) (numbers_of found) before, (id, at, none))

  -- with the first id
  pub others_missing : (first : List ℕ) (p : ℕ) (others : List (List ℕ)) (number : ℕ) → Finds first (Some p)
      → AreOthersPlaces Finds others (Unknown number) → IsFoundOf Finds (OfFirst AreAllPlaces) (first ∷ others) (Unknown number)
  others_missing first p others number here found =
      subst (λ (n : ℕ). IsFoundOf Finds (OfFirst AreAllPlaces) (first ∷ others) (Unknown n)) (sym found.1)
      (later_missing Finds (OfFirst AreAllPlaces) first others p found.0 here found.2 found.3)

  pub others_found : (first : List ℕ) (pos : Position) (others : List (List ℕ)) (positions : Vec Position Global)
      → Finds first (Some pos.0) → AreOthersPlaces Finds others (Known positions)
      → IsFoundOf Finds (OfFirst AreAllPlaces) (first ∷ others) (Known (pos, positions))
  others_found first pos others positions here found = (pos.0 ∷ numbers_of positions.items, (here, found), (refl, refl))

-- positions below a bound
pub all_below : (bound : ℕ) (positions : List Position) → All (λ q. q < bound) (numbers_of positions)
    → All (λ (pos : Position). pos.0 < bound) positions
all_below bound [] below = All-nil (λ (pos : Position). pos.0 < bound)
all_below bound (pos ∷ positions) below =
    All-cons (λ (q : Position). q.0 < bound) pos positions (All-head (λ q. q < bound) pos.0 (numbers_of positions) below)
    (all_below bound positions (All-tail (λ q. q < bound) pos.0 (numbers_of positions) below))

-- the same, where the base and the newer commits are named as they were in between
pub finds_as : {F : Type 0} (finds : F → List ℕ → Option ℕ → Type 0) (f other : F) (top after : CommitsOnTop) (id : List ℕ)
    (found : Option ℕ) → other ≡ f → after ≡ top → Finds (finds other) after id found → Finds (finds f) top id found
finds_as {F} finds f other top after id found same are at =
    subst (λ (x : F). Finds (finds x) top id found) same (subst (λ (t : CommitsOnTop). Finds (finds other) t id found) are at)

pub others_as : {F : Type 0} (finds : F → List ℕ → Option ℕ → Type 0) (f other : F) (top after : CommitsOnTop)
    (ids : List (List ℕ)) (answer : Answer (Vec Position Global)) → other ≡ f → after ≡ top
    → AreOthersPlaces (Finds (finds other) after) ids answer → AreOthersPlaces (Finds (finds f) top) ids answer
others_as {F} finds f other top after ids answer same are at =
    subst (λ (x : F). AreOthersPlaces (Finds (finds x) top) ids answer) same
    (subst (λ (t : CommitsOnTop). AreOthersPlaces (Finds (finds other) t) ids answer) are at)

pub has_as : {F : Type 0} (has_id : F → ℕ → List ℕ → Type 0) (f other : F) (top after : CommitsOnTop) (p : ℕ) (id : List ℕ)
    → other ≡ f → after ≡ top → HasId (has_id other) after p id → HasId (has_id f) top p id
has_as {F} has_id f other top after p id same are at =
    subst (λ (x : F). HasId (has_id x) top p id) same (subst (λ (t : CommitsOnTop). HasId (has_id other) t p id) are at)

pub ids_as : {F : Type 0} (has_id : F → ℕ → List ℕ → Type 0) (f other : F) (top after : CommitsOnTop) (ps : List ℕ)
    (ids : List (List ℕ)) → other ≡ f → after ≡ top → AllZip (HasId (has_id other) after) ps ids
    → AllZip (HasId (has_id f) top) ps ids
ids_as {F} has_id f other top after ps ids same are zip =
    subst (λ (x : F). AllZip (HasId (has_id x) top) ps ids) same
    (subst (λ (t : CommitsOnTop). AllZip (HasId (has_id other) t) ps ids) are zip)
