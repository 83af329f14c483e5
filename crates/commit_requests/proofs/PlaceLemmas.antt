-- Commits with the dates of their levels.
use Rattle.std.proofs.Common.{◌≡◌, ℕ, ◌+◌, ◌<◌, ◌≤◌, List, [], ◌∷◌, ◌++◌, map}
use Rattle.std.proofs.Common.{All, Contains, sym, subst, ⊎_elim, arith}
use Rattle.std.proofs.lemmas.Bool.{cases_lt}
use Rattle.std.proofs.lemmas.List.{map-append}
use Rattle.std.proofs.lemmas.List.Elements.{All-push, Contains-append_left, Contains-push}
use Rattle.graph_levels.specs.declared.level.Level.{Level}
use Rattle.commit_requests.specs.Dated.{IsDated}
use Rattle.commit_requests.specs.declared.order.Placed.{Placed}

abbrev pub numbers_of_places : List Placed → List ℕ
numbers_of_places places = map (λ (place : Placed). place.number) places

-- one more commit has its place
module _ (levels : List Level) (old : List Placed) (place : Placed) (dated : IsDated levels place) where
  pub dated_more : All (IsDated levels) old → All (IsDated levels) (old ++ place ∷ [])
  dated_more each = All-push (IsDated levels) old place each dated

  numbers_more : numbers_of_places (old ++ place ∷ []) ≡ numbers_of_places old ++ place.number ∷ []
  numbers_more = map-append (λ (p : Placed). p.number) old (place ∷ [])

  pub every_more : ((n : ℕ) → n < place.number → Contains (numbers_of_places old) n) → (n : ℕ) → n < place.number + 1
      → Contains (numbers_of_places (old ++ place ∷ [])) n
  every_more every n lt =
      ⊎_elim
      (λ (less : n < place.number).
      subst (λ (xs : List ℕ). Contains xs n) (sym numbers_more)
      (Contains-append_left (numbers_of_places old) (place.number ∷ []) n (every n less)))
      (λ (more : place.number ≤ n).
      let same : place.number ≡ n = omega arith in
      subst (Contains (numbers_of_places (old ++ place ∷ []))) same
      (subst (λ (xs : List ℕ). Contains xs place.number) (sym numbers_more)
      (Contains-push (numbers_of_places old) place.number)))
      (cases_lt n place.number)
