-- No date is late: each step lets dates rise by a second.
use Rattle.std.proofs.Common.{◌≡◌, ℕ, suc, ◌+◌, ◌-◌, ◌*◌, ◌^◌, ◌<◌, ◌≤◌, List, [], ◌∷◌, map, length, get_or}
use Rattle.std.proofs.Common.{refl, ap, ⊎_elim, arith}
use Rattle.std.proofs.lemmas.Bool.{cases_lt}
use Rattle.std.proofs.lemmas.List.Elements.{All-get_or}
use Rattle.graph_walks.specs.Counts.{greatest}
use Rattle.graph_walks.proofs.GreatestLemmas.{greatest-cons}
use Rattle.graph_levels.specs.declared.level.Level.{Level}
use Rattle.graph_levels.specs.declared.level.State.{State}
use Rattle.graph_levels.specs.declared.level.State.TheVariants.{Unseen, Open, Done}
use Rattle.graph_levels.specs.declared.level.Frame.{Frame}
use Rattle.graph_levels.specs.declared.lists.ParentLists.{ParentLists}
use Rattle.graph_levels.specs.ParentLists.{commit_count}
use Rattle.graph_levels.specs.OnTop.{FitTogether}
use Rattle.graph_levels.specs.SearchStates.{level_date, state_at, work_left, FollowsFrom, IsSearch}
use Rattle.graph_levels.specs.OnTop.{no_level}
use Rattle.graph_levels.proofs.StateLemmas.{state_below, state_above}

-- the greatest is no greater than a bound of each
pub greatest_within : (f : ℕ → ℕ) (xs : List ℕ) (bound : ℕ) → ((k : ℕ) → k < length xs → f (get_or xs k 0) ≤ bound)
    → greatest (map f xs) ≤ bound
greatest_within f [] bound each = omega arith
greatest_within f (x ∷ xs) bound each =
    let here : f x ≤ bound = each 0 (omega arith) in
    let rest : greatest (map f xs) ≤ bound = greatest_within f xs bound (λ k lt. each (suc k) (omega arith)) in
    omega (arith, greatest-cons (f x) (map f xs))

module _ (below : List Level) (parents : ParentLists) (times : List ℕ) (states : List State) (stack : List Frame)
    (input : FitTogether below parents times) (search : IsSearch below parents times states stack) where
  own_bound : (s : State) (i : ℕ) → get_or states i Unseen ≡ s → level_date s + work_left states stack ≤ 2 ^ 63 + 2 *
      commit_count parents
  own_bound Unseen i is = omega (arith, search.work)
  own_bound Open i is = omega (arith, search.work)
  own_bound (Done level) i is = search.dates i level is

  pub date_bound : (p : ℕ) → level_date (state_at below states p) + work_left states stack ≤ 2 ^ 63 + 2 * commit_count parents
  date_bound p =
      ⊎_elim
      (λ (lt : p < length below).
      let it = ap level_date (state_below below states p lt) in
      let early : (get_or below p no_level).date < 2 ^ 63 = All-get_or (λ level. level.date < 2 ^ 63) below p no_level lt
      input.dates in
      omega (arith, it, early, search.work))
      (λ (le : length below ≤ p).
      let it = ap level_date (state_above below states p le) in
      omega (arith, it, own_bound (get_or states (p - length below) Unseen) (p - length below) refl))
      (cases_lt p (length below))

  pub small : (p : ℕ) → level_date (state_at below states p) < 2 ^ 64 - 1
  small p = omega (arith, date_bound p, input.few)

  -- a level that follows from others is a second later at most
  pub level_bound : (ps : List ℕ) (i : ℕ) (level : Level) (rest : ℕ) → i < commit_count parents
      → FollowsFrom below states ps (get_or times i 0) level
      → rest + 1 ≡ work_left states stack → level.date + rest ≤ 2 ^ 63 + 2 * commit_count parents
  level_bound ps i level rest within is less =
      let room : ℕ = 2 ^ 63 + 2 * commit_count parents - work_left states stack in
      let most : greatest (map (λ q. level_date (state_at below states q)) ps) ≤ room =
      greatest_within (λ q. level_date (state_at below states q)) ps room (λ k lt. omega (arith, date_bound (get_or ps k 0))) in
      let early : get_or times i 0 < 2 ^ 63 =
      All-get_or (λ time. time < 2 ^ 63) times i 0 (omega (arith, input.timed)) input.early in
      omega (arith, is.date, most, early, search.work)
