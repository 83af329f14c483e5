-- What a search knows of a commit, as it goes on.
use Rattle.std.proofs.Common.{◌≡◌, ◌≢◌, ℕ, suc, ◌+◌, ◌-◌, ◌<◌, ◌≤◌, max, min, Bool, true, false, List, [], ◌∷◌, ◌++◌, map}
use Rattle.std.proofs.Common.{length, take, get_or, if◌then◌else◌, refl, sym, ap, ◌∙◌, ⊎_elim, arith, add-one}
use Rattle.std.proofs.Math.ListN.{set}
use Rattle.std.proofs.Math.Seq.{take-suc}
use Rattle.std.proofs.lemmas.Bool.{cases_lt, lt-ltb, le-ltb}
use Rattle.std.proofs.lemmas.List.{get_or-set_other}
use Rattle.std.proofs.lemmas.List.Sums.{fold-append}
use Rattle.graph_walks.specs.Counts.{greatest}
use Rattle.graph_walks.specs.declared.TheConstants.{GENERATION_NUMBER_MAX}
use Rattle.graph_levels.specs.declared.level.Level.{Level}
use Rattle.graph_levels.specs.declared.level.State.{State}
use Rattle.graph_levels.specs.declared.level.State.TheVariants.{Unseen, Done}
use Rattle.graph_levels.specs.SearchStates.{has_level, level_generation, level_date, state_at, FollowsFrom}
use Rattle.graph_levels.specs.OnTop.{no_level}

-- one more number
pub greatest-push : (ns : List ℕ) (n : ℕ) → greatest (ns ++ n ∷ []) ≡ max (greatest ns) n
greatest-push ns n = fold-append max 0 ns (n ∷ [])

-- the greatest of what f gives for one more element
pub greatest-more : (f : ℕ → ℕ) (xs : List ℕ) (i d : ℕ) → i < length xs
    → greatest (map f (take (i + 1) xs)) ≡ max (greatest (map f (take i xs))) (f (get_or xs i d))
greatest-more f xs i d lt =
    ap (λ (n : ℕ). greatest (map f (take n xs))) (add-one i)
    ∙ ap (λ (ys : List ℕ). greatest (map f ys)) (take-suc xs i d lt)
    ∙ ap greatest (map_push f (take i xs) (get_or xs i d))
    ∙ greatest-push (map f (take i xs)) (f (get_or xs i d))
  where
    map_push : (f : ℕ → ℕ) (xs : List ℕ) (x : ℕ) → map f (xs ++ x ∷ []) ≡ map f xs ++ f x ∷ []
    map_push f [] x = refl
    map_push f (y ∷ ys) x = ap (λ (zs : List ℕ). f y ∷ zs) (map_push f ys x)

-- what two functions give is one list where they agree on each element
pub map_alike : (f g : ℕ → ℕ) (xs : List ℕ) → ((k : ℕ) → k < length xs → f (get_or xs k 0) ≡ g (get_or xs k 0))
    → map f xs ≡ map g xs
map_alike f g [] alike = refl
map_alike f g (x ∷ xs) alike =
    let here : f x ≡ g x = alike 0 (omega arith) in
    let rest : map f xs ≡ map g xs = map_alike f g xs (λ k lt. alike (suc k) (omega arith)) in
    ap (λ (y : ℕ). y ∷ map f xs) here ∙ ap (λ (ys : List ℕ). g x ∷ ys) rest

module _ (below : List Level) (states : List State) where
  pub state_below : (p : ℕ) → p < length below → state_at below states p ≡ Done (get_or below p no_level)
  unfolding state_at
  state_below p lt =
      ap (λ (b : Bool). if b then Done (get_or below p no_level) else get_or states (p - length below) Unseen)
      (lt-ltb p (length below) lt)

  pub state_above : (p : ℕ) → length below ≤ p → state_at below states p ≡ get_or states (p - length below) Unseen
  unfolding state_at
  state_above p le =
      ap (λ (b : Bool). if b then Done (get_or below p no_level) else get_or states (p - length below) Unseen)
      (le-ltb p (length below) le)

  pub state_own : (i : ℕ) → state_at below states (length below + i) ≡ get_or states i Unseen
  state_own i =
      let one : length below + i - length below ≡ i = omega arith in
      state_above (length below + i) (omega arith) ∙ ap (λ (n : ℕ). get_or states n Unseen) one

-- What is done stays as it is.
pub record StaysDone (below : List Level) (old new : List State) : Type 0 where
  pub same : (i : ℕ) → has_level (get_or old i Unseen) ≡ true → get_or new i Unseen ≡ get_or old i Unseen

module _ (below : List Level) (old new : List State) (stays : StaysDone below old new) where
  pub same_state : (p : ℕ) → has_level (state_at below old p) ≡ true → state_at below new p ≡ state_at below old p
  same_state p done =
      ⊎_elim
      (λ (lt : p < length below). state_below below new p lt ∙ sym (state_below below old p lt))
      (λ (le : length below ≤ p).
      state_above below new p le
      ∙ stays.same (p - length below) (ap has_level (sym (state_above below old p le)) ∙ done)
      ∙ sym (state_above below old p le))
      (cases_lt p (length below))

  pub still_done : (p : ℕ) → has_level (state_at below old p) ≡ true → has_level (state_at below new p) ≡ true
  still_done p done = ap has_level (same_state p done) ∙ done

  -- a level that follows from others still does
  pub level_stays : (parents : List ℕ) (time : ℕ) (level : Level) → FollowsFrom below old parents time level
      → FollowsFrom below new parents time level
  level_stays parents time level is =
      let gens : map (λ q. level_generation (state_at below old q)) parents
      ≡ map (λ q. level_generation (state_at below new q)) parents =
      map_alike _ _ parents (λ k lt. ap level_generation (sym (same_state (get_or parents k 0) (is.done k lt)))) in
      let dates : map (λ q. level_date (state_at below old q)) parents ≡ map (λ q. level_date (state_at below new q)) parents =
      map_alike _ _ parents (λ k lt. ap level_date (sym (same_state (get_or parents k 0) (is.done k lt)))) in
      record {
        done = λ k lt. still_done (get_or parents k 0) (is.done k lt);
        generation = is.generation ∙ ap (λ (ns : List ℕ). min GENERATION_NUMBER_MAX (1 + greatest ns)) gens;
        date = is.date ∙ ap (λ (ns : List ℕ). max time (1 + greatest ns)) dates;
      }

-- a commit that is not done may change
pub set_stays : (below : List Level) (states : List State) (i : ℕ) (s : State) → has_level (get_or states i Unseen) ≡ false
    → StaysDone below states (set states i s)
set_stays below states i s pending = record {
  same = λ j done.
      let apart : j ≢ i = λ (same : j ≡ i). let it = ap (λ (n : ℕ). has_level (get_or states n Unseen)) same in cc in
      get_or-set_other states i j s Unseen apart;
}
