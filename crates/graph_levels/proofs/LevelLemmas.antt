-- Where all commits have levels that follow from one another, they are right in each history that has these commits.
use Rattle.std.proofs.Common.{◌≡◌, ◌≢◌, ◌⊎◌, inl, inr, ℕ, ◌+◌, ◌-◌, ◌<◌, ◌≤◌, max, min, true, false, List, [], map, length}
use Rattle.std.proofs.Common.{get_or}
use Rattle.std.proofs.Common.{refl, sym, ap, ◌∙◌, subst, ⊎_elim, arith}
use Rattle.std.proofs.Math.ListN.{get_or-eq_default}
use Rattle.std.proofs.lemmas.Bool.{cases_lt}
use Rattle.std.proofs.lemmas.List.{get_or-replicate, length-replicate}
use Rattle.std.proofs.lemmas.List.Sums.{count_by-le-length}
use Rattle.std.proofs.Math.ListN.{replicate}
use Rattle.graph_walks.specs.Counts.{greatest}
use Rattle.graph_walks.specs.declared.TheConstants.{GENERATION_NUMBER_MAX}
use Rattle.graph_walks.specs.History.{Node, generation_at}
use Rattle.graph_walks.specs.Generations.{expected_generation, AreLocal}
use Rattle.graph_walks.specs.Dates.{number_at, expected_date, AreRight}
use Rattle.graph_levels.specs.declared.level.Level.{Level}
use Rattle.graph_levels.specs.declared.level.State.{State}
use Rattle.graph_levels.specs.declared.level.State.TheVariants.{Unseen, Open, Done}
use Rattle.graph_levels.specs.declared.level.Frame.{Frame}
use Rattle.graph_levels.specs.declared.lists.ParentLists.{ParentLists}
use Rattle.graph_levels.specs.ParentLists.{commit_count, parent_list}
use Rattle.graph_levels.specs.OnTop.{HasOnTop, HasLevelGenerations, HasLevelDates}
use Rattle.graph_levels.specs.SearchStates.{has_level, is_unseen, level_generation, level_date, state_at, FollowsFrom, IsSearch}
use Rattle.graph_levels.specs.OnTop.{no_level}
use Rattle.graph_levels.proofs.StateLemmas.{state_below, state_above, map_alike}

module _ (below : List Level) (parents : ParentLists) (times : List ℕ) (states : List State) (stack : List Frame)
    (own : List Level)
    (search : IsSearch below parents times states stack) (as_many : length own ≡ length states)
    (each : (i : ℕ) → i < length states → get_or states i Unseen ≡ Done (get_or own i no_level))
    (h : List Node) (on_top : HasOnTop h (length below) parents) where
  -- what is done is the level of a lower or an upper commit
  done_level : (p : ℕ) → has_level (state_at below states p) ≡ true
      → ((p < length below) × (state_at below states p ≡ Done (get_or below p no_level)))
      ⊎ ((length below ≤ p) × (p - length below < length own) × (state_at below states p
      ≡ Done (get_or own (p - length below) no_level)))
  done_level p done =
      ⊎_elim
      (λ (lt : p < length below). inl (lt, state_below below states p lt))
      (λ (le : length below ≤ p).
      let i : ℕ = p - length below in
      let it = state_above below states p le in
      ⊎_elim
      (λ (inside : i < length states). inr (le, omega arith, it ∙ each i inside))
      (λ (past : length states ≤ i).
      let none = ap has_level (it ∙ get_or-eq_default states Unseen past) in absurd (cc))
      (cases_lt i (length states)))
      (cases_lt p (length below))

  own_level : (i : ℕ) → i < commit_count parents → FollowsFrom below states (parent_list parents i) (get_or times i 0)
      (get_or own i no_level)
  own_level i lt = search.levels i (get_or own i no_level) (each i (omega (arith, search.as_many)))

  module _ (has : HasLevelGenerations h below own) where
    same_generation : (p : ℕ) → has_level (state_at below states p) ≡ true
        → level_generation (state_at below states p) ≡ generation_at h p
    same_generation p done =
        ⊎_elim
        (λ (low : (p < length below) × (state_at below states p ≡ Done (get_or below p no_level))).
        ap level_generation low.1 ∙ sym (has.lower p low.0))
        (λ (up : (length below ≤ p) × (p - length below < length own) × (state_at below states p
        ≡ Done (get_or own (p - length below) no_level))).
        let sum : length below + (p - length below) ≡ p = omega (arith, up.0) in
        ap level_generation up.2 ∙ sym (has.upper (p - length below) up.1) ∙ ap (generation_at h) sum)
        (done_level p done)

    upper_local : (i : ℕ) → i < commit_count parents → generation_at h (length below + i)
        ≡ expected_generation h (length below + i)
    unfolding expected_generation
    upper_local i lt =
        let is = own_level i lt in
        let maps : map (λ q. level_generation (state_at below states q)) (parent_list parents i)
        ≡ map (generation_at h) (parent_list parents i) =
        map_alike _ _ (parent_list parents i) (λ k lt. same_generation _ (is.done k lt)) in
        has.upper i (omega (arith, search.as_many))
        ∙ is.generation
        ∙ ap (λ (ns : List ℕ). min GENERATION_NUMBER_MAX (1 + greatest ns)) maps
        ∙ ap (λ (ps : List ℕ). min GENERATION_NUMBER_MAX (1 + greatest (map (generation_at h) ps))) (sym (on_top.own i lt))

    pub all_local : AreLocal h
    all_local p within =
        ⊎_elim
        (λ (low : p < length below). has.right p low)
        (λ (up : length below ≤ p).
        let sum : length below + (p - length below) ≡ p = omega arith in
        subst (λ (n : ℕ). generation_at h n ≡ expected_generation h n) sum
        (upper_local (p - length below) (omega (arith, on_top.as_many))))
        (cases_lt p (length below))

  module _ (all dates : List ℕ) (has : HasLevelDates h all dates below own times) where
    same_date : (p : ℕ) → has_level (state_at below states p) ≡ true → level_date (state_at below states p) ≡ number_at dates p
    same_date p done =
        ⊎_elim
        (λ (low : (p < length below) × (state_at below states p ≡ Done (get_or below p no_level))).
        ap level_date low.1 ∙ sym (has.lower p low.0))
        (λ (up : (length below ≤ p) × (p - length below < length own) × (state_at below states p
        ≡ Done (get_or own (p - length below) no_level))).
        let sum : length below + (p - length below) ≡ p = omega (arith, up.0) in
        ap level_date up.2 ∙ sym (has.upper (p - length below) up.1) ∙ ap (number_at dates) sum)
        (done_level p done)

    upper_right : (i : ℕ) → i < commit_count parents → number_at dates (length below + i)
        ≡ expected_date h all dates (length below + i)
    unfolding expected_date
    upper_right i lt =
        let is = own_level i lt in
        let inside : i < length own = omega (arith, search.as_many) in
        let maps : map (λ q. level_date (state_at below states q)) (parent_list parents i)
        ≡ map (number_at dates) (parent_list parents i) =
        map_alike _ _ (parent_list parents i) (λ k lt. same_date _ (is.done k lt)) in
        has.upper i inside
        ∙ is.date
        ∙ ap (λ (time : ℕ). max time (1 + greatest (map (λ q. level_date (state_at below states q)) (parent_list parents i))))
        (sym (has.upper_times i inside))
        ∙ ap (λ (ns : List ℕ). max (number_at all (length below + i)) (1 + greatest ns)) maps
        ∙ ap (λ (ps : List ℕ). max (number_at all (length below + i)) (1 + greatest (map (number_at dates) ps))) (sym
        (on_top.own i lt))

    pub all_right : AreRight h all dates
    all_right = record {
      as_many = has.as_many;
      expected = λ p within.
          ⊎_elim
          (λ (low : p < length below). has.right p low)
          (λ (up : length below ≤ p).
          let sum : length below + (p - length below) ≡ p = omega arith in
          subst (λ (n : ℕ). number_at dates n ≡ expected_date h all dates n) sum
          (upper_right (p - length below) (omega (arith, on_top.as_many))))
          (cases_lt p (length below));
    }

-- nothing is known at the beginning
module _ (below : List Level) (parents : ParentLists) (times : List ℕ) (n : ℕ) (as_many : n ≡ commit_count parents) where
  abbrev pub none_seen : List State
  none_seen = replicate n Unseen

  unseen_at : (i : ℕ) → get_or none_seen i Unseen ≡ Unseen
  unseen_at i =
      ⊎_elim
      (λ (lt : i < n). get_or-replicate n i Unseen Unseen lt)
      (λ (le : n ≤ i). get_or-eq_default none_seen Unseen (omega (arith, length-replicate n Unseen)))
      (cases_lt i n)

  pub begin_search : IsSearch below parents times none_seen []
  begin_search =
      let size = length-replicate n Unseen in
      record {
        as_many = size ∙ as_many;
        levels = λ i level done. let clash : Unseen ≡ Done level = sym (unseen_at i) ∙ done in absurd (cc);
        dates = λ i level done. let clash : Unseen ≡ Done level = sym (unseen_at i) ∙ done in absurd (cc);
        work = omega (arith, size, count_by-le-length is_unseen none_seen);
        going = record {
          frames = λ j lt. absurd (omega arith);
          apart = λ j k lt hi same. omega arith;
          linked = λ j lt. absurd (omega arith);
          all = λ i is. let clash : Unseen ≡ Open = sym (unseen_at i) ∙ is in absurd (cc);
        };
      }

seen_is_done : (s : State) → is_unseen s ≡ false → s ≢ Open → has_level s ≡ true
seen_is_done Unseen seen apart = absurd (cc)
seen_is_done Open seen apart = absurd (apart refl)
seen_is_done (Done level) seen apart = refl

-- nothing is being gone through at the end
pub all_done : (below : List Level) (parents : ParentLists) (times : List ℕ) (states : List State) (stack : List Frame)
    → IsSearch below parents times states stack → length stack ≡ 0 → (i : ℕ) → is_unseen (get_or states i Unseen) ≡ false
    → has_level (get_or states i Unseen) ≡ true
all_done below parents times states stack search empty i seen =
    seen_is_done (get_or states i Unseen) seen (λ is.
    let found = search.going.all i is in omega (arith, found.1, empty))
