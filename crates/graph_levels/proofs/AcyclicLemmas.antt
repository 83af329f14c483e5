-- Where all new commits have levels, none of them is its own proper ancestor: dates fall along each walk among them, and no walk
-- comes back from below.
use Rattle.std.proofs.Common.{◌≡◌, ℕ, ◌+◌, ◌-◌, ◌<◌, ◌≤◌, List, [], ◌∷◌, map, length, get_or, slice_get, Some}
use Rattle.std.proofs.Common.{sym, ap, ◌∙◌, subst, ⊎_elim, arith}
use Rattle.std.proofs.lemmas.Bool.{cases_lt}
use Rattle.std.proofs.lemmas.Option.{slice_get-get_or}
use Rattle.std.proofs.lemmas.List.Elements.{All-contains}
use Rattle.graph_walks.specs.Counts.{greatest}
use Rattle.graph_walks.specs.History.{Node, IsParent, parents_at}
use Rattle.graph_walks.specs.Walks.{IsProperAncestor}
use Rattle.graph_walks.proofs.GreatestLemmas.{greatest_bounds}
use Rattle.graph_walks.proofs.WalkPathLemmas.{Path, path_from_between}
use Rattle.graph_levels.specs.declared.level.Level.{Level}
use Rattle.graph_levels.specs.declared.level.State.{State}
use Rattle.graph_levels.specs.declared.level.State.TheVariants.{Unseen, Done}
use Rattle.graph_levels.specs.declared.level.Frame.{Frame}
use Rattle.graph_levels.specs.declared.lists.ParentLists.{ParentLists}
use Rattle.graph_levels.specs.ParentLists.{commit_count, parent_list}
use Rattle.graph_levels.specs.OnTop.{HasOnTop, AreClosedBelow, HasNoCycleOnTop, no_level}
use Rattle.graph_levels.specs.SearchStates.{level_date, state_at, IsSearch}
use Rattle.graph_levels.proofs.StateLemmas.{state_above}

-- a walk that begins below stays there
stays_below : (h : List Node) (base p q : ℕ) (rest : List ℕ) → AreClosedBelow h base → Path h p q rest → p < base → q < base
stays_below h base p q [] closed w lt = subst (λ (n : ℕ). n < base) w.0 lt
stays_below h base p q (y ∷ rest) closed w lt =
    stays_below h base y q rest closed w.1 (All-contains (λ n. n < base) (parents_at h p) y (closed p lt) w.0.2)

-- a walk of more than one commit begins at a commit
begins_within : (h : List Node) (p q : ℕ) (rest : List ℕ) → Path h p q rest → 1 ≤ length rest → p < length h
begins_within h p q [] w long = absurd (omega (arith, long))
begins_within h p q (y ∷ rest) w long = w.0.0

-- past the last commit there is none
pub no_cycle_past_all : (h : List Node) (base p : ℕ) → length h ≡ base → base ≤ p → ¬ IsProperAncestor h p p
no_cycle_past_all h base p as_many le (walk, between, long) =
    let path = path_from_between h p p walk between in
    let size = ap length path.1 in
    let within = begins_within h p p path.0 path.2 (omega (arith, size, long)) in
    absurd (omega (arith, within, as_many))

module _ (below : List Level) (parents : ParentLists) (times : List ℕ) (states : List State) (stack : List Frame)
    (own : List Level)
    (search : IsSearch below parents times states stack)
    (each : (i : ℕ) → i < length states → get_or states i Unseen ≡ Done (get_or own i no_level))
    (h : List Node) (on_top : HasOnTop h (length below) parents) (closed : AreClosedBelow h (length below)) where
  -- the date of a new commit, by its position
  abbrev own_date : ℕ → ℕ
  own_date p = (get_or own (p - length below) no_level).date

  known_date : (q : ℕ) → length below ≤ q → q < length h → level_date (state_at below states q) ≡ own_date q
  known_date q le within =
      ap level_date (state_above below states q le ∙ each (q - length below) (omega (arith, search.as_many, on_top.as_many)))

  -- a new commit is later than each of its parents that is new
  later : (p q : ℕ) → length below ≤ p → length below ≤ q → IsParent h p q → own_date q + 1 ≤ own_date p
  later p q le above (inside, within, (k, lt, at)) =
      let i : ℕ = p - length below in
      let sum : length below + i ≡ p = omega arith in
      let few : i < commit_count parents = omega (arith, on_top.as_many) in
      let is = search.levels i (get_or own i no_level) (each i (omega (arith, search.as_many))) in
      let listed : slice_get (parents_at h p) k ≡ Some q = slice_get-get_or (parents_at h p) k q lt ∙ ap (λ (n : ℕ). Some n) at in
      let same : parents_at h p ≡ parent_list parents i = ap (parents_at h) (sym sum) ∙ on_top.own i few in
      let bound : level_date (state_at below states q)
      ≤ greatest (map (λ n. level_date (state_at below states n)) (parent_list parents i)) =
      greatest_bounds (λ n. level_date (state_at below states n)) (parent_list parents i) k q
      (subst (λ (ps : List ℕ). slice_get ps k ≡ Some q) same listed) in
      omega (arith, is.date, bound, known_date q above within)

  -- along a walk among the new commits dates fall by a second or more with each step
  falls : (p q : ℕ) (rest : List ℕ) → Path h p q rest → length below ≤ q → own_date q + length rest ≤ own_date p
  falls p q [] w le = let same : own_date p ≡ own_date q = ap own_date w.0 in omega arith
  falls p q (y ∷ rest) w le =
      ⊎_elim
      (λ (lt : p < length below).
      let down = stays_below h (length below) p q (y ∷ rest) closed w lt in absurd (omega arith))
      (λ (above : length below ≤ p).
      ⊎_elim
      (λ (lt : y < length below). let down = stays_below h (length below) y q rest closed w.1 lt in absurd (omega arith))
      (λ (over : length below ≤ y). omega (arith, falls y q rest w.1 le, later p y above over w.0))
      (cases_lt y (length below)))
      (cases_lt p (length below))

  pub no_cycle_on_top : HasNoCycleOnTop h (length below)
  no_cycle_on_top p le (walk, between, long) =
      let path = path_from_between h p p walk between in
      let size = ap length path.1 in
      omega (arith, size, falls p p path.0 path.2 le)
