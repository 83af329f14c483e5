-- A parent that is being gone through itself closes a cycle.
use Rattle.std.proofs.Common.{◌≡◌, ◌≢◌, ℕ, zero, suc, ◌+◌, ◌-◌, ◌<◌, ◌≤◌, false, List, [], ◌∷◌, length, get_or, slice_get, Some}
use Rattle.std.proofs.Common.{Contains}
use Rattle.std.proofs.Common.{refl, sym, ap, ◌∙◌, subst, ⊎_elim, arith}
use Rattle.std.proofs.lemmas.Bool.{cases_lt}
use Rattle.std.proofs.lemmas.Option.{slice_get_within, get_or_from_slice_get}
use Rattle.graph_walks.specs.History.{Node, IsParent}
use Rattle.graph_walks.specs.Walks.{IsProperAncestor}
use Rattle.graph_walks.proofs.WalkPathLemmas.{Path, between_from_path}
use Rattle.graph_levels.specs.declared.level.Level.{Level}
use Rattle.graph_levels.specs.declared.level.State.{State}
use Rattle.graph_levels.specs.declared.level.State.TheVariants.{Unseen, Open, Done}
use Rattle.graph_levels.specs.declared.level.Frame.{Frame}
use Rattle.graph_levels.specs.declared.lists.ParentLists.{ParentLists}
use Rattle.graph_levels.specs.ParentLists.{commit_count, parent_list}
use Rattle.graph_levels.specs.OnTop.{HasOnTop}
use Rattle.graph_levels.specs.SearchStates.{no_frame, has_level, state_at, IsSearch}
use Rattle.graph_levels.proofs.StateLemmas.{state_below, state_above}

-- an element of a list that is found by its index
pub contains_at : (xs : List ℕ) (k x : ℕ) → slice_get xs k ≡ Some x → Contains xs x
contains_at xs k x at = (k, slice_get_within xs k x at, get_or_from_slice_get xs k x x at)

pub unseen_from : (s t : State) → s ≡ t → has_level s ≡ false → s ≢ Open → t ≡ Unseen
unseen_from s Unseen same pending apart = refl
unseen_from s Open same pending apart = absurd (apart same)
unseen_from s (Done level) same pending apart = let clash = ap has_level same in cc

-- what is pending is one of the upper commits
module _ (below : List Level) (states : List State) (p : ℕ) (pending : has_level (state_at below states p) ≡ false) where
  pub pending_above : length below ≤ p
  pending_above =
      ⊎_elim
      (λ (lt : p < length below). let clash = ap has_level (state_below below states p lt) in absurd (cc))
      (λ (le : length below ≤ p). le)
      (cases_lt p (length below))

  pub pending_unseen : state_at below states p ≢ Open → get_or states (p - length below) Unseen ≡ Unseen
  pending_unseen apart = unseen_from _ _ (state_above below states p pending_above) pending apart

module _ (below : List Level) (parents : ParentLists) (times : List ℕ) (states : List State) (stack : List Frame)
    (search : IsSearch below parents times states stack) (t p index : ℕ) (top : t + 1 ≡ length stack)
    (parent : slice_get (parent_list parents (get_or stack t no_frame).commit) index ≡ Some p) (above : length below ≤ p) where
  pub linked_to : (j : ℕ) → j + 1 ≡ length stack
      → Contains (parent_list parents (get_or stack j no_frame).commit) (length below + (p - length below))
  linked_to j last =
      let same : t ≡ j = omega arith in
      let sum : p ≡ length below + (p - length below) = omega arith in
      subst (λ (n : ℕ). Contains (parent_list parents (get_or stack j no_frame).commit) n) sum
      (subst (λ (n : ℕ). Contains (parent_list parents (get_or stack n no_frame).commit) p) same (contains_at _ index p parent))

  module _ (h : List Node) (on_top : HasOnTop h (length below) parents) (within : p < length below + commit_count parents) where
    abbrev at : ℕ → ℕ
    at j = length below + (get_or stack j no_frame).commit

    at_within : (j : ℕ) → j < length stack → at j < length h
    at_within j lt = omega (arith, on_top.as_many, (search.going.frames j lt).within)

    parent_of : (j q : ℕ) → j < length stack → q < length h → Contains (parent_list parents (get_or stack j no_frame).commit) q
        → IsParent h (at j) q
    parent_of j q lt inside has = (
      at_within j lt,
      inside,
      subst (λ (ps : List ℕ). Contains ps q) (sym (on_top.own (get_or stack j no_frame).commit
          (search.going.frames j lt).within)) has,
    )

    down : (d j : ℕ) → j + d ≡ t → (rest : List ℕ) × Path h (at j) p rest × (1 ≤ length rest)
    down zero j last =
        let inside : p < length h = omega (arith, on_top.as_many) in
        let sum : length below + (p - length below) ≡ p = omega arith in
        let has = subst (λ (n : ℕ). Contains (parent_list parents (get_or stack j no_frame).commit) n) sum (linked_to j
        (omega arith)) in
        (p ∷ [], (parent_of j p (omega arith) inside has, (refl, inside)), omega arith)
    down (suc d) j last =
        let more = down d (j + 1) (omega arith) in (
          at (j + 1) ∷ more.0,
          (
            parent_of j (at (j + 1)) (omega arith) (at_within (j + 1) (omega arith)) (search.going.linked j (omega arith)),
            more.1,
          ),
          omega arith,
        )

    pub closes_cycle : state_at below states p ≡ Open → IsProperAncestor h p p
    closes_cycle is_open =
        let found = search.going.all (p - length below) (sym (state_above below states p above) ∙ is_open) in
        let here : at found.0 ≡ p = omega (arith, found.2) in
        let path = down (t - found.0) found.0 (omega (arith, found.1)) in
        let whole : Path h p p path.0 = subst (λ (n : ℕ). Path h n p path.0) here path.1 in
        (p ∷ path.0, between_from_path h p p path.0 whole, omega (arith, path.2))
