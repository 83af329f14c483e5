-- Commits in the order of their dates come after their parents.
use Rattle.std.proofs.Common.{◌≡◌, ℕ, zero, suc, ◌+◌, ◌<◌, ◌≤◌, List, [], ◌∷◌, length, map, take, slice_get}
use Rattle.std.proofs.Common.{All, Contains, Some, refl, sym, ap, ◌∙◌, subst, ⊎_elim, arith, get_or, lit≤}
use Rattle.std.specs.Prelude.{slice_index_or}
use Rattle.std.proofs.lemmas.Bool.{cases_lt}
use Rattle.std.proofs.lemmas.List.{length-map}
use Rattle.std.proofs.lemmas.List.Elements.{All-contains, All-map, All-weaker}
use Rattle.std.proofs.lemmas.Option.{get_or_from_slice_get, slice_get_within}
use Rattle.graph_walks.specs.History.{Node, IsParent, parents_at}
use Rattle.graph_walks.specs.Dates.{AreRight, number_at}
use Rattle.graph_walks.specs.Walks.{IsProperAncestor}
use Rattle.graph_walks.proofs.WalkPathLemmas.{between_from_path}
use Rattle.graph_walks.proofs.DateLemmas.{above_proper_ancestors}
use Rattle.graph_levels.specs.OnTop.{HasLevelDates, HasOnTop, level_at, no_level}
use Rattle.graph_levels.specs.ParentLists.{commit_count, parent_list}
use Rattle.graph_levels.specs.declared.level.Level.{Level}
use Rattle.graph_levels.specs.declared.lists.ParentLists.{ParentLists}
use Rattle.commit_requests.specs.Dated.{AreDated, IsDated}
use Rattle.commit_requests.specs.Placing.{ComeAfterParents}
use Rattle.commit_requests.specs.declared.order.Placed.{Placed}
use Rattle.commit_requests.proofs.ListSteps.{contains_from_get, get_from_contains, get_from_mapped, taken_get}

-- the commits of the lists from a number on, as many as this
nodes_from : ParentLists → ℕ → ℕ → List Node
nodes_from lists zero i = []
nodes_from lists (suc k) i = record { generation = 0; parents = parent_list lists i } ∷ nodes_from lists k (suc i)

count_from : (lists : ParentLists) (k i : ℕ) → length (nodes_from lists k i) ≡ k
unfolding nodes_from
count_from lists zero i = refl
count_from lists (suc k) i = ap suc (count_from lists k (suc i))

node_from : (lists : ParentLists) (k i j : ℕ) → j < k → parents_at (nodes_from lists k i) j ≡ parent_list lists (i + j)
unfolding nodes_from
node_from lists zero i j lt = absurd (omega (arith, lt))
node_from lists (suc k) i zero lt = ap (parent_list lists) (plus_zero i) where
  plus_zero : (n : ℕ) → n ≡ n + 0
  plus_zero n = omega arith
node_from lists (suc k) i (suc j) lt = node_from lists k (suc i) j (omega (arith, lt)) ∙ ap (parent_list lists) (shifted i j)
  where
    shifted : (m n : ℕ) → suc m + n ≡ m + suc n
    shifted m n = omega arith

-- their history
pub history_of_lists : ParentLists → List Node
history_of_lists lists = nodes_from lists (commit_count lists) 0

pub history_length : (lists : ParentLists) → length (history_of_lists lists) ≡ commit_count lists
unfolding history_of_lists
history_length lists = count_from lists (commit_count lists) 0

plus : (n : ℕ) → 0 + n ≡ n
plus n = omega arith

pub history_parents : (lists : ParentLists) (i : ℕ) → i < commit_count lists
    → parents_at (history_of_lists lists) i ≡ parent_list lists i
unfolding history_of_lists
history_parents lists i lt = node_from lists (commit_count lists) 0 i lt ∙ ap (parent_list lists) (plus i)

pub history_on_top : (lists : ParentLists) → HasOnTop (history_of_lists lists) 0 lists
history_on_top lists = record {
  as_many = history_length lists ∙ sym (plus (commit_count lists));
  own = λ i lt. ap (parents_at (history_of_lists lists)) (plus i) ∙ history_parents lists i lt;
}

module _ (lists : ParentLists) (own : List Level) (times : List ℕ) (as_many : length own ≡ commit_count lists)
    (right : (history : List Node) (all dates : List ℕ) → HasOnTop history 0 lists
    → HasLevelDates history all dates [] own times → AreRight history all dates) where
  abbrev dates : List ℕ
  dates = map (λ (l : Level). l.date) own

  date_of : (i : ℕ) → i < length own → number_at dates i ≡ (level_at own i).date
  date_of i lt = get_or_from_slice_get dates i ((level_at own i).date) 0 (mapped own i lt) where
    mapped : (xs : List Level) (j : ℕ) → j < length xs → slice_get (map (λ (l : Level). l.date) xs) j
        ≡ Some ((slice_index_or xs j no_level).date)
    mapped [] j within = absurd (omega (arith, within))
    mapped (x ∷ xs) zero within = refl
    mapped (x ∷ xs) (suc j) within = mapped xs j (omega (arith, within))

  has_dates : HasLevelDates (history_of_lists lists) times dates [] own times
  has_dates = record {
    as_many = length-map own (λ (l : Level). l.date) ∙ as_many ∙ sym (history_length lists);
    lower = λ p lt. absurd (omega (arith, lt));
    upper = λ i lt. ap (number_at dates) (plus i) ∙ date_of i lt;
    upper_times = λ i lt. ap (number_at times) (plus i);
    right = λ p lt. absurd (omega (arith, lt));
  }

  are_right : AreRight (history_of_lists lists) times dates
  are_right = right (history_of_lists lists) times dates (history_on_top lists) has_dates

  -- a parent has an earlier date
  parent_earlier : (n q : ℕ) → n < commit_count lists → q < commit_count lists → Contains (parent_list lists n) q
      → (level_at own q).date < (level_at own n).date
  parent_earlier n q in_n in_q contained =
      let h = history_of_lists lists in
      let parent : IsParent h n q = (
        omega (arith, in_n, history_length lists),
        omega (arith, in_q, history_length lists),
        subst (λ (ps : List ℕ). Contains ps q) (sym (history_parents lists n in_n)) contained,
      ) in
      let above : IsProperAncestor h n q =
      (n ∷ q ∷ [], between_from_path h n q (q ∷ []) (parent, (refl, parent.1)), two n q) in
      let falls = above_proper_ancestors h times dates n q are_right above in
      omega (arith, falls, date_of n (omega (arith, in_n, as_many)), date_of q (omega (arith, in_q, as_many)))
    where
      two : (x y : ℕ) → 2 ≤ length (x ∷ y ∷ [])
      two x y = lit≤ tt

  module _ (places : List Placed) (dated : AreDated own places)
      (within : (i : ℕ) → i < commit_count lists → All (λ q. q < commit_count lists) (parent_list lists i)) where
    abbrev numbers : List ℕ
    numbers = map (λ (p : Placed). p.number) places

    place_at : (k n : ℕ) → slice_get numbers k ≡ Some n
        → (p : Placed) × (slice_get places k ≡ Some p) × (p.number ≡ n) × (n < commit_count lists)
        × (p.date ≡ (level_at own n).date)
    place_at k n at =
        let found = get_from_mapped (λ (p : Placed). p.number) places k n at in
        let is = All-contains (IsDated own) places found.0 dated.each (contains_from_get places k found.0 found.1) in (
          found.0,
          found.1,
          found.2,
          omega (arith, is.0, found.2, as_many),
          is.1 ∙ ap (λ (m : ℕ). (level_at own m).date) found.2,
        )

    is_before : (k j n q : ℕ) → slice_get numbers k ≡ Some n → slice_get numbers j ≡ Some q
        → Contains (parent_list lists n) q → j < k
    is_before k j n q at_k at_j contained =
        let later = place_at k n at_k in
        let early = place_at j q at_j in
        let falls = parent_earlier n q later.3 early.3 contained in
        ⊎_elim
        (λ (lt : j < k). lt)
        (λ (le : k ≤ j).
        let rises = dated.rising k j later.0 le (slice_get_within places j early.0 early.1) in
        let one : get_or places k later.0 ≡ later.0 = get_or_from_slice_get places k later.0 later.0 later.1 in
        let other : get_or places j later.0 ≡ early.0 = get_or_from_slice_get places j early.0 later.0 early.1 in
        absurd (omega (
          arith,
          falls,
          rises,
          later.4,
          early.4,
          ap (λ (p : Placed). p.date) one,
          ap (λ (p : Placed). p.date) other,
        )))
        (cases_lt j k)

    pub come_after : ComeAfterParents lists numbers
    come_after = record {
      within = All-map (λ (n : ℕ). n < commit_count lists) (λ (p : Placed). p.number) places
          (All-weaker (IsDated own) (λ (p : Placed). p.number < commit_count lists)
          (λ p is. subst (λ (m : ℕ). p.number < m) as_many is.0) places dated.each);
      every = λ n lt. dated.every n (omega (arith, lt, as_many));
      after = λ k n q at contained.
          let in_n = (place_at k n at).3 in
          let in_q = All-contains (λ (m : ℕ). m < commit_count lists) (parent_list lists n) q (within n in_n) contained in
          let found = get_from_contains numbers q (dated.every q (omega (arith, in_q, as_many))) in
          contains_from_get (take k numbers) found.0 q
          (taken_get k numbers found.0 q (is_before k found.0 n q at found.1 contained) found.1);
    }
