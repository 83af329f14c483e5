-- What is answered of the commits of a base and of newer ones on top of it. Whatever the base may say, a yes, a walk and a common
-- ancestor are there; where the generation numbers of the base count walks, or the corrected dates are right by which a search
-- goes, each answer is exact ("generation number" in Git's commit-graph design).
use Rattle.std.specs.Prelude.{◌≡◌, ℕ, ◌*◌, ◌≤◌, List, All, Bool, IsTrue, Option, Some, None, Vec, length}
use Rattle.std.specs.Global.{Global}
use Rattle.std.specs.List.{AllZip}
use Rattle.graph_walks.specs.History.{Node}
use Rattle.graph_walks.specs.Walks.{CountWalks, IsWalkBetween, Reaches}
use Rattle.commit_search.specs.Positions.{numbers_of}
use Rattle.commit_search.specs.Ranks.{FallsAlongParents, Ranking, by_date, by_generation}
use Rattle.commit_search.specs.Source.{Told}
use Rattle.commit_search.specs.WalkAnswer.{IsShortestWalk}
use Rattle.graph_bases.specs.Bases.{IsCommonAncestor}
use Rattle.graph_bases.specs.Comparison.{IsComparisonBy}
use Rattle.graph_bases.specs.declared.bases.Comparison.{Comparison}
use Rattle.answers.specs.declared.comparison.IdComparison.{IdComparison}
use Rattle.newer_commits.specs.CommitsOnTop.{CommitsOnTop, end_of_top, nodes_on_top}
use Rattle.newer_commits.specs.FindingOnTop.{HasId}
use Rattle.newer_commits.specs.JoinedHistory.{joined_history, joined_with}
use Rattle.newer_commits.specs.RanksOnTop.{ranking_on_top}

-- the history of all commits, where the base tells this
abbrev pub all_history : CommitsOnTop → Told → List Node
all_history top t = joined_history t.history (nodes_on_top top)

-- It is told whether the second commit leads to the first along parents.
pub record IsToldOnTop (says : Told → Type 0) (top : CommitsOnTop) (first second : ℕ) (told : Bool) : Type 0 where
  pub yes : (t : Told) → says t → IsTrue told → Reaches (all_history top t) second first
  pub no : (t : Told) → says t → CountWalks t.history → Reaches (all_history top t) second first → IsTrue told

-- This is a walk from the first commit to the second.
pub record LeadsOnTop (says : Told → Type 0) (top : CommitsOnTop) (first second : ℕ) (walk : List ℕ) : Type 0 where
  pub there : (t : Told) → says t → IsWalkBetween (all_history top t) first second walk
  pub shortest : (t : Told) → says t → CountWalks t.history → IsShortestWalk (all_history top t) first second walk

-- no walk leads from the first commit to the second
abbrev pub NeverLeadsOnTop : (Told → Type 0) → CommitsOnTop → ℕ → ℕ → Type 0
NeverLeadsOnTop says top first second =
    (t : Told) → says t → CountWalks t.history → ¬ Reaches (all_history top t) first second

-- these are the ids on a walk from the first commit to the second, or there is none
abbrev pub IsWalkOnTop : (Told → Type 0) → (ℕ → List ℕ → Type 0) → CommitsOnTop → ℕ → ℕ → Option (Vec (List ℕ) Global) → Type 0
IsWalkOnTop says has_id top first second (Some ids) =
    (walk : List ℕ) × LeadsOnTop says top first second walk × AllZip (HasId has_id top) walk ids.items
IsWalkOnTop says has_id top first second None = NeverLeadsOnTop says top first second

-- a search for merge bases goes by the generation numbers; or where the corrected dates of the base are given, by these
abbrev pub ranking_over : Option (List ℕ) → List Node → Ranking
ranking_over None history = by_generation history
ranking_over (Some dates) history = ranking_on_top dates

-- so much of the base has to be right: its generation numbers count walks; or the dates, one for each commit, fall along all
-- parents
abbrev pub AreRightNumbers : Option (List ℕ) → List Node → Type 0
AreRightNumbers None history = CountWalks history
AreRightNumbers (Some dates) history = (length dates ≡ length history) × FallsAlongParents history (by_date dates)

-- What the first commit and the others have in common. No commit is visited more than three times.
pub record AreBasesOnTop (says : Told → Type 0) (top : CommitsOnTop) (dates : Option (List ℕ)) (first : ℕ) (others : List ℕ)
    (compared : Comparison) : Type 0 where
  pub common : (t : Told) → says t
      → All (λ base. IsCommonAncestor (all_history top t) first others base.0) compared.bases.positions.items
  pub exact : (t : Told) → says t → AreRightNumbers dates t.history
      → IsComparisonBy (all_history top t) (ranking_over dates (all_history top t)) first others compared
  pub visits : compared.bases.visits ≤ 3 * end_of_top top

-- the same, with the ids of the merge bases
abbrev pub IsComparedOnTop : (Told → Type 0) → (ℕ → List ℕ → Type 0) → CommitsOnTop → Option (List ℕ) → ℕ → List ℕ
    → IdComparison (Vec (List ℕ) Global) → Type 0
IsComparedOnTop says has_id top dates first others known =
    AreBasesOnTop says top dates first others known.comparison
    × AllZip (HasId has_id top) (numbers_of known.comparison.bases.positions.items) known.base_ids.items

-- What is said of all commits is what was said before: reads only find more out.
abbrev pub IsKeptOnTop : ℕ → CommitsOnTop → (Told → Type 0) → (Told → Type 0) → Type 0
IsKeptOnTop layer top old new =
    (t : Told) → new t → (before : Told) × old before × (joined_with layer top t ≡ joined_with layer top before)
