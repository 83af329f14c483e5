-- The common ancestors of a commit and some others of a history, and the best of them, which Git calls merge bases ("git
-- merge-base", DESCRIPTION and DISCUSSION); and how far the commits have come apart ("git for-each-ref", ahead-behind).
use Rattle.std.specs.Prelude.{◌≡◌, ◌⊎◌, ◌↔◌, ℕ, ◌+◌, ◌<◌, ◌≤◌, List, Contains}
use Rattle.std.specs.List.Sorted.{IsStrictlyIncreasing}
use Rattle.graph_walks.specs.History.{Node, IsParent}
use Rattle.graph_walks.specs.Walks.{Reaches, IsProperAncestor}
use Rattle.commit_search.specs.Cardinality.{AtLeast, AtMost}
use Rattle.commit_search.specs.Ranks.{Ranking, by_generation}

-- some of these commits leads to p; each commit leads to itself
abbrev pub IsReachedFromSome : List Node → List ℕ → ℕ → Type 0
IsReachedFromSome history starts p = (s : ℕ) × Contains starts s × Reaches history s p

-- the first leads to p, and some of the others does: p is an ancestor that the first shares with a merge of the others
abbrev pub IsCommonAncestor : List Node → ℕ → List ℕ → ℕ → Type 0
IsCommonAncestor history first others p = Reaches history first p × IsReachedFromSome history others p

-- p is a proper ancestor of a common ancestor
abbrev pub IsBelowCommon : List Node → ℕ → List ℕ → ℕ → Type 0
IsBelowCommon history first others p = (c : ℕ) × IsCommonAncestor history first others c × IsProperAncestor history c p

-- A best common ancestor: one that is no proper ancestor of a common ancestor.
pub record IsMergeBase (history : List Node) (first : ℕ) (others : List ℕ) (p : ℕ) : Type 0 where
  pub common : IsCommonAncestor history first others p
  pub best : (q : ℕ) → IsCommonAncestor history first others q → ¬ IsProperAncestor history q p

-- the first leads to p, and none of the others does
abbrev pub IsAhead : List Node → ℕ → List ℕ → ℕ → Type 0
IsAhead history first others p = Reaches history first p × (¬ IsReachedFromSome history others p)

-- some of the others leads to p, and the first does not
abbrev pub IsBehind : List Node → ℕ → List ℕ → ℕ → Type 0
IsBehind history first others p = IsReachedFromSome history others p × (¬ Reaches history first p)

-- These are the merge bases, each once, in the order of their positions.
pub record AreMergeBases (history : List Node) (first : ℕ) (others : List ℕ) (bases : List ℕ) : Type 0 where
  pub ascending : IsStrictlyIncreasing bases
  pub those : (p : ℕ) → Contains bases p ↔ IsMergeBase history first others p

-- What a search for them visits that orders commits by their ranks.

-- p is reached
abbrev pub IsReached : List Node → ℕ → List ℕ → ℕ → Type 0
IsReached history first others p = Reaches history first p ⊎ IsReachedFromSome history others p

-- s is the first commit or one of the others
abbrev pub IsStart : ℕ → List ℕ → ℕ → Type 0
IsStart first others s = (s ≡ first) ⊎ Contains others s

-- no rank of the commits that the search starts from is at the cap
abbrev pub AreBelowCap : Ranking → ℕ → List ℕ → Type 0
AreBelowCap ranking first others = (s : ℕ) → IsStart first others s → ranking.rank s < ranking.cap

-- one side alone leads to p
abbrev pub IsOnOneSide : List Node → ℕ → List ℕ → ℕ → Type 0
IsOnOneSide history first others p = IsAhead history first others p ⊎ IsBehind history first others p

-- e is a commit that the search starts from, or a parent of one on one side alone
abbrev pub IsAtEdge : List Node → ℕ → List ℕ → ℕ → Type 0
IsAtEdge history first others e =
    IsStart first others e ⊎ ((c : ℕ) × IsOnOneSide history first others c × IsParent history c e)

-- p is reached, and its rank is at least that of some commit at the edge
abbrev pub IsAboveEdge : List Node → Ranking → ℕ → List ℕ → ℕ → Type 0
IsAboveEdge history ranking first others p =
    IsReached history first others p
    × ((e : ℕ) × IsAtEdge history first others e × (ranking.rank e ≤ ranking.rank p))

-- p has to be visited: it is on one side alone, or a merge base, or reached and at the cap
abbrev pub HasToBeVisited : List Node → Ranking → ℕ → List ℕ → ℕ → Type 0
HasToBeVisited history ranking first others p =
    IsOnOneSide history first others p
    ⊎ (IsMergeBase history first others p
    ⊎ (IsReached history first others p × (ranking.cap ≤ ranking.rank p)))

-- How many commits a search for merge bases visits that orders them by these ranks.
pub record AreVisitsBy (history : List Node) (ranking : Ranking) (first : ℕ) (others : List ℕ) (visits : ℕ) : Type 0 where
  -- no more than are reached, with the common ancestors once more, and a third time those below another one
  pub most : (reached common below : ℕ) × AtLeast reached (IsReached history first others)
      × AtLeast common (IsCommonAncestor history first others) × AtLeast below (IsBelowCommon history first others)
      × (visits ≤ reached + common + below)
  -- no fewer than have to be visited
  pub least : AtMost visits (HasToBeVisited history ranking first others)
  -- below the cap each is visited once at most, and only those that are reached at or above the edge
  pub below_cap : AreBelowCap ranking first others → AtLeast visits (IsAboveEdge history ranking first others)

-- how many it visits that orders them by their generation numbers
abbrev pub AreVisits : List Node → ℕ → List ℕ → ℕ → Type 0
AreVisits history first others visits = AreVisitsBy history (by_generation history) first others visits
