-- what a query for a walk along parents, from one commit of a history to another, answers; where generation numbers are too low
-- the search stops, as Git's commit-graph design says
use Rattle.std.specs.Prelude.{◌≡◌, ◌≢◌, ◌⊎◌, ℕ, ◌+◌, ◌<◌, ◌≤◌, List, length, IfSome, IfNone}
use Rattle.graph_walks.specs.declared.TheConstants.{GENERATION_NUMBER_MAX}
use Rattle.graph_walks.specs.History.{Node, generation_at}
use Rattle.graph_walks.specs.Walks.{IsWalkBetween, Reaches}
use Rattle.commit_search.specs.Positions.{numbers_of}
use Rattle.commit_search.specs.Cardinality.{AtLeast, AtMost}
use Rattle.commit_search.specs.Ranks.{Ranking}
use Rattle.commit_search.specs.declared.Reached.{Reached}

-- A walk from p to q, and no walk from p to q has fewer commits.
pub record IsShortestWalk (history : List Node) (p q : ℕ) (walk : List ℕ) : Type 0 where
  pub between : IsWalkBetween history p q walk
  pub least : (other : List ℕ) → IsWalkBetween history p q other → length walk ≤ length other

-- p is a commit that from reaches, and its generation number is at least that of to
abbrev pub IsAtOrAbove : List Node → ℕ → ℕ → ℕ → Type 0
IsAtOrAbove history from to p = Reaches history from p × (generation_at history to ≤ generation_at history p)

-- p is a commit that from reaches, and its generation number is greater than that of to
abbrev pub IsAbove : List Node → ℕ → ℕ → ℕ → Type 0
IsAbove history from to p = Reaches history from p × (generation_at history to < generation_at history p)

-- The generation numbers allow a walk from one commit to another: they fall along walks, but stay where they are at the cap.
abbrev pub MayLead : List Node → ℕ → ℕ → Type 0
MayLead history from to =
    (generation_at history to < generation_at history from) ⊎ (GENERATION_NUMBER_MAX ≤ generation_at history from)

-- some walk of at most n steps leads from one commit to another
abbrev pub LeadsWithin : List Node → ℕ → ℕ → ℕ → Type 0
LeadsWithin history from to n = (walk : List ℕ) × IsWalkBetween history from to walk × (length walk ≤ n + 1)

-- The answer to a query for a walk.
pub record IsAnswer (history : List Node) (from to : ℕ) (reached : Reached) : Type 0 where
  -- a walk that is answered is a shortest one; where none is answered, none is there
  pub walk : IfSome reached.walk (λ walk. IsShortestWalk history from to (numbers_of walk.items))
  pub none : IfNone reached.walk (¬ Reaches history from to)
  -- no more commits are visited than there are at or above the generation number of to
  pub visits : AtLeast reached.visits (IsAtOrAbove history from to)
  -- no fewer are visited than the walk has, and where there is no walk, than there are above that number
  pub walk_visits : IfSome reached.walk (λ walk. length walk.items ≤ reached.visits)
  pub none_visits : IfNone reached.walk (AtMost reached.visits (IsAbove history from to))
  -- none is visited where the generation numbers allow no walk from one commit to another
  pub no_visits : from ≢ to → generation_at history from ≤ generation_at history to
      → generation_at history from < GENERATION_NUMBER_MAX → reached.visits ≡ 0

-- What holds of an answer whatever the generation numbers are: a walk that is answered is one, and no commit is visited twice.
pub record IsAnyAnswer (history : List Node) (from to : ℕ) (reached : Reached) : Type 0 where
  pub walk : IfSome reached.walk (λ walk. IsWalkBetween history from to (numbers_of walk.items))
  pub visits : AtLeast reached.visits (IsAtOrAbove history from to)

-- What a query answers that also goes by other ranks, as corrected dates are: it leaves out a commit where either number is too
-- low.

-- the ranks allow a walk from one commit to another: they fall along walks, but may stay where they are at the cap
abbrev pub RanksMayLead : Ranking → ℕ → ℕ → Type 0
RanksMayLead ranking from to = (ranking.rank to < ranking.rank from) ⊎ (ranking.cap ≤ ranking.rank from)

-- both numbers do
abbrev pub BothMayLead : List Node → Ranking → ℕ → ℕ → Type 0
BothMayLead history ranking from to = MayLead history from to × RanksMayLead ranking from to

-- p is a commit that from reaches, and both of its numbers are at least those of to
abbrev pub IsAtOrAboveBoth : List Node → Ranking → ℕ → ℕ → ℕ → Type 0
IsAtOrAboveBoth history ranking from to p = IsAtOrAbove history from to p × (ranking.rank to ≤ ranking.rank p)

-- p is a commit that from reaches, its generation number is greater than that of to, and its rank allows a walk to it
abbrev pub IsAboveBoth : List Node → Ranking → ℕ → ℕ → ℕ → Type 0
IsAboveBoth history ranking from to p = IsAbove history from to p × RanksMayLead ranking p to

-- The answer to a query for a walk that goes by both numbers.
pub record IsAnswerBy (history : List Node) (ranking : Ranking) (from to : ℕ) (reached : Reached) : Type 0 where
  pub walk : IfSome reached.walk (λ walk. IsShortestWalk history from to (numbers_of walk.items))
  pub none : IfNone reached.walk (¬ Reaches history from to)
  -- no more commits are visited than there are at or above both numbers of to
  pub visits : AtLeast reached.visits (IsAtOrAboveBoth history ranking from to)
  -- no fewer than the walk has, and where there is no walk, than there are above both
  pub walk_visits : IfSome reached.walk (λ walk. length walk.items ≤ reached.visits)
  pub none_visits : IfNone reached.walk (AtMost reached.visits (IsAboveBoth history ranking from to))
  -- none is visited where one of the numbers allows no walk from one commit to another
  pub no_visits : from ≢ to → (¬ BothMayLead history ranking from to) → reached.visits ≡ 0
