-- For private contracts: what is answered of positions by a search over files of which parts are read.
use Rattle.std.specs.Prelude.{ℕ, ◌*◌, ◌<◌, ◌≤◌, List, All, IfSome, IfNone, Option, Vec}
use Rattle.std.specs.Global.{Global}
use Rattle.graph_walks.specs.Walks.{CountWalks, IsWalkBetween, Reaches}
use Rattle.graph_format.specs.Layer.{Layer}
use Rattle.graph_format.specs.StoredHistory.{history_of}
use Rattle.graph_format.specs.declared.Position.{Position}
use Rattle.gix_commitgraph.specs.Graph.{total}
use Rattle.commit_search.specs.WalkAnswer.{IsShortestWalk}
use Rattle.commit_search.specs.Positions.{numbers_of}
use Rattle.graph_bases.specs.Bases.{IsCommonAncestor}
use Rattle.graph_bases.specs.declared.bases.Comparison.{Comparison}
use Rattle.graph_history.specs.GraphComparison.{IsComparisonInOrder}
use Rattle.graph_unchecked.specs.Unchecked.{HasNoWrongDate}

-- A walk from the first commit to the second.
pub record IsStepsUnchecked (layers : List Layer) (first second : ℕ) (answer : Option (Vec Position Global)) : Type 0 where
  pub there : IfSome answer (λ walk. IsWalkBetween (history_of layers) first second (numbers_of walk.items))
  pub shortest : CountWalks (history_of layers)
      → IfSome answer (λ walk. IsShortestWalk (history_of layers) first second (numbers_of walk.items))
  pub none : CountWalks (history_of layers) → IfNone answer (¬ Reaches (history_of layers) first second)

-- What the first commit and the others have in common.
pub record AreBasesUnchecked (layers : List Layer) (first : ℕ) (others : List ℕ) (answer : Comparison) : Type 0 where
  pub within : All (λ base. base.0 < total layers) answer.bases.positions.items
  pub common : All (λ base. IsCommonAncestor (history_of layers) first others base.0) answer.bases.positions.items
  pub visits : answer.bases.visits ≤ 3 * total layers
  pub exact : CountWalks (history_of layers) → HasNoWrongDate layers → IsComparisonInOrder layers first others answer
