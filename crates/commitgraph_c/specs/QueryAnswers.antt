-- what the queries answer
use Rattle.std.specs.Prelude.{◌≡◌, ℕ, List, Bool, [], Option, IsSomeAnd, length}
use Rattle.std.specs.Prelude.{◌-◌, ◌^◌, min, option_map, true, unwrap_or}
use Rattle.graph_format.specs.Parents.{DecodedParents, parents_of}
use Rattle.graph_format.specs.Layer.{Layer, record_at}
use Rattle.graph_format.specs.StoredHistory.{history_of}
use Rattle.commit_search.specs.WalkAnswer.{IsAnswer}
use Rattle.commit_search.specs.Positions.{numbers_of}
use Rattle.commit_search.specs.declared.Reached.{Reached}
use Rattle.graph_bases.specs.declared.bases.Comparison.{Comparison}
use Rattle.c_opening.specs.Codes.{parent_code}
use Rattle.c_opening.specs.Answers.{written}
use Rattle.commitgraph_c.specs.declared.bases.CgBases.{CgBases}
use Rattle.commitgraph_c.specs.declared.parents.CgParents.{CgParents}
use Rattle.commitgraph_c.specs.declared.query.CgReached.{CgReached}

-- A graph that was checked is open, and has a property.
abbrev pub IsChecked : Option (List Layer × Bool) → (List Layer → Type 0) → Type 0
IsChecked held P = IsSomeAnd held (λ h. (h.1 ≡ true) × P h.0)

-- What is told of an answer to a query for a walk: how many commits were visited, and how many the walk has, 0 where there is
-- none; and its positions are written.
pub record TellsWalk (reached : Reached) (told : CgReached) (old new : List ℕ) : Type 0 where
  pub visits : told.visits ≡ reached.visits
  pub length_of : told.length ≡ unwrap_or (option_map (λ walk. length walk.items) reached.walk) 0
  pub room : new ≡ written (unwrap_or (option_map (λ walk. numbers_of walk.items) reached.walk) []) old

-- An answer to a query for a walk from a commit of a graph to another is told.
pub record TellsAnswer (layers : List Layer) (from to : ℕ) (told : CgReached) (old new : List ℕ) : Type 0 where
  pub reached : Reached
  pub answer : IsAnswer (history_of layers) from to reached
  pub tells : TellsWalk reached told old new

-- the parents of the commit at this position of a layer
abbrev pub parents_in : Layer × ℕ → DecodedParents
parents_in commit = parents_of (record_at commit.0 commit.1) commit.0.edges

-- What is told of the parents of a commit: how many could be decoded, or the greatest number of 64 bits where there are more,
-- and the number of the fault after them, 0 where there is none; and their positions are written.
pub record TellsParents (parents : DecodedParents) (told : CgParents) (old new : List ℕ) : Type 0 where
  pub count_of : told.count ≡ min (length parents.positions) (2 ^ 64 - 1)
  pub code_of : told.code ≡ unwrap_or (option_map parent_code parents.fault) 0
  pub room : new ≡ written (numbers_of parents.positions) old

-- What is told of a comparison: all that it says; and the positions of the merge bases are written.
pub record TellsComparison (comparison : Comparison) (told : CgBases) (old new : List ℕ) : Type 0 where
  pub ahead : told.ahead ≡ comparison.divergence.ahead
  pub behind : told.behind ≡ comparison.divergence.behind
  pub visits : told.visits ≡ comparison.bases.visits
  pub length_of : told.length ≡ length comparison.bases.positions.items
  pub room : new ≡ written (numbers_of comparison.bases.positions.items) old

-- A comparison of a commit of a graph and some others, as one is said to be, is told: their merge bases, and how far they have
-- come apart.
pub record TellsBases (Compares : Comparison → Type 0) (told : CgBases) (old new : List ℕ) : Type 0 where
  pub comparison : Comparison
  pub exact : Compares comparison
  pub tells : TellsComparison comparison told old new

-- No merge base is told, and no number.
pub record TellsNoBases (told : CgBases) : Type 0 where
  pub ahead : told.ahead ≡ 0
  pub behind : told.behind ≡ 0
  pub visits : told.visits ≡ 0
  pub length_of : told.length ≡ 0
