-- what is told of many at a time
use Rattle.std.specs.Prelude.{◌≡◌, ◌↔◌, ◌<◌, ◌≤◌, ◌⊎◌, ℕ, List, Some, IsSomeAnd, slice_get}
use Rattle.graph_walks.specs.Walks.{Reaches}
use Rattle.graph_format.specs.Layer.{Layer}
use Rattle.graph_format.specs.StoredHistory.{history_of}
use Rattle.gix_commitgraph.specs.Graph.{total}
use Rattle.commitgraph_c.specs.declared.pairs.CgPair.{CgPair}

-- The first of those that are asked about are answered, so many, each in its place of the room, and what follows there is as it
-- was.
pub record AnswersFirst {X : Type 0} (Answers : X → ℕ → Type 0) (asked : List X) (answered : ℕ) (old new : List ℕ) : Type 0 where
  pub each : (i : ℕ) → i < answered → (x : X) → slice_get asked i ≡ Some x → IsSomeAnd (slice_get new i) (Answers x)
  pub rest : (i : ℕ) → answered ≤ i → slice_get new i ≡ slice_get old i

-- both positions of a pair are those of commits of a graph
abbrev pub IsPair : List Layer → CgPair → Type 0
IsPair layers pair = (pair.ancestor < total layers) × (pair.descendant < total layers)

-- a position of a pair is that of none
abbrev pub IsNoPair : List Layer → CgPair → Type 0
IsNoPair layers pair = (total layers ≤ pair.ancestor) ⊎ (total layers ≤ pair.descendant)

-- Both are commits of a graph, and the answer is 1 where the first is an ancestor of the second, and else 0.
pub record AnswersPair (layers : List Layer) (pair : CgPair) (answer : ℕ) : Type 0 where
  pub ancestor : pair.ancestor < total layers
  pub descendant : pair.descendant < total layers
  pub leads : (answer ≡ 1) ↔ Reaches (history_of layers) pair.descendant pair.ancestor
  pub bit : answer ≤ 1
