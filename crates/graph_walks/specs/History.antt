-- A history: commits by position, each with its generation number and the positions of its parents, first parent first ("Commit
-- Data" of Git's commit-graph format).
use Rattle.std.specs.Prelude.{ℕ, ◌<◌, List, [], map, length, slice_get, Contains}
use Rattle.std.specs.Option.{option_map_or}

pub record Node : Type 0 where
  pub generation : ℕ
  pub parents : List ℕ

-- the generation number of the commit at a position
abbrev pub generation_at : List Node → ℕ → ℕ
generation_at history p = option_map_or (λ node. node.generation) (slice_get history p) 0

-- the parents of the commit at a position
abbrev pub parents_at : List Node → ℕ → List ℕ
parents_at history p = option_map_or (λ node. node.parents) (slice_get history p) []

-- the generation numbers, in the order of the commits
abbrev pub generations : List Node → List ℕ
generations history = map (λ node. node.generation) history

-- how many parents each commit has, repeats counted
abbrev pub parent_numbers : List Node → List ℕ
parent_numbers history = map (λ node. length node.parents) history

-- q is a parent of p, and both are commits of the history
abbrev pub IsParent : List Node → ℕ → ℕ → Type 0
IsParent history p q = (p < length history) × (q < length history) × Contains (parents_at history p) q
