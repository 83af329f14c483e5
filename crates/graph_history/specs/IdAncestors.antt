-- Ancestors, walks and merge bases by the ids of the commits, where each commit is known by its id.
use Rattle.std.specs.Prelude.{◌≡◌, ℕ, ◌-◌, ◌≤◌, List, Contains, length, slice_get, Some}
use Rattle.graph_format.specs.Layer.{Layer}
use Rattle.gix_commitgraph.specs.IdWalks.{IsIdWalk}

-- A walk by ids that begins with one id and ends with another.
pub record IsIdWalkBetween (layers : List Layer) (from to : List ℕ) (ids : List (List ℕ)) : Type 0 where
  pub is_walk : IsIdWalk layers ids
  pub first : slice_get ids 0 ≡ Some from
  pub last : slice_get ids (length ids - 1) ≡ Some to

-- A walk by ids from one id to another, and no such walk has fewer commits.
pub record IsShortestIdWalk (layers : List Layer) (from to : List ℕ) (ids : List (List ℕ)) : Type 0 where
  pub between : IsIdWalkBetween layers from to ids
  pub least : (other : List (List ℕ)) → IsIdWalkBetween layers from to other → length ids ≤ length other

-- some walk by ids leads from one id to another; each id of a commit leads to itself
abbrev pub LeadsTo : List Layer → List ℕ → List ℕ → Type 0
LeadsTo layers from to = (ids : List (List ℕ)) × IsIdWalkBetween layers from to ids

-- some walk by at least two ids leads from one to another
abbrev pub LeadsDownTo : List Layer → List ℕ → List ℕ → Type 0
LeadsDownTo layers from to = (ids : List (List ℕ)) × IsIdWalkBetween layers from to ids × (2 ≤ length ids)

-- some of these ids leads to this one
abbrev pub SomeLeadsTo : List Layer → List (List ℕ) → List ℕ → Type 0
SomeLeadsTo layers others id = (other : List ℕ) × Contains others other × LeadsTo layers other id

-- the first id leads to this one, and some of the others does
abbrev pub IsSharedId : List Layer → List ℕ → List (List ℕ) → List ℕ → Type 0
IsSharedId layers first others id = LeadsTo layers first id × SomeLeadsTo layers others id

-- A merge base by ids: the id of a best common ancestor.
pub record IsMergeBaseId (layers : List Layer) (first : List ℕ) (others : List (List ℕ)) (id : List ℕ) : Type 0 where
  pub shared : IsSharedId layers first others id
  pub best : (lower : List ℕ) → IsSharedId layers first others lower → ¬ LeadsDownTo layers lower id
