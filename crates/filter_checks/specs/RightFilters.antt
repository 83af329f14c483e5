-- When the changed-path filters of a graph are right ("Bloom Filter Data" of Git's commit-graph format), by the trees of its
-- commits: no filter answers as absent what its commit touches.
use Rattle.std.specs.Prelude.{◌<◌, ℕ, List, length, slice_get, Option, option_map, IsSomeAnd}
use Rattle.std.specs.Option.{option_and_then}
use Rattle.graph_walks.specs.History.{parents_at}
use Rattle.graph_format.specs.Layer.{Layer, record_at}
use Rattle.graph_format.specs.StoredHistory.{history_of}
use Rattle.gix_commitgraph.specs.Graph.{graph_commits, total}
use Rattle.graph_chunks.specs.GraphFilters.{FiltersOfGraph, IsPossibleBy, IsAbsentBy}
use Rattle.tree_changes.specs.Stands.{World}
use Rattle.tree_changes.specs.Changes.{IsChangedText}
use Rattle.path_filters.specs.Touched.{IsTouched}

-- the id of the root tree of the commit at a position ("Commit Data")
abbrev pub root_tree_at : List Layer → ℕ → Option (List ℕ)
root_tree_at layers p = option_map (λ place. (record_at place.0 place.1).tree) (slice_get (graph_commits layers) p)

-- that of its first parent; none where it has no parent
abbrev pub parent_tree_at : List Layer → ℕ → Option (List ℕ)
parent_tree_at layers p = option_and_then (root_tree_at layers) (slice_get (parents_at (history_of layers) p) 0)

-- the filter of the commit at a position was computed
abbrev pub IsComputedAt : FiltersOfGraph → ℕ → Type 0
IsComputedAt all p = IsSomeAnd (slice_get all.filters p) (λ filter. 0 < length filter)

-- it answers the path as possible, or as absent
abbrev pub IsPossibleAt : FiltersOfGraph → ℕ → List ℕ → Type 0
IsPossibleAt all p path = IsSomeAnd (slice_get all.filters p) (λ filter. IsPossibleBy all.settings filter path)

abbrev pub IsAbsentAt : FiltersOfGraph → ℕ → List ℕ → Type 0
IsAbsentAt all p path = IsSomeAnd (slice_get all.filters p) (λ filter. IsAbsentBy all.settings filter path)

-- it answers each path as possible that is touched from one tree to another
abbrev pub HasAllTouched : World → Option (List ℕ) → Option (List ℕ) → FiltersOfGraph → ℕ → Type 0
HasAllTouched world old new all p = (path : List ℕ) → IsTouched (IsChangedText world old new) path → IsPossibleAt all p path

-- if it was computed, it answers each path as possible that its commit touches: from the first parent's tree to its own
abbrev pub IsRightAt : World → List Layer → FiltersOfGraph → ℕ → Type 0
IsRightAt world layers all p =
    IsComputedAt all p → HasAllTouched world (parent_tree_at layers p) (root_tree_at layers p) all p

-- so do the filters of all commits before a position
abbrev pub AreRightBelow : World → List Layer → FiltersOfGraph → ℕ → Type 0
AreRightBelow world layers all end = (p : ℕ) → p < end → IsRightAt world layers all p

-- so do all filters of a graph
abbrev pub AreRightFilters : World → List Layer → FiltersOfGraph → Type 0
AreRightFilters world layers all = AreRightBelow world layers all (total layers)
