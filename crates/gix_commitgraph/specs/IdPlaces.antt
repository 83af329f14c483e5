-- ids with their positions, in the order of the positions and sorted
use Rattle.std.specs.Prelude.{◌≡◌, ◌+◌, ◌≤◌, ℕ, List, Some, length, slice_get}
use Rattle.gix_hash_core.specs.Oid.{oid_bytes}
use Rattle.graph_format.specs.Layer.{Layer}
use Rattle.gix_commitgraph.specs.Graph.{graph_ids}
use Rattle.gix_commitgraph.specs.declared.verify.distinct.IdPlace.{IdPlace}

-- the ids of the first commits of a graph, each with its position
abbrev pub AreIdPlaces : List Layer → List IdPlace → Type 0
AreIdPlaces layers places =
    (k : ℕ) (place : IdPlace) → slice_get places k ≡ Some place
    → (place.pos.0 ≡ k) × (slice_get (graph_ids layers) k ≡ Some (oid_bytes place.id))

-- A number is at most that of the places, and at most the position of each whose id is that of the place before it.
pub record ComesBeforeRepeats (places : List IdPlace) (first : ℕ) : Type 0 where
  pub within : first ≤ length places
  pub before : (k : ℕ) (place next : IdPlace) → slice_get places k ≡ Some place → slice_get places (k + 1) ≡ Some next
      → oid_bytes next.id ≡ oid_bytes place.id
      → first ≤ next.pos.0
