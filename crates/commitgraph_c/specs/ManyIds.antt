-- what is told of ids and positions, many at a time
use Rattle.std.specs.Prelude.{◌≡◌, ℕ, List, Some, map, slice_get}
use Rattle.std.specs.List.{flat_map}
use Rattle.graph_format.specs.Layer.{Layer}
use Rattle.gix_commitgraph.specs.Graph.{graph_ids}
use Rattle.c_opening.specs.Answers.{written}

-- The ids at these positions are written, one after another.
pub record TellsIds (layers : List Layer) (positions old new : List ℕ) : Type 0 where
  pub ids : List (List ℕ)
  pub held : map (slice_get (graph_ids layers)) positions ≡ map (λ id. Some id) ids
  pub room : new ≡ written (flat_map (λ id. id) ids) old
