-- facts that have one proof at most
use Rattle.std.specs.Prelude.{ℕ, List, Option, Some, None}
use Rattle.std.proofs.Props.{props}
use Rattle.graph_format.specs.ChunkRanges.{IsChunkRange}
use Rattle.graph_format.specs.declared.chunks.ChunkRange.{ChunkRange}
use Rattle.graph_parts.specs.Shown.{AreGraphParts}
use Rattle.graph_parts.specs.declared.parts.GraphParts.{GraphParts}

pub chunk_range_prop : (bytes id : List ℕ) (place : Option ChunkRange) → IsProp (IsChunkRange bytes id place)
chunk_range_prop bytes id None = Prim.hlevel props
chunk_range_prop bytes id (Some place) = Prim.hlevel props

pub graph_parts_prop : (parts : GraphParts) → IsProp (AreGraphParts parts)
graph_parts_prop parts = Prim.hlevel (props, chunk_range_prop)
