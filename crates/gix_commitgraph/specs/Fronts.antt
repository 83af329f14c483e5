-- the fronts of ids, by which most ids are told apart
use Rattle.std.specs.Prelude.{List, map, nat_eq}
use Rattle.std.specs.List.{IsDistinct}
use Rattle.gix_hash_core.specs.Oid.{front_of}
use Rattle.graph_format.specs.Layer.{Layer}
use Rattle.gix_commitgraph.specs.Graph.{graph_ids}

-- no two commits have one front
abbrev pub HaveDistinctFronts : List Layer → Type 0
HaveDistinctFronts layers = IsDistinct nat_eq (map front_of (graph_ids layers))
