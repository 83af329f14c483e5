-- what is told of the layers of a graph
use Rattle.std.specs.Prelude.{ℕ, List, Option, IsSomeAnd, length, slice_get}
use Rattle.gix_hash_core.specs.declared.kind.Kind.{Kind}
use Rattle.gix_hash_core.specs.declared.kind.Kind.TheVariants.{Sha1, Sha256}
use Rattle.graph_format.specs.Layer.{Layer}
use Rattle.gix_commitgraph.specs.Graph.{start}
use Rattle.commitgraph_c.specs.declared.layers.CgLayer.{CgLayer}

-- the layer of this number has a property
abbrev pub HasLayer : Option (List Layer) → ℕ → (Layer → Type 0) → Type 0
HasLayer layers number P = IsSomeAnd layers (λ l. IsSomeAnd (slice_get l number) P)

-- the number that stands for a kind of hash in the header of a file ("HEADER", byte 5)
abbrev pub hash_number : Kind → ℕ
hash_number Sha1 = 1
hash_number Sha256 = 2

-- what is told of the layer of this number
abbrev pub told_layer : List Layer → ℕ → Layer → CgLayer
told_layer layers number layer =
    record {
      first = start layers number;
      num_commits = length layer.ids;
      bases = length layer.bases;
      hash = hash_number layer.kind;
    }
