-- when a layer is right by itself
use Rattle.std.specs.Prelude.{◌≡◌, ℕ, List, All, None}
use Rattle.gix_hash_core.specs.Digest.{digest_of}
use Rattle.graph_format.specs.Layer.{Layer}
use Rattle.graph_format.specs.Order.{AreAscending, IsExactFan}
use Rattle.graph_format.specs.NameRule.{KeepsNameRule}
use Rattle.graph_format.specs.Parents.{parents_of}

-- an id with no byte but zero is that of no object
abbrev pub IsNull : List ℕ → Type 0
IsNull id = All (λ byte. byte ≡ 0) id

-- The layer is right by itself.
pub record IsRightLayer (layer : Layer) : Type 0 where
  -- "TRAILER"
  pub checksum : layer.checksum ≡ digest_of layer.kind layer.body
  pub name : KeepsNameRule layer.path layer.checksum
  -- "OID Lookup"
  pub ascending : AreAscending layer.ids
  pub ids : All (λ id. ¬ IsNull id) layer.ids
  -- "Commit Data"
  pub trees : All (λ r. ¬ IsNull r.tree) layer.records
  -- "OID Fanout"
  pub fan : IsExactFan layer.fan layer.ids

-- the parents of each commit of a layer can be decoded
abbrev pub AreParentsDecoded : Layer → Type 0
AreParentsDecoded layer = All (λ r. (parents_of r layer.edges).fault ≡ None) layer.records

-- The layer is right by itself, and the parents of its commits can be decoded.
pub record IsSoundLayer (layer : Layer) : Type 0 where
  pub right : IsRightLayer layer
  pub decoded : AreParentsDecoded layer
