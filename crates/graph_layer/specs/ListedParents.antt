-- what is kept of the parents that each suffix of an extra edge list names
use Rattle.std.specs.Prelude.{◌≡◌, ℕ, List, [], Option, None, SomeIff, length, option_map, unwrap_or, slice_index_or}
use Rattle.graph_format.specs.Format.{words}
use Rattle.graph_format.specs.Parents.{DecodedParents, second_parents}
use Rattle.graph_format.specs.declared.parents.ParentEdge.TheVariants.{ExtraEdgeIndex}

module _ {T : Type 0} where
  -- One entry for each word of a layer's extra edge list ("Extra Edge List"), and none where the layer has no list. It tells of
  -- the parents that are listed from that word on.
  pub record AreListed (Tells : DecodedParents → Option T → Type 0) (edges : Option (List ℕ)) (entries : List (Option T))
      : Type 0 where
    pub one_each : length entries ≡ length (unwrap_or (option_map words edges) [])
    pub each : (index : ℕ) → Tells (second_parents (ExtraEdgeIndex index) edges) (slice_index_or entries index None)

-- The number of these parents: `Some` exactly where they are decoded without a fault.
abbrev pub IsCount : DecodedParents → Option ℕ → Type 0
IsCount parents count = SomeIff count (parents.fault ≡ None) (length parents.positions)
