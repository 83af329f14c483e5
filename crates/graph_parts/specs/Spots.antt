-- Where a position of a graph lies.
use Rattle.std.specs.Prelude.{◌≡◌, ℕ, ◌+◌, ◌<◌, List, slice_get, take, Some}
use Rattle.graph_find.specs.declared.chain.ChainLayer.{ChainLayer}
use Rattle.graph_parts.specs.PartFiles.{commits_in, commits_in_all}
use Rattle.graph_parts.specs.declared.parts.Spot.{Spot}

-- The position is one of a file, after the commits of the files before it.
pub record IsSpotOf (files : List ChainLayer) (pos : ℕ) (spot : Spot) : Type 0 where
  pub file : ChainLayer
  pub there : slice_get files spot.layer ≡ Some file
  pub counted : pos ≡ commits_in_all (take spot.layer files) + spot.pos
  pub within : spot.pos < commits_in file

-- the position lies in the file of this number
abbrev pub LiesInFile : List ChainLayer → ℕ → ℕ → Type 0
LiesInFile files pos l = (left : ℕ) × IsSpotOf files pos (record { layer = l; pos = left })
