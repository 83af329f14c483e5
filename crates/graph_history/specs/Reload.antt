-- which layers two graphs share, from the lowest on, and how many commits stand above them
use Rattle.std.specs.Prelude.{◌≡◌, ℕ, ◌≤◌, List, length, take, drop, slice_get, Some}
use Rattle.graph_format.specs.Layer.{Layer}
use Rattle.gix_commitgraph.specs.Graph.{total}

-- So many of the lowest layers are the same in both graphs: they have the same bytes and the same path. No more are: the next
-- layers of both are not the same, or have no commit.
pub record AreShared (old new : List Layer) (count : ℕ) : Type 0 where
  pub in_old : count ≤ length old
  pub in_new : count ≤ length new
  pub same : take count old ≡ take count new
  pub most : (layer : Layer) → slice_get old count ≡ Some layer → slice_get new count ≡ Some layer → length layer.ids ≡ 0

-- so many commits of the new graph stand above the layers that it shares with the old one
abbrev pub StandAboveShared : List Layer → List Layer → ℕ → Type 0
StandAboveShared old new commits = (count : ℕ) × AreShared old new count × (commits ≡ total (drop count new))
