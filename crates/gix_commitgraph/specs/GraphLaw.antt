-- what the definitions of graphs mean
use Rattle.std.specs.Prelude.{◌≡◌, ◌≢◌, ℕ, ◌+◌, ◌-◌, ◌<◌, ◌≤◌, List, [], All, length, slice_get, Option, Some, MatchOption}
use Rattle.graph_format.specs.Layer.{Layer}
use Rattle.graph_format.specs.Order.{AreAscending, IsExactFan}
use Rattle.graph_format.specs.Lookup.{scan}
use Rattle.gix_commitgraph.specs.Graph.{graph_ids, graph_commits, total, start, stop, MakesGraph}
use Rattle.gix_commitgraph.specs.GraphRefusal.{kind_at, graph_refusal}
use Rattle.gix_commitgraph.specs.GraphLookup.{FoundIn}
use Rattle.graph_format.specs.declared.TheConstants.{MAX_COMMITS}
use Rattle.graph_format.specs.declared.error.GraphError.{GraphError}
use Rattle.graph_format.specs.declared.error.GraphError.TheVariants.{NoFiles, TooManyCommits, HashMismatch, OutOfMemory}

-- A position lies in this layer.
pub record LiesIn (layers : List Layer) (pos i : ℕ) (layer : Layer) : Type 0 where
  pub there : slice_get layers i ≡ Some layer
  pub from : start layers i ≤ pos
  pub below : pos < stop layers i

-- A position lies in one layer, and in no other.
pub record LiesInOne (layers : List Layer) (pos : ℕ) : Type 0 where
  pub index : ℕ
  pub layer : Layer
  pub lies : LiesIn layers pos index layer
  pub only : (i : ℕ) (other : Layer) → LiesIn layers pos i other → i ≡ index

-- The id and the commit at a position are those of its layer, at the position less the start of the layer.
pub record ComesFromLayer (layers : List Layer) (pos i : ℕ) (layer : Layer) : Type 0 where
  pub id : slice_get (graph_ids layers) pos ≡ slice_get layer.ids (pos - start layers i)
  pub commit : slice_get (graph_commits layers) pos ≡ Some (layer, pos - start layers i)

-- The ids and the commits are as many as the layers have together, and a layer stops after its own.
pub record AreCounted (layers : List Layer) : Type 0 where
  pub ids : length (graph_ids layers) ≡ total layers
  pub commits : length (graph_commits layers) ≡ total layers
  pub stops : (i : ℕ) (layer : Layer) → slice_get layers i ≡ Some layer → stop layers i ≡ start layers i + length layer.ids

-- the ids of a layer ascend under an exact fan
abbrev pub IsInOrder : Layer → Type 0
IsInOrder layer = AreAscending layer.ids × IsExactFan layer.fan layer.ids

-- where all layers are so, each answer to a lookup is that of a plain scan of all ids
abbrev pub AreScanned : List Layer → Type 0
AreScanned layers =
    All IsInOrder layers → (id : List ℕ) (answer : Option ℕ) → FoundIn layers id answer → answer ≡ scan (graph_ids layers) id

-- The kind of this layer differs from that of the layer before it, and no earlier one's does.
pub record IsMismatch (layers : List Layer) (layer : ℕ) : Type 0 where
  pub after_one : 0 < layer
  pub within : layer < length layers
  pub differs : kind_at layers layer ≢ kind_at layers (layer - 1)
  pub least : (i : ℕ) → 0 < i → i < layer → kind_at layers i ≡ kind_at layers (i - 1)

-- what each refusal says; out of memory is none of them
abbrev pub IsRefusal : List Layer → GraphError → Type 0
IsRefusal layers NoFiles = layers ≡ []
IsRefusal layers (TooManyCommits commits) = (commits ≡ total layers) × (MAX_COMMITS < total layers)
IsRefusal layers (HashMismatch layer) = (total layers ≤ MAX_COMMITS) × IsMismatch layers layer
IsRefusal layers OutOfMemory = ⊥

-- the refusal says what is wrong, and where there is none the layers make a graph
abbrev pub IsJudged : List Layer → Type 0
IsJudged layers = MatchOption (graph_refusal layers) (MakesGraph layers) (IsRefusal layers)
