-- Why a question has no answer: the errors that may come, and when.
use Rattle.std.specs.Prelude.{◌≡◌, ◌≢◌, ◌⊎◌, ℕ, List, [], ◌∷◌}
use Rattle.gix_hash_core.specs.Hexadecimal.{SpellsId, SpellsNone}
use Rattle.gix_commitgraph.specs.Layer.{Layer, IsLayer}
use Rattle.gix_commitgraph.specs.Opened.{MayRefuse}
use Rattle.gix_commitgraph.specs.FileError.{FileError}
use Rattle.gix_commitgraph.specs.OpenRefusals.{layer_refused}
use Rattle.gix_commitgraph.specs.OpenError.{OpenError}
use Rattle.gix_commitgraph.specs.OpenAlways.{IsErrorOfLayers, IsFromPath, IsPathError}
use Rattle.gix_commitgraph.specs.Sound.{Sound}
use Rattle.graph_ancestors.specs.RefusedGraph.{MayRefuseGraph}
use Rattle.graph_uses.specs.IdAnswers.{parent_ids_of}
use Rattle.graph_uses.specs.declared.error.QueryError.{QueryError}
use Rattle.graph_uses.specs.declared.error.QueryError.TheVariants.{Open, Check, Id, OutOfMemory}

-- of opening bytes: that they are no layer, as layer 0; or that their layer makes no graph. Memory is wanted for a layer alone.
abbrev pub MayRefuseBytes : List ℕ → OpenError → Type 0
MayRefuseBytes bytes error =
    ((x : FileError) × MayRefuse bytes x × (error ≡ layer_refused 0 x))
    ⊎ ((layer : Layer) × IsLayer bytes [] layer × IsErrorOfLayers (layer ∷ []) error)

-- of opening and checking the graph at a path: that none was opened, or why a graph from that path fails its check
abbrev pub MayRefusePath : List ℕ → QueryError → Type 0
MayRefusePath path (Open error) = IsPathError error
MayRefusePath path (Check error) = (layers : List Layer) × IsFromPath path layers × MayRefuseGraph layers error
MayRefusePath path (Id error) = ⊥
MayRefusePath path (OutOfMemory error) = ⊥

-- of asking the graph at a path for the parents of an id: those; and where a right graph comes from that path, that the text
-- spells no id, and want of memory if there are parents to tell
abbrev pub MayRefuseParents : List ℕ → List ℕ → QueryError → Type 0
MayRefuseParents path text (Id error) =
    (layers : List Layer) × IsFromPath path layers × Sound layers × SpellsNone text error
MayRefuseParents path text (OutOfMemory error) =
    (layers : List Layer) × (id : List ℕ)
    × IsFromPath path layers × Sound layers × SpellsId text id × (parent_ids_of layers id ≢ [])
MayRefuseParents path text error = MayRefusePath path error
