-- the answers of `show`, their texts and their exit statuses
use Rattle.std.specs.Prelude.{ℕ, List, length, Option, Some, None, Result, Ok, Err, codes, decimal}
use Rattle.std.specs.List.{flat_map, enumerate_from}
use Rattle.graph_walks.specs.Counts.{greatest}
use Rattle.graph_walks.specs.History.{generations}
use Rattle.graph_format.specs.Layer.{Layer}
use Rattle.graph_format.specs.StoredHistory.{history_of}
use Rattle.graph_layer.specs.declared.opening.error.OpenError.{OpenError}
use Rattle.gix_commitgraph.specs.Graph.{total}
use Rattle.gix_commitgraph.specs.Sound.{Sound}
use Rattle.graph_ancestors.specs.RefusedGraph.{MayRefuseGraph}
use Rattle.graph_commands.specs.RefusalLines.{refusal_text}
use Rattle.graph_commands.specs.Text.{◌⧺◌, newline}
use Rattle.graph_commands.specs.declared.refusal.Refusal.TheVariants.{Id, Read, File, Open, Verify, Walk}
use Rattle.history_commands.specs.Check.{AreChunksFound, MayRefuseChunks, check_refusal_text}
use Rattle.history_commands.specs.declared.check.CheckRefusal.{CheckRefusal}
use Rattle.history_commands.specs.declared.check.CheckRefusal.TheVariants.{Graph}
use Rattle.history_commands.specs.declared.check.ChunksFound.{ChunksFound}
use Rattle.show_commands.specs.LayerLines.{layer_lines}

-- A graph is right, and nothing refuses its further chunks.
pub record IsRightThroughout (layers : List Layer) : Type 0 where
  pub sound : Sound layers
  pub found : ChunksFound
  pub chunks : AreChunksFound layers found

-- why a graph may be found wrong, or not be checked for want of memory: itself; and else its further chunks, as `check` says
abbrev pub MayFindWrong : List Layer → CheckRefusal → Type 0
MayFindWrong layers (Graph (Verify error)) = MayRefuseGraph layers error
MayFindWrong layers (Graph (Id error)) = ⊥
MayFindWrong layers (Graph (Read error)) = ⊥
MayFindWrong layers (Graph (File error)) = ⊥
MayFindWrong layers (Graph (Open error)) = ⊥
MayFindWrong layers (Graph Walk) = ⊥
MayFindWrong layers refusal = Sound layers × MayRefuseChunks layers refusal

-- what is found of a graph: nothing wrong, or why it is refused
abbrev pub IsCheckVerdict : List Layer → Option CheckRefusal → Type 0
IsCheckVerdict layers None = IsRightThroughout layers
IsCheckVerdict layers (Some refusal) = MayFindWrong layers refusal

-- what `show` may tell: the layers of a graph that the opener may answer, and what is found of it; or why none is opened
abbrev pub MayShow : (Result (List Layer) OpenError → Type 0) → Result (List Layer × Option CheckRefusal) OpenError → Type 0
MayShow MayOpen (Ok (layers, verdict)) = MayOpen (Ok layers) × IsCheckVerdict layers verdict
MayShow MayOpen (Err error) = MayOpen (Err error)

-- the line of the whole graph: how many layers and commits it has, and its greatest generation number
abbrev pub graph_line : List Layer → List ℕ
graph_line layers =
    codes "graph layers " ⧺ decimal (length layers) ⧺ codes " commits " ⧺ decimal (total layers)
    ⧺ codes " generation " ⧺ decimal (greatest (generations (history_of layers))) ⧺ newline

-- the lines of all layers, and that of the whole
abbrev pub graph_text : List Layer → List ℕ
graph_text layers = flat_map (λ row. layer_lines row.0 row.1) (enumerate_from 0 layers) ⧺ graph_line layers

-- the line of what is found of it
abbrev pub verdict_line : Option CheckRefusal → List ℕ
verdict_line None = codes "right" ⧺ newline
verdict_line (Some refusal) = check_refusal_text refusal ⧺ newline

-- 0 where nothing is wrong with it, and else 1
abbrev pub verdict_status : Option CheckRefusal → ℕ
verdict_status None = 0
verdict_status (Some refusal) = 1

-- the lines of `show`
abbrev pub show_text : Result (List Layer × Option CheckRefusal) OpenError → List ℕ
show_text (Ok (layers, verdict)) = graph_text layers ⧺ verdict_line verdict
show_text (Err error) = refusal_text (Open error) ⧺ newline

-- 0 for a graph that is right, and else 1
abbrev pub show_status : Result (List Layer × Option CheckRefusal) OpenError → ℕ
show_status (Ok (layers, verdict)) = verdict_status verdict
show_status (Err error) = 1
