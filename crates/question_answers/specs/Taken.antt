-- The line of a graph that is opened for questions, and the one that ends their answers.
use Rattle.std.specs.Prelude.{ℕ, List, [], Option, Some, None, Result, Ok, Err, codes, decimal}
use Rattle.graph_folder.specs.declared.folder.ReadError.{ReadError}
use Rattle.graph_format.specs.Layer.{Layer}
use Rattle.graph_layer.specs.declared.opening.error.OpenError.{OpenError}
use Rattle.gix_commitgraph.specs.Graph.{total}
use Rattle.gix_commitgraph.specs.Sound.{Sound}
use Rattle.graph_commands.specs.RefusalLines.{refusal_text}
use Rattle.graph_commands.specs.Text.{◌⧺◌, newline}
use Rattle.graph_commands.specs.declared.refusal.Refusal.{Refusal}
use Rattle.graph_commands.specs.declared.refusal.Refusal.TheVariants.{Read}
use Rattle.history_commands.specs.Check.{MayRefuseToStart}

-- What an opener may answer in a call that took the count of the device's failures from one number to another.
abbrev pub Opener : Type 1
Opener = ℕ → ℕ → Result (List Layer) OpenError → Type 0

-- what may come of opening a path and checking its graph, as `verify` does: a right graph, or a refusal
abbrev pub MayTake : (Result (List Layer) OpenError → Type 0) → Result (List Layer) Refusal → Type 0
MayTake MayOpen (Ok layers) = MayOpen (Ok layers) × Sound layers
MayTake MayOpen (Err refusal) = MayRefuseToStart MayOpen refusal

-- how many commits a graph has, or why it is refused
abbrev pub opened_line : Result ℕ Refusal → List ℕ
opened_line (Ok commits) = codes "ok commits " ⧺ decimal commits ⧺ newline
opened_line (Err refusal) = refusal_text refusal ⧺ newline

-- the line of what came of opening a path
abbrev pub taken_line : Result (List Layer) Refusal → List ℕ
taken_line (Ok layers) = opened_line (Ok (total layers))
taken_line (Err refusal) = opened_line (Err refusal)

-- why the answers ended, if a read failed
abbrev pub end_text : Option ReadError → List ℕ
end_text (Some error) = refusal_text (Read error) ⧺ newline
end_text None = []

abbrev pub end_status : Option ReadError → ℕ
end_status (Some error) = 1
end_status None = 0
