-- What the openers answer for the contents of a tree. ("Commit-Graphs Chains" of Git's commit-graph design.)
use Rattle.std.specs.Prelude.{◌≡◌, ℕ, ◌<◌, ◌≤◌, ◌-◌, ◌^◌, List, [], ◌∷◌, Option, Some, None, map, if◌then◌else◌, IsErrOf}
use Rattle.std.specs.List.{enumerate_from}
use Rattle.std.specs.Result.{result_or}
use Rattle.std.specs.Str.{is_utf8}
use Rattle.std.specs.Str.Lines.{lines}
use Rattle.std.specs.declared.result.Result.{Result}
use Rattle.std.specs.declared.result.Result.TheVariants.{Ok, Err}
use Rattle.graph_folder.specs.Tree.{Tree, is_file, is_folder}
use Rattle.gix_commitgraph.specs.GraphRefusal.{graph_refusal}
use Rattle.graph_format.specs.Layer.{Layer}
use Rattle.graph_layer.specs.LayerOpening.{bytes_at, layer_at}
use Rattle.graph_layer.specs.OpenAnswer.{and_then, all_values, IsAsExpected, failures_after_opening}
use Rattle.graph_layer.specs.OpenRefusals.{graph_refused}
use Rattle.gix_commitgraph.specs.Paths.{chain_path, info_chain, info_file, layer_path}
use Rattle.gix_commitgraph.specs.declared.opening.Standing.{Standing}
use Rattle.gix_commitgraph.specs.declared.opening.Standing.TheVariants.{File, ChainDir, InfoDir, Nothing}
use Rattle.graph_format.specs.declared.error.GraphError.{GraphError}
use Rattle.graph_layer.specs.declared.opening.error.OpenError.{OpenError}
use Rattle.graph_layer.specs.declared.opening.error.OpenError.TheVariants.{NothingFound, Device, ChainNotText, OutOfMemory}

-- the refusal of layers as a graph, else the layers
abbrev pub graph_unless_refused : Option GraphError → List Layer → Result (List Layer) OpenError
graph_unless_refused None layers = Ok layers
graph_unless_refused (Some error) layers = Err (graph_refused error)

abbrev pub graph_of_layers : List Layer → Result (List Layer) OpenError
graph_of_layers layers = graph_unless_refused (graph_refusal layers) layers

-- a file is the one layer of its graph
abbrev pub file_opened : Tree → List ℕ → Result (List Layer) OpenError
file_opened tree path = and_then (layer_at tree 0 path) (λ layer. graph_of_layers (layer ∷ []))

-- the layer that line i of a chain names
abbrev pub layer_of_line : Tree → List ℕ → ℕ → List ℕ → Result Layer OpenError
layer_of_line tree folder i line = if is_utf8 line then layer_at tree i (layer_path folder line) else Err (ChainNotText i)

-- the layers that lines of a chain name, of which the first is line i
abbrev pub layers_from : Tree → List ℕ → ℕ → List (List ℕ) → Result (List Layer) OpenError
layers_from tree folder i names = all_values (map (λ p. layer_of_line tree folder p.0 p.1) (enumerate_from i names))

-- those of all its lines, the lowest first
abbrev pub layers_of_lines : Tree → List ℕ → List (List ℕ) → Result (List Layer) OpenError
layers_of_lines tree folder names = layers_from tree folder 0 names

-- a chain folder has the layers that its chain file names, line by line
abbrev pub chain_opened : Tree → List ℕ → Result (List Layer) OpenError
chain_opened tree folder =
    and_then (bytes_at tree (chain_path folder)) (λ text. and_then (layers_of_lines tree folder (lines text)) graph_of_layers)

-- an info folder's graph is that of its file, and else that of its chain folder
abbrev pub info_opened : Tree → List ℕ → Result (List Layer) OpenError
info_opened tree folder = result_or (file_opened tree (info_file folder)) (chain_opened tree (info_chain folder))

-- a call that took the count of device failures from old to new met none: the count did not rise
abbrev pub MetNoFailure : ℕ → ℕ → Type 0
MetNoFailure old new = (old < 2 ^ 64 - 1) × (new ≤ old)

-- it met one
abbrev pub MetFailure : ℕ → ℕ → Type 0
MetFailure old new = old < new

-- a failed device is answered only where a device failed; the count stays at the greatest `u64`
abbrev pub MetFailureIfDevice : {A : Type 0} → Result A OpenError → ℕ → ℕ → Type 0
MetFailureIfDevice answer old new = IsErrOf answer Device → old < 2 ^ 64 - 1 → MetFailure old new

-- what an opener answers that stops at the first failed device
abbrev pub StopsAtFailure : Result (List Layer) OpenError → ℕ → ℕ → Result (List Layer) OpenError → Type 0
StopsAtFailure expected old new answer = IsAsExpected answer expected × (new ≡ failures_after_opening answer old)

-- what the opener of an info folder answers: where a device failed it may have been at the file, and then the chain decides
abbrev pub InfoOpens : Tree → List ℕ → ℕ → ℕ → Result (List Layer) OpenError → Type 0
InfoOpens tree folder old new answer =
    (MetNoFailure old new → IsAsExpected answer (info_opened tree folder))
    × (MetFailure old new → IsAsExpected answer (chain_opened tree (info_chain folder)))

-- what an opener answers where nothing stands at the path: it reads nothing, so no device fails
abbrev pub NothingOpens : ℕ → ℕ → Result (List Layer) OpenError → Type 0
NothingOpens old new (Err NothingFound) = new ≡ old
NothingOpens old new (Err OutOfMemory) = new ≡ old
NothingOpens old new answer = ⊥

-- what stands at a path: a folder with a chain file is a chain folder, and any other is taken for an info folder
abbrev pub standing_at : Tree → List ℕ → Standing
standing_at tree path =
    if is_file tree path then File
    else (if is_folder tree path then (if is_file tree (chain_path path) then ChainDir else InfoDir) else Nothing)

-- what an opener answers for what stands at the path
abbrev pub StandingOpens : Standing → Tree → List ℕ → ℕ → ℕ → Result (List Layer) OpenError → Type 0
StandingOpens File tree path old new answer = StopsAtFailure (file_opened tree path) old new answer
StandingOpens ChainDir tree path old new answer = StopsAtFailure (chain_opened tree path) old new answer
StandingOpens InfoDir tree path old new answer = InfoOpens tree path old new answer
StandingOpens Nothing tree path old new answer = NothingOpens old new answer

-- a file and a folder are opened as such, and nothing is found at any other path
abbrev pub Opens : Tree → List ℕ → ℕ → ℕ → Result (List Layer) OpenError → Type 0
Opens tree path old new answer = StandingOpens (standing_at tree path) tree path old new answer
