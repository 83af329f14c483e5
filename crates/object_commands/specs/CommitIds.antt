-- the answers of `ids`, their texts and their exit statuses
use Rattle.std.specs.Prelude.{◌≡◌, ℕ, List, Option, Result, Ok, Err, slice_range}
use Rattle.std.specs.List.{flat_map}
use Rattle.hex.specs.Hex.{encode_lower}
use Rattle.graph_format.specs.Layer.{Layer}
use Rattle.graph_layer.specs.declared.opening.error.OpenError.{OpenError}
use Rattle.gix_commitgraph.specs.Graph.{graph_ids, total}
use Rattle.graph_commands.specs.Text.{◌⧺◌, newline}
use Rattle.graph_commands.specs.declared.refusal.Refusal.TheVariants.{Open}
use Rattle.object_commands.specs.AskedRange.{IsRangeOf, asked_range}
use Rattle.object_commands.specs.ObjectsRefusalLines.{objects_refusal_text}
use Rattle.object_commands.specs.declared.range.PositionRange.{PositionRange}
use Rattle.object_commands.specs.declared.refusal.ObjectsRefusal.{ObjectsRefusal}
use Rattle.object_commands.specs.declared.refusal.ObjectsRefusal.TheVariants.{Graph, Range}

-- the ids at the positions of a range
abbrev pub ids_in_range : List Layer → PositionRange → List (List ℕ)
ids_in_range layers range = slice_range (graph_ids layers) range.from range.to

-- the graph has other positions than those that are asked for, and this is how many commits it has
abbrev pub LacksRange : List Layer → Option PositionRange → ℕ → Type 0
LacksRange layers asked commits = (¬ IsRangeOf layers (asked_range layers asked)) × (commits ≡ total layers)

-- what `ids` may answer, given what the opener may answer: its error; that the graph lacks positions that are asked for; or the
-- ids there
abbrev pub MayListIds : Option PositionRange → (Result (List Layer) OpenError → Type 0)
    → Result (List (List ℕ)) ObjectsRefusal → Type 0
MayListIds asked MayOpen (Ok ids) =
    (layers : List Layer) × MayOpen (Ok layers) × IsRangeOf layers (asked_range layers asked)
    × (ids ≡ ids_in_range layers (asked_range layers asked))
MayListIds asked MayOpen (Err (Graph (Open error))) = MayOpen (Err error)
MayListIds asked MayOpen (Err (Range commits)) = (layers : List Layer) × MayOpen (Ok layers) × LacksRange layers asked commits
MayListIds asked MayOpen (Err refusal) = ⊥

-- the line of an id: its bytes in lower-case hexadecimal
abbrev pub line_of_id : List ℕ → List ℕ
line_of_id id = encode_lower id ⧺ newline

-- a line for each id, or the line of a refusal
abbrev pub ids_text : Result (List (List ℕ)) ObjectsRefusal → List ℕ
ids_text (Ok ids) = flat_map line_of_id ids
ids_text (Err refusal) = objects_refusal_text refusal ⧺ newline

-- 0 for ids, and else 1
abbrev pub ids_status : Result (List (List ℕ)) ObjectsRefusal → ℕ
ids_status (Ok ids) = 0
ids_status (Err refusal) = 1
