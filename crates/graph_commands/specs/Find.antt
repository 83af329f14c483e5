-- the answers of `find`, their texts and their exit statuses
use Rattle.std.specs.Prelude.{◌≡◌, ℕ, List, Result, Ok, Err, Option, Some, None, slice_get}
use Rattle.gix_hash_core.specs.Hexadecimal.{SpellsId, SpellsNone}
use Rattle.graph_format.specs.Layer.{Layer, record_at}
use Rattle.gix_commitgraph.specs.Graph.{graph_commits}
use Rattle.gix_commitgraph.specs.GraphLookup.{FoundIn}
use Rattle.graph_layer.specs.declared.opening.error.OpenError.{OpenError}
use Rattle.graph_commands.specs.declared.report.Found.{Found}
use Rattle.graph_commands.specs.declared.refusal.Refusal.{Refusal}
use Rattle.graph_commands.specs.declared.refusal.Refusal.TheVariants.{Id, Read, File, Open, Verify, Walk}
use Rattle.graph_commands.specs.RefusalLines.{refusal_text, refusal_status}
use Rattle.graph_commands.specs.Report.{found_line}
use Rattle.graph_commands.specs.Text.{◌⧺◌, newline}

-- What is reported of a commit: its position in the graph, and the numbers of its record.
pub record Describes (layers : List Layer) (found : Found) : Type 0 where
  pub layer : Layer
  pub place : ℕ
  pub stands : slice_get (graph_commits layers) found.pos.0 ≡ Some (layer, place)
  pub generation : found.generation ≡ (record_at layer place).generation
  pub time : found.time ≡ (record_at layer place).time

-- what a search for an id may find in a graph: an answer to its lookup, with the commit there
abbrev pub MayBeFound : List Layer → List ℕ → Option Found → Type 0
MayBeFound layers id (Some found) = FoundIn layers id (Some found.pos.0) × Describes layers found
MayBeFound layers id None = FoundIn layers id None

-- the same in the layers of some graph that may be opened
abbrev pub MayFindIn : (Result (List Layer) OpenError → Type 0) → List ℕ → Option Found → Type 0
MayFindIn MayOpen id found = (layers : List Layer) × MayOpen (Ok layers) × MayBeFound layers id found

-- what the search may answer, given what the opener may: its error, or what is found
abbrev pub FindsBy : (Result (List Layer) OpenError → Type 0) → List ℕ → Result (Option Found) OpenError → Type 0
FindsBy MayOpen id (Ok found) = MayFindIn MayOpen id found
FindsBy MayOpen id (Err error) = MayOpen (Err error)

-- what `find` may answer for the text of an id, given what the opener may answer. For a text that is no id the folder is left
-- as it was: nothing is opened
abbrev pub MayFind : List ℕ → Type 0 → (Result (List Layer) OpenError → Type 0) → Result (Option Found) Refusal → Type 0
MayFind text IsLeftAlone MayOpen (Ok found) =
    (id : List ℕ) × SpellsId text id × ((layers : List Layer) × MayOpen (Ok layers) × MayBeFound layers id found)
MayFind text IsLeftAlone MayOpen (Err (Id error)) = SpellsNone text error × IsLeftAlone
MayFind text IsLeftAlone MayOpen (Err (Open error)) = (id : List ℕ) × SpellsId text id × MayOpen (Err error)
MayFind text IsLeftAlone MayOpen (Err (Read error)) = ⊥
MayFind text IsLeftAlone MayOpen (Err (File error)) = ⊥
MayFind text IsLeftAlone MayOpen (Err (Verify error)) = ⊥
MayFind text IsLeftAlone MayOpen (Err Walk) = ⊥

-- what the search found, or the line of a refusal
abbrev pub find_text : Result (Option Found) Refusal → List ℕ
find_text (Ok found) = found_line found
find_text (Err refusal) = refusal_text refusal ⧺ newline

-- 0 for a commit, 1 where there is none, and else the status of the refusal
abbrev pub find_status : Result (Option Found) Refusal → ℕ
find_status (Ok (Some found)) = 0
find_status (Ok None) = 1
find_status (Err refusal) = refusal_status refusal
