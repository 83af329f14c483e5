-- What may be told of the filters of a graph, by trees that are asked for: the lines that ask, an empty line, and the answer.
use Rattle.std.specs.Prelude.{◌≡◌, ◌⊎◌, ⊤, ℕ, List, [], Option, None, Result, Ok, Err, IsErr, codes, count_by, option_map}
use Rattle.std.specs.Prelude.{◌^◌, unwrap_or}
use Rattle.std.specs.Io.KnownBytes.{Appends, Keeps}
use Rattle.std.specs.List.{flat_map}
use Rattle.hex.specs.Hex.{encode_lower}
use Rattle.gix_commitgraph.specs.Sound.{Sound}
use Rattle.graph_format.specs.Layer.{Layer}
use Rattle.graph_layer.specs.declared.opening.error.OpenError.{OpenError}
use Rattle.graph_folder.specs.declared.folder.ReadError.TheVariants as read
use Rattle.graph_chunks.specs.GraphFilters.{FiltersOfGraph, graph_filters, graph_filters_refusal, is_computed, settings_of}
use Rattle.path_checks.specs.RightByStream.{AreRightByStream, MayRefuseByStream}
use Rattle.path_checks.specs.WrittenByStream.{AreWrittenByStream, MayDifferByStream}
use Rattle.path_checks.specs.declared.error.PathsError.{PathsError}
use Rattle.path_checks.specs.declared.error.PathsError.TheVariants as error
use Rattle.graph_commands.specs.Text.{◌⧺◌, newline}
use Rattle.graph_commands.specs.declared.refusal.Refusal.{Refusal}
use Rattle.graph_commands.specs.declared.refusal.Refusal.TheVariants.{Read, Walk}
use Rattle.history_commands.specs.Check.{AreFiltersFound, MayRefuseFilters, MayRefuseToStart, commits_line}
use Rattle.history_commands.specs.declared.check.CheckRefusal.TheVariants.{Graph, Dates, Filters}
use Rattle.path_commands.specs.PathsLines.{paths_refusal_text}
use Rattle.path_commands.specs.declared.refusal.PathsRefusal.{PathsRefusal}
use Rattle.path_commands.specs.declared.refusal.PathsRefusal.TheVariants.{Common, Filter}
use Rattle.path_commands.specs.declared.standard.Standard.{Standard}
use Rattle.path_commands.specs.declared.standard.Standard.TheVariants.{Right, Exact}

-- how many filters were computed, if some layer has filters; or why they are not found to be up to the standard
abbrev pub PathsVerdict : Type 0
PathsVerdict = Result (Option ℕ) PathsRefusal

-- The ids of the trees that were asked for, in order, and what is told then.
pub record ToldPaths : Type 0 where
  pub asked : List (List ℕ)
  pub verdict : PathsVerdict

-- how many commits have a filter that was computed, or none; or the line of a refusal
abbrev pub paths_verdict_text : PathsVerdict → List ℕ
paths_verdict_text (Ok computed) = commits_line (codes "filters") computed
paths_verdict_text (Err refusal) = paths_refusal_text refusal ⧺ newline

-- 0 where the filters are found to be up to the standard, and else 1
abbrev pub paths_verdict_status : PathsVerdict → ℕ
paths_verdict_status (Ok computed) = 0
paths_verdict_status (Err refusal) = 1

-- the lines by which trees are asked for
abbrev pub asking_lines : List (List ℕ) → List ℕ
asking_lines ids = flat_map (λ id. encode_lower id ⧺ newline) ids

abbrev pub paths_text : ToldPaths → List ℕ
paths_text told = asking_lines told.asked ⧺ newline ⧺ paths_verdict_text told.verdict

abbrev pub paths_status : ToldPaths → ℕ
paths_status told = paths_verdict_status told.verdict

-- the filters of a graph
abbrev pub filters_of_layers : List Layer → FiltersOfGraph
filters_of_layers layers = record { settings = settings_of layers; filters = graph_filters layers }

-- how many trees may be read for a commit: so many as is asked for, and else 2^22
abbrev pub most_trees : Option ℕ → ℕ
most_trees asked = unwrap_or asked (2 ^ 22)

-- the filters of a graph are up to a standard, by the trees that stand in a stream: right, or those that Git writes
abbrev pub AreUpTo : Standard → Option (List ℕ) → List Layer → FiltersOfGraph → Type 0
AreUpTo Right = AreRightByStream
AreUpTo Exact = AreWrittenByStream

-- why they are not found to be, where so many trees may be read for a commit
abbrev pub MayFallShort : Standard → Option (List ℕ) → ℕ → List Layer → FiltersOfGraph → PathsError → Type 0
MayFallShort Right = MayRefuseByStream
MayFallShort Exact = MayDifferByStream

-- why the filters of a right graph are not found to be up to a standard: they are refused whatever the trees are; else that of a
-- commit is, the first. Any read may fail, and memory run out
abbrev pub MayRefusePaths : Standard → ℕ → Option (List ℕ) → List Layer → PathsRefusal → Type 0
MayRefusePaths standard trees stream layers (Filter pos fault) =
    (graph_filters_refusal layers ≡ None)
    × MayFallShort standard stream trees layers (filters_of_layers layers) (error.Filter pos fault)
MayRefusePaths standard trees stream layers (Common (Filters error)) = MayRefuseFilters layers error
MayRefusePaths standard trees stream layers (Common (Dates error)) = ⊥
MayRefusePaths standard trees stream layers (Common (Graph (Read read.Device))) = ⊤
MayRefusePaths standard trees stream layers (Common (Graph Walk)) = ⊤
MayRefusePaths standard trees stream layers (Common (Graph refusal)) = ⊥

-- what is found of a right graph: so many filters were computed, and all are up to the standard; or why they are not found to be
abbrev pub MayFindPaths : Standard → ℕ → Option (List ℕ) → List Layer → PathsVerdict → Type 0
MayFindPaths standard trees stream layers (Ok computed) =
    AreFiltersFound layers computed × AreUpTo standard stream layers (filters_of_layers layers)
MayFindPaths standard trees stream layers (Err refusal) = MayRefusePaths standard trees stream layers refusal

-- what `paths` may tell, given what the opener may answer, and what the reader has before and after, where that is known: why
-- there is no right graph, before anything is asked for or read; or what is found of it
abbrev pub MayTellPaths : Standard → ℕ → Option (List ℕ) → Option (List ℕ) → (Result (List Layer) OpenError → Type 0) → ToldPaths
    → Type 0
MayTellPaths standard trees before after MayOpen told =
    ((refusal : Refusal) × MayRefuseToStart MayOpen refusal × (told.asked ≡ []) × (told.verdict ≡ Err (Common (Graph refusal)))
    × Keeps before after)
    ⊎ ((layers : List Layer) × MayOpen (Ok layers) × Sound layers × MayFindPaths standard trees before layers told.verdict)

-- For private contracts: lines were written that ask for some ids
abbrev pub AreAskingLines : Option (List ℕ) → Option (List ℕ) → Type 0
AreAskingLines before now = (ids : List (List ℕ)) × Appends before now (asking_lines ids)

-- and this is found then
abbrev pub IsAskedAndFound : Standard → ℕ → Option (List ℕ) → List Layer → Option (List ℕ) → Option (List ℕ) → PathsVerdict
    → Type 0
IsAskedAndFound standard trees stream layers before now verdict =
    (ids : List (List ℕ)) × Appends before now (asking_lines ids) × MayFindPaths standard trees stream layers verdict

-- how many filters were computed, if some layer has filters
abbrev pub computed_of : FiltersOfGraph → Option ℕ
computed_of all = option_map (λ settings. count_by is_computed all.filters) all.settings

-- what is told of the error of a check, if no write failed
abbrev pub IsToldOfError : {X : Type 0} → PathsError → Result PathsVerdict X → Type 0
IsToldOfError (error.Filter pos fault) told = told ≡ Ok (Err (Filter pos fault))
IsToldOfError error.Device told = told ≡ Ok (Err (Common (Graph (Read read.Device))))
IsToldOfError error.OutOfMemory told = told ≡ Ok (Err (Common (Graph Walk)))
IsToldOfError error.WriteFailed told = IsErr told
