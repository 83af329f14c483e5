-- the answers of `check`, their texts and their exit statuses
use Rattle.std.specs.Prelude.{◌≡◌, ℕ, List, Option, Some, None, Result, Ok, Err, All, codes, decimal, option_map}
use Rattle.std.specs.BTreeMap.{IsOrdered}
use Rattle.std.specs.Ordering.{nat_cmp}
use Rattle.graph_walks.specs.Dates.{AreRight}
use Rattle.graph_format.specs.Layer.{Layer}
use Rattle.graph_format.specs.StoredHistory.{history_of}
use Rattle.graph_layer.specs.declared.opening.error.OpenError.{OpenError}
use Rattle.gix_commitgraph.specs.Graph.{total}
use Rattle.gix_commitgraph.specs.Headline.{Stats}
use Rattle.gix_commitgraph.specs.Sound.{Sound}
use Rattle.gix_commitgraph.specs.declared.verify.Outcome.{Outcome}
use Rattle.graph_ancestors.specs.RefusedGraph.{MayRefuseGraph}
use Rattle.graph_format.specs.OptionalChunks.{HasDates}
use Rattle.graph_chunks.specs.GraphStoredDates.{times_of, dates_of}
use Rattle.graph_chunks.specs.GraphDates.{graph_dates_refusal, FollowAllParents, MayRefuseGraphDates}
use Rattle.graph_chunks.specs.GraphFilters.{settings_of, computed_in, graph_filters_refusal, MayRefuseGraphFilters}
use Rattle.graph_chunks.specs.declared.dates.DatesError.{DatesError}
use Rattle.graph_chunks.specs.declared.dates.DatesError.TheVariants as date_error
use Rattle.graph_chunks.specs.declared.filters.FiltersError.{FiltersError}
use Rattle.graph_chunks.specs.declared.filters.FiltersError.TheVariants as filter_error
use Rattle.graph_commands.specs.RefusalLines.{refusal_text}
use Rattle.graph_commands.specs.Report.{outcome_text}
use Rattle.graph_commands.specs.Text.{◌⧺◌, newline}
use Rattle.graph_commands.specs.declared.refusal.Refusal.{Refusal}
use Rattle.graph_commands.specs.declared.refusal.Refusal.TheVariants.{Id, Read, File, Open, Verify, Walk}
use Rattle.history_commands.specs.declared.check.CheckRefusal.{CheckRefusal}
use Rattle.history_commands.specs.declared.check.ChunksFound.{ChunksFound}
use Rattle.history_commands.specs.declared.check.CheckRefusal.TheVariants.{Graph, Dates, Filters}

-- what is found of a graph: its statistics, and what its further chunks have
pub record Findings : Type 0 where
  pub outcome : Outcome
  pub chunks : ChunksFound

-- some layer has no dates; or all of the commits have one, no condition refuses the dates, they are right, and each follows from
-- its commit's parents
abbrev pub AreDatesFound : List Layer → Option ℕ → Type 0
AreDatesFound layers None = ¬ All HasDates layers
AreDatesFound layers (Some commits) =
    All HasDates layers × (graph_dates_refusal layers ≡ None)
    × AreRight (history_of layers) (times_of layers) (dates_of layers) × FollowAllParents layers (dates_of layers)
    × (commits ≡ total layers)

-- the filters are not refused, and so many were computed, if some layer has filters
abbrev pub AreFiltersFound : List Layer → Option ℕ → Type 0
AreFiltersFound layers computed =
    (graph_filters_refusal layers ≡ None) × (computed ≡ option_map (λ settings. computed_in layers) (settings_of layers))

-- Nothing refuses the further chunks, and this is found of them.
pub record AreChunksFound (layers : List Layer) (found : ChunksFound) : Type 0 where
  pub dates : AreDatesFound layers found.dates
  pub filters : AreFiltersFound layers found.filters

-- The graph is right, with its further chunks, and this is found of it. The numbers of parents ascend.
pub record AreFindings (layers : List Layer) (findings : Findings) : Type 0 where
  pub right : Sound layers
  pub statistics : Stats layers findings.outcome
  pub ascending : IsOrdered nat_cmp findings.outcome.parent_counts
  pub chunks : AreChunksFound layers findings.chunks

-- dates may be refused so, where each layer has some; that memory ran out is said only where all can be read
unfoldable pub MayRefuseDates : List Layer → DatesError → Type 0
MayRefuseDates layers error =
    All HasDates layers × MayRefuseGraphDates layers error

-- filters may be refused so; that memory ran out is said only where nothing refuses them
unfoldable pub MayRefuseFilters : List Layer → FiltersError → Type 0
MayRefuseFilters layers error = MayRefuseGraphFilters layers error

-- why the further chunks of a right graph may be refused: its dates are; and else its filters are
abbrev pub MayRefuseChunks : List Layer → CheckRefusal → Type 0
MayRefuseChunks layers (Graph refusal) = ⊥
MayRefuseChunks layers (Dates error) = MayRefuseDates layers error
MayRefuseChunks layers (Filters error) = (dates : Option ℕ) × AreDatesFound layers dates × MayRefuseFilters layers error

-- why no right graph is found, as `verify` may say: the path opens none, or the one that it opens fails its check
abbrev pub MayRefuseToStart : (Result (List Layer) OpenError → Type 0) → Refusal → Type 0
MayRefuseToStart MayOpen (Open error) = MayOpen (Err error)
MayRefuseToStart MayOpen (Verify error) = (layers : List Layer) × MayOpen (Ok layers) × MayRefuseGraph layers error
MayRefuseToStart MayOpen (Id error) = ⊥
MayRefuseToStart MayOpen (Read error) = ⊥
MayRefuseToStart MayOpen (File error) = ⊥
MayRefuseToStart MayOpen Walk = ⊥

-- why `check` may refuse what a path opens, given what the opener may answer: why there is no right graph; and else why its
-- further chunks are refused
abbrev pub MayRefuseToCheck : (Result (List Layer) OpenError → Type 0) → CheckRefusal → Type 0
MayRefuseToCheck MayOpen (Graph refusal) = MayRefuseToStart MayOpen refusal
MayRefuseToCheck MayOpen refusal = (layers : List Layer) × MayOpen (Ok layers) × Sound layers × MayRefuseChunks layers refusal

-- what `check` may answer
abbrev pub MayFindInAll : (Result (List Layer) OpenError → Type 0) → Result Findings CheckRefusal → Type 0
MayFindInAll MayOpen (Ok findings) = (layers : List Layer) × MayOpen (Ok layers) × AreFindings layers findings
MayFindInAll MayOpen (Err refusal) = MayRefuseToCheck MayOpen refusal

-- how many commits have what is counted, or that none is to be counted
abbrev pub commits_line : List ℕ → Option ℕ → List ℕ
commits_line counted (Some commits) = counted ⧺ codes " commits " ⧺ decimal commits ⧺ newline
commits_line counted None = counted ⧺ codes " none" ⧺ newline

-- why dates are refused; layers and positions count from 0
abbrev pub dates_text : DatesError → List ℕ
dates_text (date_error.DataSize layer) = codes "1 layer " ⧺ decimal layer
dates_text (date_error.OverflowSize layer) = codes "2 layer " ⧺ decimal layer
dates_text (date_error.OverflowIndex pos) = codes "3 position " ⧺ decimal pos.0
dates_text (date_error.TooLarge pos) = codes "4 position " ⧺ decimal pos.0
dates_text (date_error.Date pos expected) = codes "5 position " ⧺ decimal pos.0 ⧺ codes " expected " ⧺ decimal expected
dates_text date_error.OutOfMemory = codes "6"

-- why filters are refused
abbrev pub filters_text : FiltersError → List ℕ
filters_text (filter_error.IndexSize layer) = codes "1 layer " ⧺ decimal layer
filters_text (filter_error.DataSize layer) = codes "2 layer " ⧺ decimal layer
filters_text (filter_error.Version layer version) = codes "3 layer " ⧺ decimal layer ⧺ codes " version " ⧺ decimal version
filters_text (filter_error.Hashes layer hashes) = codes "4 layer " ⧺ decimal layer
filters_text (filter_error.NoBits layer) = codes "5 layer " ⧺ decimal layer
filters_text (filter_error.Falls pos) = codes "6 position " ⧺ decimal pos.0
filters_text (filter_error.PastEnd pos) = codes "7 position " ⧺ decimal pos.0
filters_text (filter_error.LeftOver layer) = codes "8 layer " ⧺ decimal layer
filters_text (filter_error.Settings layer) = codes "9 layer " ⧺ decimal layer
filters_text filter_error.OutOfMemory = codes "10"

-- why `check` refuses what a path opens
abbrev pub check_refusal_text : CheckRefusal → List ℕ
check_refusal_text (Graph refusal) = refusal_text refusal
check_refusal_text (Dates error) = codes "refused dates " ⧺ dates_text error
check_refusal_text (Filters error) = codes "refused filters " ⧺ filters_text error

-- the lines of what is found of the further chunks
abbrev pub chunks_found_text : ChunksFound → List ℕ
chunks_found_text found = commits_line (codes "dates") found.dates ⧺ commits_line (codes "filters") found.filters

-- the lines of what is found, or of a refusal
abbrev pub check_text : Result Findings CheckRefusal → List ℕ
check_text (Ok findings) = outcome_text findings.outcome ⧺ chunks_found_text findings.chunks
check_text (Err refusal) = check_refusal_text refusal ⧺ newline

-- 0 where all is right, and else 1
abbrev pub check_status : Result Findings CheckRefusal → ℕ
check_status (Ok findings) = 0
check_status (Err refusal) = 1
