-- Whether the filters of a graph are those that Git writes, by the trees that stand in a stream of objects.
use Rattle.std.specs.Prelude.{ℕ, List, Option}
use Rattle.gix_hash_core.specs.declared.kind.Kind.{Kind}
use Rattle.graph_format.specs.Layer.{Layer}
use Rattle.graph_chunks.specs.GraphFilters.{FiltersOfGraph}
use Rattle.tree_changes.specs.Stands.{World}
use Rattle.tree_requests.specs.TreeRefusal.{IsNotGiven}
use Rattle.tree_requests.specs.declared.error.TreeRequestError.{TreeRequestError}
use Rattle.path_filters.specs.declared.filter.Bounds.{Bounds}
use Rattle.path_filters.specs.declared.settings.Settings.{Settings}
use Rattle.filter_checks.specs.Written.{AreWritten, IsFirstOther}
use Rattle.filter_checks.specs.declared.refusal.RefusedFilter.{RefusedFilter}
use Rattle.path_checks.specs.GitSettings.{git_settings}
use Rattle.path_checks.specs.RightByStream.{AgreesWith, IsKindOf, MayTellOf}
use Rattle.path_checks.specs.declared.error.PathsError.{PathsError}

-- in each world that agrees with the stream, each filter that was computed is the one that Git writes by these settings
abbrev pub AreWrittenOfKind : Kind → Option (List ℕ) → Settings → List Layer → FiltersOfGraph → Type 0
AreWrittenOfKind kind stream settings layers all =
    (world : World) → AgreesWith kind stream world → AreWritten settings world layers all

-- how far trees are gone through for one commit, where so many may be read: paths have 2,048 names at most
abbrev pub bounds_for : ℕ → Bounds
bounds_for trees = record { names = 2048; trees = trees }

-- in each world that agrees with the stream, this filter is the first that is refused
abbrev pub IsOtherInAll : Kind → Option (List ℕ) → Settings → Bounds → List Layer → FiltersOfGraph
    → RefusedFilter TreeRequestError → Type 0
IsOtherInAll kind stream settings bounds layers all fault =
    (world : World) → AgreesWith kind stream world
    → IsFirstOther (IsNotGiven kind stream) settings bounds world layers all fault

-- why the filters of a graph are not found to be those that Git writes
abbrev pub MayDifferOfKind : Kind → Option (List ℕ) → Settings → Bounds → List Layer → FiltersOfGraph → PathsError → Type 0
MayDifferOfKind kind stream settings bounds layers all = MayTellOf (IsOtherInAll kind stream settings bounds layers all)

-- the same, where the ids are of the kind of the graph, and Git writes beside its filters
abbrev pub AreWrittenByStream : Option (List ℕ) → List Layer → FiltersOfGraph → Type 0
AreWrittenByStream stream layers all =
    (kind : Kind) × IsKindOf kind layers × AreWrittenOfKind kind stream (git_settings all.settings layers) layers all

-- and where so many trees may be read for one commit
abbrev pub MayDifferByStream : Option (List ℕ) → ℕ → List Layer → FiltersOfGraph → PathsError → Type 0
MayDifferByStream stream trees layers all error =
    (kind : Kind) × IsKindOf kind layers
    × MayDifferOfKind kind stream (git_settings all.settings layers) (bounds_for trees) layers all error
