-- Whether the filters of a graph are right, by the trees that stand in a stream of objects.
use Rattle.std.specs.Prelude.{◌≡◌, ◌⊎◌, ◌-◌, ◌^◌, ⊤, ℕ, List, All, Option, IsSomeAnd}
use Rattle.gix_hash_core.specs.declared.kind.Kind.{Kind}
use Rattle.graph_format.specs.Layer.{Layer}
use Rattle.graph_chunks.specs.GraphFilters.{FiltersOfGraph}
use Rattle.tree_changes.specs.Stands.{World}
use Rattle.tree_changes.specs.declared.changes.Limits.{Limits}
use Rattle.tree_changes.specs.declared.changes.Refusal.TheVariants as trees
use Rattle.tree_requests.specs.TreeStream.{HasTreesOf}
use Rattle.tree_requests.specs.TreeRefusal.{IsNotGiven, other_entry, unordered_tree, unreadable_tree}
use Rattle.tree_requests.specs.declared.error.TreeRequestError.{TreeRequestError}
use Rattle.tree_requests.specs.declared.error.TreeRequestError.TheVariants.{NoId}
use Rattle.filter_checks.specs.RightFilters.{AreRightFilters}
use Rattle.filter_checks.specs.Refused.{IsFirstRefused}
use Rattle.filter_checks.specs.declared.refusal.FilterRefusal.{FilterRefusal}
use Rattle.filter_checks.specs.declared.refusal.FilterRefusal.TheVariants as why
use Rattle.filter_checks.specs.declared.refusal.RefusedFilter.{RefusedFilter}
use Rattle.path_checks.specs.declared.error.PathsError.{PathsError}
use Rattle.path_checks.specs.declared.error.PathsError.TheVariants.{Filter, Device, OutOfMemory, WriteFailed}
use Rattle.path_checks.specs.declared.error.PathsFault.{PathsFault}
use Rattle.path_checks.specs.declared.error.PathsFault.TheVariants.{Entry, Unreadable, Order, TooDeep, TooMuch, Lacks}
use Rattle.path_checks.specs.declared.error.PathsFault.TheVariants.{Differs, Other}

-- all layers have ids of this kind
abbrev pub IsKindOf : Kind → List Layer → Type 0
IsKindOf kind layers = All (λ layer. layer.kind ≡ kind) layers

-- a world agrees with a stream whose bytes are known: it has each tree that stands there
abbrev pub AgreesWith : Kind → Option (List ℕ) → World → Type 0
AgreesWith kind stream world = IsSomeAnd stream (λ bytes. HasTreesOf kind bytes world)

-- in each world that agrees with the stream, each filter that was computed answers each path as possible that its commit touches
abbrev pub AreRightOfKind : Kind → Option (List ℕ) → List Layer → FiltersOfGraph → Type 0
AreRightOfKind kind stream layers all = (world : World) → AgreesWith kind stream world → AreRightFilters world layers all

-- how far trees are gone through for one commit, where so many may be read: paths have 2,048 names at most, and any number of
-- paths may be changed that a machine counts
abbrev pub limits_for : ℕ → Limits
limits_for trees = record { paths = 2 ^ 64 - 1; names = 2048; trees = trees }

-- the fault by which it is told why a filter is refused
abbrev pub IsFaultOf : FilterRefusal TreeRequestError → PathsFault → Type 0
IsFaultOf refusal (Entry id error) = refusal ≡ why.Trees (trees.Source (other_entry id error))
IsFaultOf refusal (Unreadable id entry) = refusal ≡ why.Trees (trees.Source (unreadable_tree id entry))
IsFaultOf refusal (Order id entry) = refusal ≡ why.Trees (trees.Source (unordered_tree id entry))
IsFaultOf refusal TooDeep = refusal ≡ why.Trees trees.TooDeep
IsFaultOf refusal TooMuch = refusal ≡ why.Trees trees.TooMuch
IsFaultOf refusal (Lacks path) = refusal ≡ why.Lacks path
IsFaultOf refusal Differs = refusal ≡ why.Differs
IsFaultOf refusal Other = (refusal ≡ why.Trees trees.TooMany) ⊎ (refusal ≡ why.Trees (trees.Source NoId))

-- what is told of a filter that is refused: its fault. Reads and writes may fail, and memory run out
abbrev pub MayTellOf : (RefusedFilter TreeRequestError → Type 0) → PathsError → Type 0
MayTellOf IsRefused (Filter pos fault) =
    (refusal : FilterRefusal TreeRequestError) × IsFaultOf refusal fault
    × IsRefused (record { pos = pos; why = refusal })
MayTellOf IsRefused Device = ⊤
MayTellOf IsRefused OutOfMemory = ⊤
MayTellOf IsRefused WriteFailed = ⊤

-- in each world that agrees with the stream, this filter is the first that is refused; where a tree is not given, the stream does
-- not go on with it, or its contents are none
abbrev pub IsRefusedInAll : Kind → Option (List ℕ) → Limits → List Layer → FiltersOfGraph → RefusedFilter TreeRequestError
    → Type 0
IsRefusedInAll kind stream limits layers all fault =
    (world : World) → AgreesWith kind stream world → IsFirstRefused (IsNotGiven kind stream) limits world layers all fault

-- why the filters of a graph are not found right
abbrev pub MayRefuseOfKind : Kind → Option (List ℕ) → Limits → List Layer → FiltersOfGraph → PathsError → Type 0
MayRefuseOfKind kind stream limits layers all = MayTellOf (IsRefusedInAll kind stream limits layers all)

-- the same, where the ids are of the kind of the graph
abbrev pub AreRightByStream : Option (List ℕ) → List Layer → FiltersOfGraph → Type 0
AreRightByStream stream layers all = (kind : Kind) × IsKindOf kind layers × AreRightOfKind kind stream layers all

-- and where so many trees may be read for one commit
abbrev pub MayRefuseByStream : Option (List ℕ) → ℕ → List Layer → FiltersOfGraph → PathsError → Type 0
MayRefuseByStream stream trees layers all error =
    (kind : Kind) × IsKindOf kind layers × MayRefuseOfKind kind stream (limits_for trees) layers all error
