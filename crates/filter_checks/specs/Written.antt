-- When the filters of a graph are those that Git writes for its commits, to the last bit, and why one is refused.
use Rattle.std.specs.Prelude.{◌≢◌, ◌<◌, ℕ, List, slice_get, Option, Some, IsSomeAnd}
use Rattle.graph_format.specs.Layer.{Layer}
use Rattle.gix_commitgraph.specs.Graph.{total}
use Rattle.graph_chunks.specs.GraphFilters.{FiltersOfGraph}
use Rattle.tree_changes.specs.Stands.{World}
use Rattle.tree_changes.specs.Changes.{IsChangedText, IsChangeRefusal}
use Rattle.tree_changes.specs.declared.changes.Refusal.TheVariants.{TooMany}
use Rattle.path_filters.specs.Made.{IsWritten}
use Rattle.path_filters.specs.declared.filter.Bounds.{Bounds}
use Rattle.path_filters.specs.declared.settings.Settings.{Settings}
use Rattle.filter_checks.specs.RightFilters.{IsComputedAt, root_tree_at, parent_tree_at}
use Rattle.filter_checks.specs.declared.refusal.FilterRefusal.{FilterRefusal}
use Rattle.filter_checks.specs.declared.refusal.FilterRefusal.TheVariants.{Lacks, Trees, Differs}
use Rattle.filter_checks.specs.declared.refusal.RefusedFilter.{RefusedFilter}

-- the filter of the commit at a position is what Git writes for what is changed from one tree to another
abbrev pub IsWrittenFor : Settings → World → Option (List ℕ) → Option (List ℕ) → FiltersOfGraph → ℕ → Type 0
IsWrittenFor settings world old new all p =
    IsSomeAnd (slice_get all.filters p) (IsWritten settings (IsChangedText world old new))

-- if it was computed, it is what Git writes for its commit
abbrev pub IsWrittenAt : Settings → World → List Layer → FiltersOfGraph → ℕ → Type 0
IsWrittenAt settings world layers all p =
    IsComputedAt all p → IsWrittenFor settings world (parent_tree_at layers p) (root_tree_at layers p) all p

-- so are the filters of all commits before a position
abbrev pub AreWrittenBelow : Settings → World → List Layer → FiltersOfGraph → ℕ → Type 0
AreWrittenBelow settings world layers all end = (p : ℕ) → p < end → IsWrittenAt settings world layers all p

-- so are all filters of a graph
abbrev pub AreWritten : Settings → World → List Layer → FiltersOfGraph → Type 0
AreWritten settings world layers all = AreWrittenBelow settings world layers all (total layers)

-- why the filter of a commit is refused, by what is changed from one tree to another
abbrev pub IsOtherThanWritten : {E : Type 0} → (List ℕ → E → Type 0) → Settings → Bounds → World → Option (List ℕ)
    → Option (List ℕ) → FiltersOfGraph → ℕ → FilterRefusal E → Type 0
IsOtherThanWritten refused settings bounds world old new all p (Lacks path) = ⊥
IsOtherThanWritten refused settings bounds world old new all p (Trees refusal) =
    (refusal ≢ TooMany) × IsChangeRefusal refused settings.most bounds.names bounds.trees world old new refusal
IsOtherThanWritten refused settings bounds world old new all p Differs = ¬ IsWrittenFor settings world old new all p

-- Which filter is refused first, and why: those before it are what Git writes.
pub record IsFirstOther {E : Type 0} (refused : List ℕ → E → Type 0) (settings : Settings) (bounds : Bounds) (world : World)
    (layers : List Layer) (all : FiltersOfGraph) (fault : RefusedFilter E) : Type 0 where
  pub within : fault.pos.0 < total layers
  pub before : AreWrittenBelow settings world layers all fault.pos.0
  pub computed : IsComputedAt all fault.pos.0
  pub why : IsOtherThanWritten refused settings bounds world (parent_tree_at layers fault.pos.0)
      (root_tree_at layers fault.pos.0) all fault.pos.0 fault.why
