-- Why the filter of a commit is refused: what it lacks, or that the trees do not tell.
use Rattle.std.specs.Prelude.{◌≡◌, ◌<◌, ◌⊎◌, ℕ, List, All, slice_get, Option, IsSomeAnd}
use Rattle.std.specs.Ordering.{nat_cmp}
use Rattle.std.specs.Cmp.Lexicographic.{slice_cmp}
use Rattle.std.specs.declared.cmp.Ordering.TheVariants.{Less}
use Rattle.graph_format.specs.Layer.{Layer}
use Rattle.gix_commitgraph.specs.Graph.{total}
use Rattle.graph_chunks.specs.GraphFilters.{FiltersOfGraph}
use Rattle.tree_changes.specs.Stands.{World}
use Rattle.tree_changes.specs.Changes.{IsChangedText, IsChangeRefusal}
use Rattle.tree_changes.specs.declared.changes.Limits.{Limits}
use Rattle.tree_changes.specs.declared.changes.Refusal.TheVariants.{OutOfMemory}
use Rattle.path_filters.specs.Touched.{LeadsTo}
use Rattle.filter_checks.specs.RightFilters.{IsPossibleAt, IsAbsentAt, AreRightBelow, root_tree_at, parent_tree_at}
use Rattle.filter_checks.specs.declared.refusal.FilterRefusal.{FilterRefusal}
use Rattle.filter_checks.specs.declared.refusal.FilterRefusal.TheVariants.{Lacks, Trees, Differs}
use Rattle.filter_checks.specs.declared.refusal.RefusedFilter.{RefusedFilter}

-- the text is the path, or a directory that leads to it
abbrev pub IsAlong : List ℕ → List ℕ → Type 0
IsAlong path text = (text ≡ path) ⊎ LeadsTo text path

-- the filter of a commit answers the path, and each directory that leads to it, as possible
abbrev pub ArePossibleAlong : FiltersOfGraph → ℕ → List ℕ → Type 0
ArePossibleAlong all p path = (text : List ℕ) → IsAlong path text → IsPossibleAt all p text

-- Along a path, the text is the first that the filter of a commit answers as absent: directories stand before what they lead to.
pub record IsFirstAbsent (all : FiltersOfGraph) (p : ℕ) (path text : List ℕ) : Type 0 where
  pub along : IsAlong path text
  pub absent : IsAbsentAt all p text
  pub above : (directory : List ℕ) → LeadsTo directory text → IsPossibleAt all p directory

-- The filter of a commit lacks this path first: of the changed paths, in the order of their bytes, it is along the first along
-- which it lacks one.
pub record IsFirstLack (all : FiltersOfGraph) (p : ℕ) (IsOneChanged : List ℕ → Type 0) (path : List ℕ) : Type 0 where
  pub changed : List ℕ
  pub is_changed : IsOneChanged changed
  pub first : IsFirstAbsent all p changed path
  pub before : (other : List ℕ) → IsOneChanged other → slice_cmp nat_cmp other changed ≡ Less → ArePossibleAlong all p other

-- the filter of the commit at a position has a bit that is not set, so it was computed
abbrev pub HasClearBitAt : FiltersOfGraph → ℕ → Type 0
HasClearBitAt all p = IsSomeAnd (slice_get all.filters p) (λ filter. ¬ All (λ byte. byte ≡ 255) filter)

-- why the filter of a commit is refused, by what is changed from one tree to another
abbrev pub IsFilterRefusal : {E : Type 0} → (List ℕ → E → Type 0) → Limits → World → Option (List ℕ) → Option (List ℕ)
    → FiltersOfGraph → ℕ → FilterRefusal E → Type 0
IsFilterRefusal refused limits world old new all p (Lacks path) = IsFirstLack all p (IsChangedText world old new) path.items
IsFilterRefusal refused limits world old new all p (Trees refusal) =
    IsChangeRefusal refused limits.paths limits.names limits.trees world old new refusal
IsFilterRefusal refused limits world old new all p Differs = ⊥

-- the same of the trees of the first parent and of the commit at a position
abbrev pub IsRefusalAt : {E : Type 0} → (List ℕ → E → Type 0) → Limits → World → List Layer → FiltersOfGraph → ℕ
    → FilterRefusal E → Type 0
IsRefusalAt refused limits world layers all p =
    IsFilterRefusal refused limits world (parent_tree_at layers p) (root_tree_at layers p) all p

-- Which filter is refused first, and why: those before it are right.
pub record IsFirstRefused {E : Type 0} (refused : List ℕ → E → Type 0) (limits : Limits) (world : World) (layers : List Layer)
    (all : FiltersOfGraph) (fault : RefusedFilter E) : Type 0 where
  pub within : fault.pos.0 < total layers
  pub before : AreRightBelow world layers all fault.pos.0
  pub needed : HasClearBitAt all fault.pos.0
  pub why : IsRefusalAt refused limits world layers all fault.pos.0 fault.why

-- For private contracts: the path is lacked, or there was no memory to say so
abbrev pub IsLackOf : {E : Type 0} → List ℕ → FilterRefusal E → Type 0
IsLackOf path (Lacks text) = text.items ≡ path
IsLackOf path (Trees refusal) = refusal ≡ OutOfMemory
IsLackOf path Differs = ⊥
