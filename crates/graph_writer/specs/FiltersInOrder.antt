-- Filters in another order. For private contracts alone.
use Rattle.std.specs.Prelude.{◌≡◌, ℕ, List, Option, Some, None, ⊤, length, slice_get}
use Rattle.graph_writer.specs.NewFilters.{filter_numbers, filter_count, new_filter}
use Rattle.graph_writer.specs.declared.filters.NewFilters.{NewFilters}

-- The second filters are the first, in this order of their numbers.
pub record AreFiltersInOrder (order : List ℕ) (filters sorted : NewFilters) : Type 0 where
  pub as_many : filter_count sorted ≡ length order
  pub numbers : filter_numbers sorted ≡ filter_numbers filters
  pub each : (p i : ℕ) → slice_get order p ≡ Some i → new_filter sorted p ≡ new_filter filters i

-- the same of filters that may be missing
abbrev pub MaybeInOrder : List ℕ → Option NewFilters → Option NewFilters → Type 0
MaybeInOrder order (Some filters) (Some sorted) = AreFiltersInOrder order filters sorted
MaybeInOrder order None None = ⊤
MaybeInOrder order filters sorted = ⊥
