-- The filters so far, and the bytes of those that are left.
use Rattle.std.proofs.Common.{◌≡◌, ◌+◌, ◌<◌, ℕ, Some, drop, slice_get}
use Rattle.std.specs.List.{sum_by}
use Rattle.graph_writer.specs.NewFilters.{filter_numbers, filter_count, byte_count, new_filter}
use Rattle.graph_writer.proofs.filter_lists.SortedFilters.{size_of}
use Rattle.graph_writer.proofs.filters.NewFilters.in_order.Given as goal

abbrev pub invariant-loop-number : goal.invariant-loop-number
invariant-loop-number l = record {
  counted : filter_count l.sorted ≡ l.number-index;
  numbers : filter_numbers l.sorted ≡ filter_numbers l.self;
  room : byte_count l.sorted + sum_by (size_of l.self) (drop l.number-index l.order) ≡ byte_count l.self;
  each : (p i : ℕ) → p < l.number-index → slice_get l.order p ≡ Some i → new_filter l.sorted p ≡ new_filter l.self i;
}
