-- The filters so far, and the bytes of those that are left.
use Rattle.std.proofs.Common.{◌≡◌, ◌+◌, ◌<◌, ℕ, List, Some, drop, length, slice_get}
use Rattle.std.specs.List.{sum_by}
use Rattle.graph_writer.specs.NewFilters.{filter_numbers, filter_count, byte_count, new_filter}
use Rattle.write_commands.proofs.filters.gathered.Given as goal

abbrev pub invariant-loop-number : goal.invariant-loop-number
invariant-loop-number l = record {
  counted : filter_count l.gathered ≡ l.number;
  numbers : filter_numbers l.gathered ≡ filter_numbers l.initial.gathered;
  room : byte_count l.gathered + sum_by length (drop l.number l.filters.filters) ≡ sum_by length l.filters.filters;
  each : (p : ℕ) (f : List ℕ) → p < l.number → slice_get l.filters.filters p ≡ Some f → new_filter l.gathered p ≡ f;
}
