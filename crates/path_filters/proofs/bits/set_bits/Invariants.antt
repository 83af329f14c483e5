use Rattle.std.proofs.Common.{◌≡◌, ◌<◌, ℕ, length}
use Rattle.changed_paths.specs.Filter.{probe, bit_hit}
use Rattle.path_filters.specs.Steps.{AreSet}
use Rattle.path_filters.proofs.bits.set_bits.Given as goal

abbrev pub invariant-loop-i : goal.invariant-loop-i
invariant-loop-i l = record {
  same : length l.filter ≡ length l.fn.filter;
  hit : (j : ℕ) → j < l.i → bit_hit l.filter (probe l.fn.reading l.path j) ≡ 1;
  set : AreSet l.fn.reading l.path l.i l.fn.filter l.filter;
}
