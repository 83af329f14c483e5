use Rattle.std.proofs.Common.{◌≡◌, ◌<◌, ℕ}
use Rattle.changed_paths.specs.Filter.{probe, bit_hit}
use Rattle.changed_paths.proofs.key.PathKey.all_hit.Given as goal

abbrev pub invariant-loop-i : goal.invariant-loop-i
invariant-loop-i l = (j : ℕ) → j < l.i → bit_hit l.filter (probe l.fn.reading l.self j) ≡ 1
