use Rattle.std.proofs.Common.{◌≡◌, true, false}
use Rattle.changed_paths.specs.Filters.{start_of, IsRising}
use Rattle.changed_paths.proofs.filters.is_rising.Given as goal

abbrev pub invariant-loop-pos : goal.invariant-loop-pos
invariant-loop-pos l =
    (l.rising ≡ true → IsRising l.pos l.index) × (l.rising ≡ false → ¬ IsRising l.pos l.index)
    × (l.start ≡ start_of l.index l.pos)
