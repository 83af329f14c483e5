use Rattle.std.proofs.Common.{◌≡◌, ◌*◌, ◌+◌, ◌/◌, length, map, max, take}
use Rattle.path_filters.proofs.BitLemmas.{IsMadeOf}
use Rattle.path_filters.proofs.bits.filter_of.Given as goal

abbrev pub invariant-loop-path : goal.invariant-loop-path
invariant-loop-path l = record {
  size : length l.filter.items ≡ max 1 ((l.bits * length l.paths + 7) / 8);
  made : IsMadeOf l.reading l.hashes (take l.path-index (map (λ path. path.now) l.paths)) l.filter.items;
}
