use Rattle.std.proofs.Common.{◌≤◌, length, map}
use Rattle.path_filters.proofs.GatherLemmas.{AreGathered}
use Rattle.path_filters.proofs.touched.touched_paths.Given as goal

abbrev pub invariant-loop-path : goal.invariant-loop-path
invariant-loop-path l = record {
  gathered : AreGathered (map (λ path. path.items) l.changed) l.path-index l.last (map (λ p. p.now) l.touched.keys);
  few : length l.touched.keys ≤ l.most;
}
