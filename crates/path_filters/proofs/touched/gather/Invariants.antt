use Rattle.std.proofs.Common.{map}
use Rattle.path_filters.specs.Steps.{IsPathGathered}
use Rattle.path_filters.proofs.GatherLemmas.{HasDirectories}
use Rattle.path_filters.proofs.touched.gather.Given as goal

abbrev pub invariant-loop-i : goal.invariant-loop-i
invariant-loop-i l =
    let gathered = map (λ p. p.now) l.touched.keys in
    record {
      so_far : IsPathGathered l.path (map (λ p. p.now) l.fn.touched.keys) gathered;
      directories : HasDirectories l.path l.common l.i gathered;
    }
