use Rattle.std.proofs.Common.{◌≡◌, None, nat_eq}
use Rattle.std.specs.Cmp.Lexicographic.{pointwise}
use Rattle.std.specs.HashMap.{get}
use Rattle.gix_chunk_core.specs.FirstFault.{first_below}
use Rattle.graph_writer.specs.NewCommits.{new_ids}
use Rattle.graph_writer.specs.WriteRefusal.{twice_at}
use Rattle.graph_writer.proofs.positions.NumberSteps.{AreNumbers}
use Rattle.graph_writer.proofs.numbers.numbers_of.Given as goal

abbrev pub invariant-loop-number : goal.invariant-loop-number
invariant-loop-number g l = record {
  numbers : AreNumbers (new_ids l.commits) l.number (get (pointwise nat_eq) l.numbers);
  once : first_below (twice_at l.commits) l.number ≡ None;
}
