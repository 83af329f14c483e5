use Rattle.std.proofs.Common.{arith}
use Rattle.graph_folder.proofs.FillLemmas.{filled-more}
use Rattle.graph_folder.proofs.folder.exact.fill.Goals as goal

pub loop-filled-preserved : goal.loop-filled-preserved
loop-filled-preserved g c = record {
  within = omega (arith, c.in-Ok.ensures.bound.0);
  given =
      filled-more _ _ _ c.loop-filled.filled _ c.in-Ok.count c.loop-filled.bytes c.read.new.buf c.loop-filled.invariant.within
      c.in-Ok.ensures.bound.0 c.loop-filled.invariant.given c.in-Ok.ensures.bytes.0;
}
