-- The chunk lies in the file.
use Rattle.std.proofs.Common.{refl, arith}
use Rattle.graph_parts.proofs.LayerPartLemmas.{edges-lie}
use Rattle.graph_parts.proofs.layer.edges_in.Goals as goal

pub overflow_sub-result : goal.overflow_sub-result
overflow_sub-result c = (edges-lie c.args.head.now c.in-Some.chunk c.requires c.in-Some.is).0

pub returns-in-Some : goal.returns-in-Some
returns-in-Some c =
    let lie = edges-lie c.args.head.now c.in-Some.chunk c.requires c.in-Some.is in
    record {
      start = rw c.in-Some.is refl;
      size = refl;
      count = rw c.in-Some.is refl;
      fits = omega (arith, lie.0, lie.1);
    }
