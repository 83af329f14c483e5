-- The files so far were put on, and the others are left.
use Rattle.std.proofs.Common.{◌≡◌, List, ◌++◌}
use Rattle.std.specs.Vec.Iter.{into_iter_items}
use Rattle.graph_format.specs.Layer.{Layer}
use Rattle.gix_commitgraph.specs.Graph.{IsGraph}
use Rattle.graph_history.proofs.owned.put_on.Given as goal

abbrev pub invariant-loop-file : goal.invariant-loop-file
invariant-loop-file l =
    (done : List Layer) × (l.graph ≡ l.fn.graph ++ done) × (done ++ into_iter_items l.file-iterator ≡ l.fn.files.items)
    × IsGraph l.graph
