-- The lines of the ids so far are added.
use Rattle.std.specs.Prelude.{slice_range}
use Rattle.std.specs.List.{flat_map}
use Rattle.std.specs.Io.KnownBytes.{Appends}
use Rattle.gix_commitgraph.specs.Graph.{graph_ids}
use Rattle.graph_commands.specs.Buffer.{with_buffer}
use Rattle.object_commands.specs.CommitIds.{line_of_id}
use Rattle.object_commands.proofs.ids.write_ids.Given as goal

abbrev pub invariant-loop-number : goal.invariant-loop-number
invariant-loop-number g l =
    Appends (with_buffer (g.W.Write.contents l.fn.writer) l.fn.buffer) (with_buffer (g.W.Write.contents l.writer) l.buffer)
    (flat_map line_of_id (slice_range (graph_ids l.graph) l.fn.range.from l.number))
