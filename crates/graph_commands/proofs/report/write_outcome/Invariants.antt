-- The line of the graph and the lines so far are written.
use Rattle.std.proofs.Common.{◌++◌, map}
use Rattle.std.specs.List.{flat_map}
use Rattle.std.specs.Map.Iter.{deref_pair}
use Rattle.std.specs.Io.KnownBytes.{Appends}
use Rattle.graph_commands.specs.Report.{count_line, ok_line}
use Rattle.graph_commands.proofs.report.write_outcome.Given as goal

abbrev pub invariant-loop-parents : goal.invariant-loop-parents
invariant-loop-parents g l =
    Appends (g.W.Write.contents l.fn.writer) (g.W.Write.contents l.writer)
    (ok_line l.outcome ++ flat_map count_line (map deref_pair l.yielded))
