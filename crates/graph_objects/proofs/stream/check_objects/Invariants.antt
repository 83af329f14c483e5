use Rattle.std.specs.Io.KnownBytes.{prepend_known}
use Rattle.graph_objects.proofs.StreamLemmas.{Passed}
use Rattle.graph_objects.proofs.stream.check_objects.Given as goal

abbrev pub invariant-loop-number : goal.invariant-loop-number
invariant-loop-number g l =
    Passed l.graph l.from l.number (g.R.Read.remaining l.initial.reader) (prepend_known l.buffer (g.R.Read.remaining l.reader))
