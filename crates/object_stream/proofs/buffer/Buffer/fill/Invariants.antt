use Rattle.std.proofs.Common.{◌+◌, ◌-◌, length}
use Rattle.std.specs.Io.{StartsWith}
use Rattle.std.specs.Io.KnownBytes.{Keeps, prepend_known}
use Rattle.object_stream.proofs.buffer.Buffer.fill.Given as goal

abbrev pub invariant-loop-self : goal.invariant-loop-self
invariant-loop-self g l = record {
  kept : Keeps (prepend_known l.initial.self (g.R.Read.remaining l.initial.reader))
      (prepend_known l.self (g.R.Read.remaining l.reader));
  grows : StartsWith l.self l.initial.self;
}

abbrev pub decreases-loop-self : goal.decreases-loop-self
decreases-loop-self g l = l.place + l.more + 1 - length l.self
