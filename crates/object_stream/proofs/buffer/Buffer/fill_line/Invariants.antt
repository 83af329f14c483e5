use Rattle.std.proofs.Common.{◌-◌, length}
use Rattle.std.specs.Io.KnownBytes.{Keeps, prepend_known}
use Rattle.object_stream.proofs.buffer.Buffer.fill_line.Given as goal

-- the bytes stay what they were, together with those that are left
abbrev pub invariant-loop-self : goal.invariant-loop-self
invariant-loop-self g l =
    Keeps (prepend_known l.initial.self (g.R.Read.remaining l.initial.reader))
    (prepend_known l.self (g.R.Read.remaining l.reader))

abbrev pub decreases-loop-self : goal.decreases-loop-self
decreases-loop-self g l = 93 - length l.self
