-- The commits are those of the entries that were taken.
use Rattle.std.proofs.Common.{◌≡◌, length}
use Rattle.std.specs.Io.KnownBytes.{prepend_known}
use Rattle.write_commands.specs.NewEntries.{HasTaken}
use Rattle.write_commands.proofs.read.read_commits.Given as goal

abbrev pub invariant-loop-number : goal.invariant-loop-number
invariant-loop-number g l = record {
  counted : length l.commits.items ≡ l.number;
  taken : HasTaken l.kind l.commits.items (g.R.Read.remaining l.fn.reader) (prepend_known l.buffer (g.R.Read.remaining l.reader));
}
