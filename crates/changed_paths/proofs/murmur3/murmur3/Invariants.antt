use Rattle.std.proofs.Common.{◌≡◌}
use Rattle.changed_paths.specs.Murmur3.{with_words}
use Rattle.changed_paths.proofs.murmur3.murmur3.Given as goal

abbrev pub invariant-loop-n : goal.invariant-loop-n
invariant-loop-n l = l.hash ≡ with_words l.reading l.seed l.bytes l.n
