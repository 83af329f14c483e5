-- The path follows alone, or the other option and a number before it.
use Rattle.std.proofs.Common.{arith, inl, inr}
use Rattle.historytool.proofs.WordsLemmas.{exact_count}
use Rattle.historytool.proofs.command.Command.exact_paths.Goals as goal

pub returns-in-empty-clause-other : goal.returns-in-empty-clause-other
returns-in-empty-clause-other c none standard trees at is =
    elim (exact_count standard trees at c.args.first.now c.args.others.now is) [
      | inl plain ↦ plain.0 c.in-text.is
      | inr limited ↦ omega (arith, limited.1, c.in-empty.len_below)
    ]
