-- An error is told as its verdict.
use Rattle.std.proofs.Common.{Ok}
use Rattle.newer_commands.specs.AskedReply.{listed_verdict}
use Rattle.newer_unchecked.proofs.TellLemmas.{error_told}
use Rattle.newer_unchecked.proofs.by_parts.told_of.Goals as goal

pub returns-in-Ok-2 : goal.returns-in-Ok-2
returns-in-Ok-2 c =
    let told = rw c.in-Ok-2.is at c.in_ok-verdict-in-Err.ensures.told in
    record {
      told = rw c.in-Err.is (error_told c.in-Err.error (Ok (listed_verdict c.in-Ok-2.verdict)) told);
      failed = tt;
    }
