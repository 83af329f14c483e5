-- What is written is the text of what is found, or of why it is refused.
use Rattle.std.proofs.Common.{refl}
use Rattle.std.specs.Prelude.{Ok, Err}
use Rattle.gix_commitgraph.specs.Headline.{Stats}
use Rattle.history_commands.specs.Check.{AreFindings, Findings}
use Rattle.history_commands.proofs.check.run_check.Goals as goal

pub returns-in_ok-write_findings-in-Ok-clause-written : goal.returns-in_ok-write_findings-in-Ok-clause-written
returns-in_ok-write_findings-in-Ok-clause-written g c =
    let layers = c.in-Ok.graph.layers in
    let outcome = c.outcome-in-Ok.result.now in
    let statistics : Stats layers outcome = rw c.as_checked.ensures.same at c.outcome-in-Ok.ensures in
    let findings : Findings = record { outcome = outcome; chunks = c.in-Ok.chunks } in
    let are : AreFindings layers findings = record {
      right = c.as_checked.ensures.right.sound;
      statistics = statistics;
      ascending = c.in_ok-write_findings-in-Ok.ensures.ascending;
      chunks = c.in-Ok.ensures.chunks;
    } in
    (Ok findings, (layers, c.in-Ok.ensures.opened, are), c.in_ok-write_findings-in-Ok.ensures.written, refl)

pub returns-in_ok-write_line-in-Err-clause-written : goal.returns-in_ok-write_line-in-Err-clause-written
returns-in_ok-write_line-in-Err-clause-written g c =
    (Err c.in-Err.refusal, c.in-Err.ensures.refused, c.in_ok-write_line-in-Err.ensures.written, refl)
