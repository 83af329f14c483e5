use Rattle.std.proofs.Common.{false, rules}
use Rattle.gix_commitgraph.specs.Sound.{Sound}
use Rattle.graph_commands.specs.OpenerAnswer.{MayOpen}
use Rattle.graph_commands.proofs.CheckAnswers.{sound-plain, writes_check, writes_unopened}
use Rattle.graph_commands.proofs.run.run_verify.Goals as goal

pub returns-in-Ok-clause-written : goal.returns-in-Ok-clause-written
returns-in-Ok-clause-written g c =
    let layers = c.in-Ok.graph in
    let check = c.verify_integrity-answer in
    let opens = MayOpen (g.T.Folder.tree c.args.folder.now) c.args.path.now (g.T.Folder.failure_count c.args.folder.now)
    (g.T.Folder.failure_count c.open_in.new.folder) in
    writes_check _ (record { distinct_ids = false }) layers _ _ (λ h k p e called. search rules)
    (Sound layers) opens check.result _ _ _ (sound-plain layers) (λ s. s.sound)
    (c.in-Ok.ensures.opens, c.in-Ok.ensures.graph, c.in-Ok.ensures.device) check.ensures.agrees check.ensures.sound
    check.ensures.statistics check.ensures.outcome c.write_answer.ensures.found c.write_answer.ensures.refused

pub returns-in-Err-clause-written : goal.returns-in-Err-clause-written
returns-in-Err-clause-written g c =
    let opens = MayOpen (g.T.Folder.tree c.args.folder.now) c.args.path.now (g.T.Folder.failure_count c.args.folder.now)
    (g.T.Folder.failure_count c.open_in.new.folder) in
    writes_unopened (record { distinct_ids = false }) opens c.in-Err.error _ _ _
    (c.in-Err.ensures.opens, c.in-Err.ensures.graph, c.in-Err.ensures.device) c.refuse.ensures
