use Rattle.std.proofs.Common.{◌≡◌, map, rules, append-nil, append_assoc}
use Rattle.std.specs.Map.Iter.{deref_pair}
use Rattle.std.proofs.lemmas.Map.Iter.{iter_end}
use Rattle.graph_commands.specs.Report.{ok_line, count_line}
use Rattle.graph_commands.proofs.Appended.{appends_line, appends_same}
use Rattle.graph_commands.proofs.report.write_outcome.Goals as goal

pub loop-parents-init : goal.loop-parents-init
loop-parents-init g c =
    rw (append-nil (ok_line c.args.outcome.now))
    (appends_same _ (ok_line c.args.outcome.now) _ _ (simp append_assoc) c.in_ok-write_line.ensures.written)

pub loop-parents-preserved : goal.loop-parents-preserved
loop-parents-preserved g c =
    appends_line deref_pair count_line (ok_line c.args.outcome.now) c.loop-parents.yielded
    (c.in-Some.parents, c.in-Some.commits) _ _ _ c.loop-parents.invariant
    (appends_same _ (count_line (c.in-Some.parents.now, c.in-Some.commits.now)) _ _ (simp append_assoc)
    c.in_ok-write_line-2.ensures.written)

pub returns-clause-written : goal.returns-clause-written
returns-clause-written g c =
    let all : map deref_pair c.loop-parents.yielded ≡ c.args.outcome.now.parent_counts.entries = search (rules, iter_end) in
    rw all at c.loop-parents.invariant
