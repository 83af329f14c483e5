use Rattle.graph_layer.specs.Commit.{commit_layer, commit_pos}
use Rattle.graph_layer.proofs.TraverseLemmas.{called_there, stopped_by_processor, refused_by_parents, passed_commit}
use Rattle.graph_layer.proofs.file.commit.Commit.check.Goals as goal

pub returns-in-Err-clause-agrees : goal.returns-in-Err-clause-agrees
returns-in-Err-clause-agrees g c =
    let commit = c.args.self.now in
    let called = called_there g.F.FnMut c.args.self _ _ _ c.in-Err.ensures in
    rw c.position-pos.ensures.value
    (stopped_by_processor g.F.FnMut (commit_layer commit) (commit_pos commit) c.args.processor.now c.in_default.ensures
    c.in-Err.error c.processor.new.self
    called)

pub returns-in-Ok-clause-agrees : goal.returns-in-Ok-clause-agrees
returns-in-Ok-clause-agrees g c =
    let commit = c.args.self.now in
    let called = called_there g.F.FnMut c.args.self _ _ _ c.in_default-processor.ensures in
    passed_commit g.F.FnMut (commit_layer commit) (commit_pos commit) c.args.processor.now c.in_default.ensures
    c.processor.new.self
    called c.in-Ok.ensures.1

pub returns-in-Err-count_parents_by-clause-agrees : goal.returns-in-Err-count_parents_by-clause-agrees
returns-in-Err-count_parents_by-clause-agrees g c =
    let commit = c.args.self.now in
    let called = called_there g.F.FnMut c.args.self _ _ _ c.in_default-processor.ensures in
    rw c.position-pos.ensures.value
    (refused_by_parents g.F.FnMut (commit_layer commit) (commit_pos commit) c.args.processor.now c.in_default.ensures
    c.processor.new.self
    called c.in-Err-count_parents_by.error c.in-Err-count_parents_by.ensures)
