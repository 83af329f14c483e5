use Rattle.std.proofs.Common.{◌∙◌, sym}
use Rattle.graph_format.specs.Parents.{edge_of}
use Rattle.graph_layer.specs.Commit.{commit_layer, commit_record}
use Rattle.commitgraph_c.proofs.FirstRoom.{none_first, one_first, two_first}
use Rattle.commitgraph_c.proofs.first_parents.write_some.Goals as goal

pub returns-in-None-None : goal.returns-in-None-None
returns-in-None-None c =
    let r = commit_record c.args.commit in
    let edges = c.parent_edges.ensures in
    none_first (edge_of r.parent1) (edge_of r.parent2) (commit_layer c.args.commit).edges c.args.out.now c.told.result
    (sym edges.first ∙ c.in-None-None.is-0) (sym edges.second ∙ c.in-None-None.is-1) c.told.ensures.count c.told.ensures.code

pub returns-in-GraphPosition-None : goal.returns-in-GraphPosition-None
returns-in-GraphPosition-None c =
    let r = commit_record c.args.commit in
    let edges = c.parent_edges.ensures in
    let told = c.in-GraphPosition-None in
    let answer = c.told-in-GraphPosition-None in
    rw c.write_at.ensures
    (one_first (edge_of r.parent1) (edge_of r.parent2) (commit_layer c.args.commit).edges c.args.out.now answer.result told.first
    (sym edges.first ∙ told.is-0) (sym edges.second ∙ told.is-1) answer.ensures.count answer.ensures.code)

pub returns-in-GraphPosition-GraphPosition : goal.returns-in-GraphPosition-GraphPosition
returns-in-GraphPosition-GraphPosition c =
    let r = commit_record c.args.commit in
    let edges = c.parent_edges.ensures in
    let told = c.in-GraphPosition-GraphPosition in
    let answer = c.told-in-GraphPosition-GraphPosition in
    rw (c.write_at-in-GraphPosition-GraphPosition-2.ensures, c.write_at-in-GraphPosition-GraphPosition.ensures)
    (two_first (edge_of r.parent1) (edge_of r.parent2) (commit_layer c.args.commit).edges c.args.out.now answer.result told.first
    told.second (sym edges.first ∙ told.is-0) (sym edges.second ∙ told.is-1) answer.ensures.count answer.ensures.code)
