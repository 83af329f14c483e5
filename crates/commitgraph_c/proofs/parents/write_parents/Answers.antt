use Rattle.std.proofs.Common.{◌∙◌, sym}
use Rattle.graph_format.specs.Parents.{edge_of}
use Rattle.graph_layer.specs.Commit.{commit_layer, commit_record}
use Rattle.commitgraph_c.proofs.FieldParents.{none_told, one_told, two_told}
use Rattle.commitgraph_c.proofs.parents.write_parents.Goals as goal

pub returns-in-None-None : goal.returns-in-None-None
returns-in-None-None c =
    let r = commit_record c.args.commit in
    let edges = c.parent_edges.ensures in
    none_told (edge_of r.parent1) (edge_of r.parent2) (commit_layer c.args.commit).edges c.args.out.now
    (sym edges.first ∙ c.in-None-None.is-0) (sym edges.second ∙ c.in-None-None.is-1)

pub returns-in-GraphPosition-None : goal.returns-in-GraphPosition-None
returns-in-GraphPosition-None c =
    let r = commit_record c.args.commit in
    let edges = c.parent_edges.ensures in
    let told = c.in-GraphPosition-None in
    rw c.write_at.ensures
    (one_told (edge_of r.parent1) (edge_of r.parent2) (commit_layer c.args.commit).edges c.args.out.now told.first
    (sym edges.first ∙ told.is-0) (sym edges.second ∙ told.is-1))

pub returns-in-GraphPosition-GraphPosition : goal.returns-in-GraphPosition-GraphPosition
returns-in-GraphPosition-GraphPosition c =
    let r = commit_record c.args.commit in
    let edges = c.parent_edges.ensures in
    let told = c.in-GraphPosition-GraphPosition in
    rw (c.write_at-in-GraphPosition-GraphPosition-2.ensures, c.write_at-in-GraphPosition-GraphPosition.ensures)
    (two_told (edge_of r.parent1) (edge_of r.parent2) (commit_layer c.args.commit).edges c.args.out.now told.first told.second
    (sym edges.first ∙ told.is-0) (sym edges.second ∙ told.is-1))
