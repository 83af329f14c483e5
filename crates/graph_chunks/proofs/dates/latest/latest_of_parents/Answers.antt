use Rattle.std.proofs.Common.{sym, ap, ◌∙◌, arith}
use Rattle.graph_format.specs.Parents.{edge_of, second_parents}
use Rattle.graph_format.specs.declared.parents.ParentEdge.{ParentEdge}
use Rattle.graph_layer.specs.Commit.{commit_layer, commit_record}
use Rattle.graph_chunks.specs.Latest.{latest_of}
use Rattle.graph_chunks.proofs.LatestLemmas.{latest-both}
use Rattle.graph_chunks.proofs.dates.latest.latest_of_parents.Goals as goal

pub returns-in-GraphPosition-default : goal.returns-in-GraphPosition-default
returns-in-GraphPosition-default c =
    let dates = c.args.dates.now in
    let r = commit_record c.args.commit.now in
    let edges = (commit_layer c.args.commit.now).edges in
    let rest =
    c.latest_after_first.ensures edges c.requires
    ∙ ap (λ (edge : ParentEdge). latest_of dates (second_parents edge edges)) c.parent_edges.ensures.second in
    let both =
    latest-both dates (edge_of r.parent1) (edge_of r.parent2) edges c.in-GraphPosition-default.first
    c.latest_after_first.result (sym c.parent_edges.ensures.first ∙ c.in-GraphPosition-default.is-0) rest in
    omega (arith, both, c.max.ensures, c.date_at.ensures)
