use Rattle.std.proofs.Common.{sym, ap, ◌∙◌, length, arith}
use Rattle.gix_chunk_core.proofs.FirstFaultLemmas.{first_below-none, first_below-none_more, first_below-found}
use Rattle.gix_commitgraph.specs.Graph.{graph_ids}
use Rattle.graph_format.specs.Lookup.{scan}
use Rattle.graph_writer.specs.WriteRefusal.{below_at}
use Rattle.graph_writer.proofs.positions.NewIdSteps.{id-at, below-from}
use Rattle.graph_writer.proofs.below.check_new.Goals as goal

pub loop-number-init : goal.loop-number-init
loop-number-init g c = first_below-none (below_at (graph_ids c.args.graph.now.layers) c.args.commits.now)

pub returns-in-Some : goal.returns-in-Some
returns-in-Some g c =
    let commits = c.args.commits.now in
    let ids = graph_ids c.args.graph.now.layers in
    let i = c.loop-number.number in
    let commit = c.at-commit.result in
    let here = c.at-commit.ensures in
    first_below-found (below_at ids commits) i (length commits) _ c.loop-number.invariant
    (below-from ids commits i commit.id _ (id-at commits i commit here)
    (ap (λ id. scan ids id) (sym c.id.ensures) ∙ sym c.in-Some.ensures.scanned)) (omega (arith, c.len-number-end.ensures))

pub loop-number-preserved : goal.loop-number-preserved
loop-number-preserved g c =
    let commits = c.args.commits.now in
    let ids = graph_ids c.args.graph.now.layers in
    let i = c.loop-number.number in
    let commit = c.at-commit.result in
    let here = c.at-commit.ensures in
    first_below-none_more (below_at ids commits) i c.loop-number.invariant
    (below-from ids commits i commit.id _ (id-at commits i commit here)
    (ap (λ id. scan ids id) (sym c.id.ensures) ∙ sym c.in-None.ensures.scanned))
