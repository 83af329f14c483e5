use Rattle.gix_commitgraph.proofs.layers.LayerStartLemmas.{IsKeptPlace, place-kept}
use Rattle.gix_commitgraph.proofs.graph.Graph.layer_at.Goals as goal

placed : (c : goal.After-index-2) → IsKeptPlace c.args.self.now c.args.pos.0 c.index.result.now c.index-2.result.now
placed c =
    place-kept c.args.self.now c.self.inside.files.items c.self.inside.starts.items c.args.pos.0 c.layer_of_counted-layer.result.0
    c.index.result.now c.index-2.result.now
    c.self.view_is c.self.invariant c.layer_of_counted-layer.ensures.layer c.index.ensures c.index-2.ensures
    c.layer_of_counted-layer.ensures.from c.layer_of_counted-layer.ensures.below

pub returns-clause-commit : goal.returns-clause-commit
returns-clause-commit c = (placed c).commit

pub returns-clause-id : goal.returns-clause-id
returns-clause-id c = (placed c).id

pub returns-clause-within : goal.returns-clause-within
returns-clause-within c = (placed c).within
