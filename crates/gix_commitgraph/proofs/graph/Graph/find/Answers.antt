use Rattle.std.proofs.Common.{◌<◌, length, subst, arith}
use Rattle.std.proofs.lemmas.Option.{slice_get_within}
use Rattle.gix_hash_core.specs.Oid.{oid_bytes}
use Rattle.gix_commitgraph.specs.Graph.{IsGraph}
use Rattle.gix_commitgraph.proofs.layers.LayerListLemmas.{counted-fits, graph_commits-counted, graph_ids-counted}
use Rattle.gix_commitgraph.proofs.layers.LayerStartLemmas.{start-kept, layer-kept}
use Rattle.gix_commitgraph.proofs.lookup.GraphLookupLemmas.{missed-none, missed-more}
use Rattle.gix_commitgraph.proofs.lookup.DuplicateLemmas.{take-layer, found-below, none-below}
use Rattle.gix_commitgraph.proofs.graph.Graph.find.Goals as goal

pub loop-below-init : goal.loop-below-init
loop-below-init c = missed-none _ (oid_bytes c.args.id)

pub loop-below-preserved : goal.loop-below-preserved
loop-below-preserved c =
    let layers = c.args.self.now in
    let at = c.loop-below.below in
    let within : at < length layers = omega arith in
    let here =
    layer-kept layers c.self.inside.files.items at c.index-file.result.now c.self.view_is within c.index-file.ensures in
    missed-more _ (oid_bytes c.args.id) at c.index-file.result.now c.loop-below.invariant
    (take-layer layers c.args.layer at c.index-file.result.now c.requires.layer c.loop-below-test.true here) c.in_default.ensures

pub returns-in-Some : goal.returns-in-Some
returns-in-Some c =
    let layers = c.args.self.now in
    let at = c.loop-below.below in
    let within : at < length layers = omega arith in
    let here =
    layer-kept layers c.self.inside.files.items at c.index-file.result.now c.self.view_is within c.index-file.ensures in
    let first =
    start-kept layers c.self.inside.files.items c.self.inside.starts.items at c.index-start.result.now c.self.view_is
    c.self.invariant within c.index-start.ensures in
    let place : c.in-Some.pos.0 < length c.index-file.result.now.ids =
    slice_get_within c.index-file.result.now.ids c.in-Some.pos.0 _ c.in-Some.ensures.holds in
    record {
      found = found-below layers c.args.layer at c.index-start.result.now c.in-Some.pos.0 c.index-file.result.now
          (oid_bytes c.args.id)
          c.requires.layer c.loop-below-test.true c.loop-below.invariant here first c.in-Some.ensures;
      commit =
          graph_commits-counted layers at c.index-start.result.now c.in-Some.pos.0 c.index-file.result.now first here place;
      id = graph_ids-counted layers at c.index-start.result.now c.in-Some.pos.0 c.index-file.result.now (oid_bytes c.args.id)
          first here c.in-Some.ensures.holds;
      holds = c.in-Some.ensures.holds;
      within = place;
      few =
          omega (
            arith,
            place,
            counted-fits layers at c.index-start.result.now c.index-file.result.now
                (subst IsGraph c.self.view_is c.self.invariant.graph) first here,
          );
    }

pub returns-clause-found : goal.returns-clause-found
returns-clause-found c =
    none-below c.args.self.now c.args.layer c.loop-below.below (oid_bytes c.args.id) c.requires.layer (omega arith)
    c.loop-below.invariant
