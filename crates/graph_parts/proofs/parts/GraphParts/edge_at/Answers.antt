-- More is read of the layer.
use Rattle.std.proofs.Common.{length, refl, ap, arith}
use Rattle.std.specs.Vec.{with_item}
use Rattle.std.proofs.lemmas.Option.{slice_get_read}
use Rattle.graph_find.specs.declared.chain.ChainLayer.{ChainLayer}
use Rattle.graph_parts.specs.PartFiles.{edge_count}
use Rattle.graph_parts.specs.ShownLayer.{IsLayerParts}
use Rattle.graph_parts.proofs.GivenLemmas.{given-set}
use Rattle.graph_parts.proofs.GraphPartLemmas.{edge-part, has-edge, new-edge, new-parts, new-sees, same-file}
use Rattle.graph_parts.proofs.ZipLemmas.{all-get, ok-some}
use Rattle.graph_parts.proofs.parts.GraphParts.edge_at.Goals as goal

pub index_mut-requires : goal.index_mut-requires
index_mut-requires g c =
    let has = has-edge c.args.self.now c.args.layer c.args.index c.requires.index in
    omega (arith, edge-part c.args.self.now c.args.layer has.0 has.1, c.args.self.now.layers.ok)

pub edge_at-requires-clause-parts : goal.edge_at-requires-clause-parts
edge_at-requires-clause-parts g c =
    let items = c.args.self.now.layers.items in
    let has = has-edge c.args.self.now c.args.layer c.args.index c.requires.index in
    let within = edge-part c.args.self.now c.args.layer has.0 has.1 in
    let here = slice_get_read items (length items) c.args.layer c.index_mut.result.now refl within c.index_mut.ensures.value in
    all-get IsLayerParts items c.args.layer c.index_mut.result.now c.requires.parts.each here

pub edge_at-requires-clause-index : goal.edge_at-requires-clause-index
edge_at-requires-clause-index g c =
    let items = c.args.self.now.layers.items in
    let has = has-edge c.args.self.now c.args.layer c.args.index c.requires.index in
    let within = edge-part c.args.self.now c.args.layer has.0 has.1 in
    let here = slice_get_read items (length items) c.args.layer c.index_mut.result.now refl within c.index_mut.ensures.value in
    let same = ap (λ (file : ChainLayer). edge_count file)
    (same-file (g.T.Folder.tree c.args.folder.now) c.args.self.now c.args.layer c.index_mut.result.now has.0 here has.1) in
    omega (arith, same, has.2)

pub returns-clause-parts : goal.returns-clause-parts
returns-clause-parts g c =
    let items = c.args.self.now.layers.items in
    let has = has-edge c.args.self.now c.args.layer c.args.index c.requires.index in
    let within = edge-part c.args.self.now c.args.layer has.0 has.1 in
    let here = slice_get_read items (length items) c.args.layer c.index_mut.result.now refl within c.index_mut.ensures.value in
    new-parts (g.T.Folder.tree c.args.folder.now) c.args.self.now
    (record { layers = with_item c.args.self.now.layers c.args.layer c.edge_at.new.self })
    c.args.layer c.index_mut.result.now c.edge_at.new.self
    (record {
      right = c.requires.parts;
      here = here;
      is = refl;
      sees = c.edge_at.ensures.sees;
      kept = c.edge_at.ensures.parts;
    })

pub returns-clause-sees : goal.returns-clause-sees
returns-clause-sees g c =
    let items = c.args.self.now.layers.items in
    let has = has-edge c.args.self.now c.args.layer c.args.index c.requires.index in
    let within = edge-part c.args.self.now c.args.layer has.0 has.1 in
    let here = slice_get_read items (length items) c.args.layer c.index_mut.result.now refl within c.index_mut.ensures.value in
    new-sees (g.T.Folder.tree c.args.folder.now) c.args.self.now
    (record { layers = with_item c.args.self.now.layers c.args.layer c.edge_at.new.self })
    c.args.layer c.index_mut.result.now c.edge_at.new.self
    (record {
      right = c.requires.parts;
      here = here;
      is = refl;
      sees = c.edge_at.ensures.sees;
      kept = c.edge_at.ensures.parts;
    })

pub returns-clause-says : goal.returns-clause-says
returns-clause-says g c =
    let items = c.args.self.now.layers.items in
    let has = has-edge c.args.self.now c.args.layer c.args.index c.requires.index in
    let within = edge-part c.args.self.now c.args.layer has.0 has.1 in
    let here = slice_get_read items (length items) c.args.layer c.index_mut.result.now refl within c.index_mut.ensures.value in
    ok-some c.edge_at.result _ _
    (λ answer said.
    new-edge (g.T.Folder.tree c.args.folder.now) c.args.self.now
    (record { layers = with_item c.args.self.now.layers c.args.layer c.edge_at.new.self })
    c.args.layer c.index_mut.result.now c.edge_at.new.self
    (record {
      right = c.requires.parts;
      here = here;
      is = refl;
      sees = c.edge_at.ensures.sees;
      kept = c.edge_at.ensures.parts;
    })
    c.args.index answer said)
    c.edge_at.ensures.says

pub returns-clause-given : goal.returns-clause-given
returns-clause-given g c =
    let has = has-edge c.args.self.now c.args.layer c.args.index c.requires.index in
    let within = edge-part c.args.self.now c.args.layer has.0 has.1 in
    given-set g.T.Folder.gives_part c.args.self.now c.args.layer c.index_mut.result.now c.edge_at.new.self within
    c.index_mut.ensures.value c.edge_at.ensures.given
