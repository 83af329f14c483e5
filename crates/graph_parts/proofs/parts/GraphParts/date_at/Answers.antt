-- More is read of the layer in which the position lies.
use Rattle.std.proofs.Common.{arith}
use Rattle.graph_parts.proofs.GivenLemmas.{given-set}
use Rattle.graph_parts.proofs.GraphPartLemmas.{new-date, new-parts, new-sees, part-of, reads-spot, spot-left, spot-part}
use Rattle.graph_parts.proofs.ZipLemmas.{ok-some}
use Rattle.graph_parts.proofs.parts.GraphParts.date_at.Goals as goal

pub index_mut-requires : goal.index_mut-requires
index_mut-requires g c =
    let spot = c.spot_of-spot.result in
    omega (
      arith,
      part-of c.args.self.now c.args.pos.0 spot.layer spot.pos c.spot_of-spot.ensures,
      c.args.self.now.layers.ok,
    )

pub date_at-requires-clause-parts : goal.date_at-requires-clause-parts
date_at-requires-clause-parts g c =
    spot-part (g.T.Folder.tree c.args.folder.now) c.args.self.now c.args.pos.0 c.spot_of-spot.result c.index_mut.result.now
    c.requires.parts c.spot_of-spot.ensures c.index_mut.ensures.value

pub date_at-requires-clause-pos : goal.date_at-requires-clause-pos
date_at-requires-clause-pos g c =
    spot-left (g.T.Folder.tree c.args.folder.now) c.args.self.now c.args.pos.0 c.spot_of-spot.result c.index_mut.result.now
    c.requires.parts c.spot_of-spot.ensures c.index_mut.ensures.value

pub returns-clause-parts : goal.returns-clause-parts
returns-clause-parts g c =
    let known = g.T.Folder.tree c.args.folder.now in
    new-parts known c.args.self.now _ c.spot_of-spot.result.layer c.index_mut.result.now c.date_at.new.self
    (reads-spot known c.args.self.now c.args.pos.0 c.spot_of-spot.result c.index_mut.result.now c.requires.parts
    c.spot_of-spot.ensures c.index_mut.ensures.value c.date_at.new.self c.date_at.ensures.sees c.date_at.ensures.parts)

pub returns-clause-sees : goal.returns-clause-sees
returns-clause-sees g c =
    let known = g.T.Folder.tree c.args.folder.now in
    new-sees known c.args.self.now _ c.spot_of-spot.result.layer c.index_mut.result.now c.date_at.new.self
    (reads-spot known c.args.self.now c.args.pos.0 c.spot_of-spot.result c.index_mut.result.now c.requires.parts
    c.spot_of-spot.ensures c.index_mut.ensures.value c.date_at.new.self c.date_at.ensures.sees c.date_at.ensures.parts)

pub returns-clause-stores : goal.returns-clause-stores
returns-clause-stores g c =
    let known = g.T.Folder.tree c.args.folder.now in
    let spot = c.spot_of-spot.result in
    ok-some c.date_at.result _ _
    (λ answer said.
    new-date known c.args.self.now _ spot.layer c.index_mut.result.now c.date_at.new.self
    (reads-spot known c.args.self.now c.args.pos.0 spot c.index_mut.result.now c.requires.parts c.spot_of-spot.ensures
    c.index_mut.ensures.value c.date_at.new.self c.date_at.ensures.sees c.date_at.ensures.parts)
    c.args.pos.0 spot.pos c.spot_of-spot.ensures answer said)
    c.date_at.ensures.date

pub returns-clause-given : goal.returns-clause-given
returns-clause-given g c =
    let spot = c.spot_of-spot.result in
    given-set g.T.Folder.gives_part c.args.self.now spot.layer c.index_mut.result.now c.date_at.new.self
    (part-of c.args.self.now c.args.pos.0 spot.layer spot.pos c.spot_of-spot.ensures) c.index_mut.ensures.value
    c.date_at.ensures.given
