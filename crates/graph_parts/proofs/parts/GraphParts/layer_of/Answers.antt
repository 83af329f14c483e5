-- It is the layer of the spot.
use Rattle.graph_parts.proofs.GraphPartLemmas.{spot-lies}
use Rattle.graph_parts.proofs.parts.GraphParts.layer_of.Goals as goal

pub returns-clause-shown : goal.returns-clause-shown
returns-clause-shown c =
    spot-lies c.args.self.now c.args.pos.0 c.spot_of.result.layer c.spot_of.result.pos c.requires.parts c.spot_of.ensures

pub returns-clause-file : goal.returns-clause-file
returns-clause-file c = (c.spot_of.result.pos, c.spot_of.ensures)
