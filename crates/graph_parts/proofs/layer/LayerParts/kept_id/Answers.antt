-- The piece is the id.
use Rattle.std.proofs.Common.{◌∙◌}
use Rattle.graph_parts.proofs.LayerPartLemmas.{shown-id}
use Rattle.graph_parts.proofs.layer.LayerParts.kept_id.Goals as goal

pub returns-clause-size : goal.returns-clause-size
returns-clause-size c = c.piece.ensures.size ∙ c.requires.parts.ids.size

pub returns-clause-id : goal.returns-clause-id
returns-clause-id c = λ known layer shows.
    shown-id known c.args.self.now layer c.requires.parts shows c.args.pos c.piece.result.now c.requires.pos
    (c.piece.ensures.piece shows.of.file shows.ids)
