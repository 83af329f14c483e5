-- Nothing is kept at first.
use Rattle.graph_parts.proofs.BlockLemmas.{nothing-kept, nothing-sized}
use Rattle.graph_parts.proofs.pieces.Pieces.new.Goals as goal

pub returns-clause-none : goal.returns-clause-none
returns-clause-none c =
    nothing-kept
    (record {
      series = c.args.series;
      left_alone = c.args.most_alone;
      alone = c.new.result;
      bytes = c.new-2.result;
      blocks = c.new-3.result;
    })
    c.new-3.ensures.items c.new.ensures

pub returns-clause-sized : goal.returns-clause-sized
returns-clause-sized c =
    nothing-sized
    (record {
      series = c.args.series;
      left_alone = c.args.most_alone;
      alone = c.new.result;
      bytes = c.new-2.result;
      blocks = c.new-3.result;
    })
    c.new-3.ensures.items c.new.ensures c.new-2.ensures.items
