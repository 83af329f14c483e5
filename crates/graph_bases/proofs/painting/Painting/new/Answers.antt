use Rattle.std.proofs.Common.{heap_items, [], sym}
use Rattle.commit_search.specs.Positions.{numbers_of}
use Rattle.graph_bases.proofs.CoatLemmas.{candidates_none}
use Rattle.graph_bases.proofs.EdgeLemmas.{paint_none, waiting_none, ranked_none, visiting_none}
use Rattle.graph_bases.proofs.PassLemmas.{passed_none}
use Rattle.graph_bases.proofs.VisitCountLemmas.{count_none}
use Rattle.graph_bases.proofs.painting.Painting.new.Goals as goal

pub returns-clause-painting : goal.returns-clause-painting
returns-clause-painting g c =
    let coats = c.args.coats.all in
    let e = c.requires.idle in
    record {
      few = c.requires.few;
      coats_len = e.coats_len;
      counted = e.counted;
      waiting = waiting_none [] 0 [] coats e.bare _ (heap_items c.new.result) c.new.ensures.items c.new.ensures.heap_order;
      candidates = rw c.new-2.ensures.items (candidates_none coats e.bare);
      visits = count_none coats e.bare;
    }

pub returns-clause-told : goal.returns-clause-told
returns-clause-told g c = λ h k len.
    let a = c.args.first.0 in
    let bs = numbers_of c.args.others.now in
    let coats = c.args.coats.all in
    let e = c.requires.idle in
    record {
      paint = paint_none h a bs coats e.bare (sym len);
      ranked = ranked_none h a bs coats e.bare k (heap_items c.new.result) c.new.ensures.items;
      visiting = λ along below. visiting_none h a bs coats e.bare k;
    }

pub returns-clause-lists : goal.returns-clause-lists
returns-clause-lists g c = λ t l. passed_none _ _ _ (c.requires.idle.trails l)
