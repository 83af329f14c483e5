use Rattle.std.proofs.Common.{◌∙◌, sym, arith}
use Rattle.commit_search.proofs.HashTableLemmas.{same_len}
use Rattle.commit_search.proofs.PlaceLemmas.{listed_more}
use Rattle.commit_search.proofs.places.fill.Goals as goal

pub loop-place-preserved : goal.loop-place-preserved
loop-place-preserved c =
    let l = c.loop-place in
    let puts = c.put.ensures.done c.if-not-put.false in
    record {
      len = same_len l.table.items c.put.new.table.items c.number_at.result l.place puts ∙ l.invariant.len;
      listed = listed_more l.table.items c.put.new.table.items c.number_at.result l.place puts c.args.numbers.now.items
          (omega (arith, c.loop-place-test.true, c.len-place-end.ensures)) (sym c.number_at.ensures) l.invariant.listed;
    }
