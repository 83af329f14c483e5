use Rattle.std.proofs.Common.{◌-◌, arith}
use Rattle.commit_search.proofs.AheadLemmas.{fields_ahead, number_ahead}
use Rattle.commit_search.proofs.search.Search.fields_at.Goals as goal

pub returns-then-place-ahead-clause-fields : goal.returns-then-place-ahead-clause-fields
returns-then-place-ahead-clause-fields g c =
    let ahead = c.args.ahead.now in
    fields_ahead _ _ _ _ c.args.self.now ahead (c.args.place - ahead.first) c.args.place c.index.result.now c.requires.ahead
    (omega (arith, c.if-place-ahead.true, c.len.ensures)) c.index.ensures (omega (arith, c.if-ahead-place.true))

pub returns-then-place-ahead-clause-number : goal.returns-then-place-ahead-clause-number
returns-then-place-ahead-clause-number g c =
    let ahead = c.args.ahead.now in
    let number = c.index-then-place-ahead in
    number_ahead _ _ _ _ c.args.self.now ahead (c.args.place - ahead.first) number.result.now c.index.result.now c.requires.ahead
    (omega (arith, c.if-place-ahead.true, c.len.ensures)) c.index.ensures number.ensures

pub returns-clause-fields : goal.returns-clause-fields
returns-clause-fields g c =
    let read = c.in_ok-read_from.ensures in
    fields_ahead _ _ _ _ c.args.self.now c.read_from.new.ahead 0 c.args.place c.index-2.result.now read.ahead read.some
    c.index-2.ensures (omega (arith, read.first))

pub returns-clause-number : goal.returns-clause-number
returns-clause-number g c =
    let read = c.in_ok-read_from.ensures in
    number_ahead _ _ _ _ c.args.self.now c.read_from.new.ahead 0 c.index-3.result.now c.index-2.result.now read.ahead read.some
    c.index-2.ensures c.index-3.ensures
