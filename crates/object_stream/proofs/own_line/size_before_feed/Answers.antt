use Rattle.std.proofs.Common.{◌≤◌, arith, get_or, sym, ◌∙◌}
use Rattle.std.proofs.lemmas.Bool.Decides.{nat_tests}
use Rattle.object_stream.proofs.OwnLineLemmas.{one_more_read, feed_behind}
use Rattle.object_stream.proofs.own_line.size_before_feed.Goals as goal

pub returns-then-place-gt0-clause-read : goal.returns-then-place-gt0-clause-read
returns-then-place-gt0-clause-read c =
    feed_behind c.args.text.now c.loop-place.place c.loop-place.size (omega (arith, c.loop-place-test.true))
    c.loop-place.invariant (omega (arith, c.if-place-gt0.true)) c.if-byte-eq10.true

pub loop-place-preserved : goal.loop-place-preserved
loop-place-preserved c =
    let byte = get_or c.args.text.now c.loop-place.place 0 in
    let digit = sym c.is_ascii_digit.ensures.value ∙ c.if-not-is_ascii_digit.false in
    let low : 48 ≤ byte = grind (arith, nat_tests, digit) in
    let high : byte ≤ 57 = grind (arith, nat_tests, digit) in
    one_more_read c.args.text.now c.loop-place.place c.loop-place.size (omega (arith, c.loop-place-test.true))
    c.loop-place.invariant low high (c.may_grow.ensures.short c.if-not-may_grow.false)
    (c.may_grow.ensures.some c.if-not-may_grow.false)
