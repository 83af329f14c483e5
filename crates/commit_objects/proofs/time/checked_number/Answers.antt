use Rattle.std.proofs.Common.{◌+◌, arith, sym, ◌∙◌, below_more}
use Rattle.commit_objects.proofs.TimeLemmas.{one_more_digit, number_ends, number_grows}
use Rattle.commit_objects.proofs.time.checked_number.Goals as goal

pub returns-in_err-number : goal.returns-in_err-number
returns-in_err-number c =
    let digit = sym c.is_ascii_digit.ensures.value ∙ c.if-not-is_ascii_digit.false in
    let more = one_more_digit c.args.bytes.now c.loop-byte.byte-index c.loop-byte-test.true digit in
    let all = number_grows c.args.bytes.now (c.loop-byte.byte-index + 1) (omega (arith, c.loop-byte-test.true))
    (below_more _ _ c.loop-byte.invariant.digits digit) in
    rw c.from_residual.ensures
    (λ small. c.in_err-number.ensures (omega (arith, more, all, c.loop-byte.invariant.number, small)))

pub loop-byte-preserved : goal.loop-byte-preserved
loop-byte-preserved c =
    let digit = sym c.is_ascii_digit.ensures.value ∙ c.if-not-is_ascii_digit.false in
    let more = one_more_digit c.args.bytes.now c.loop-byte.byte-index c.loop-byte-test.true digit in
    record {
      number = omega (arith, more, c.loop-byte.invariant.number, c.in_ok-number.ensures.1);
      fits = omega (arith, c.in_ok-number.ensures);
      digits = below_more _ _ c.loop-byte.invariant.digits digit;
    }

pub returns-after-loop-byte : goal.returns-after-loop-byte
returns-after-loop-byte c =
    let same = c.loop-byte.invariant.number
    ∙ number_ends c.args.bytes.now c.loop-byte.byte-index c.loop-byte.auto.byte-index-end c.loop-byte.invariant.digits
    (λ within. absurd (omega (arith, within, c.loop-byte-test.false))) in
    (omega (arith, same, c.loop-byte.invariant.fits), same)

pub returns-then-not-is_ascii_digit : goal.returns-then-not-is_ascii_digit
returns-then-not-is_ascii_digit c =
    let same = c.loop-byte.invariant.number
    ∙ number_ends c.args.bytes.now c.loop-byte.byte-index c.loop-byte.auto.byte-index-end c.loop-byte.invariant.digits
    (λ within. sym c.is_ascii_digit.ensures.value ∙ c.if-not-is_ascii_digit.true) in
    (omega (arith, same, c.loop-byte.invariant.fits), same)
