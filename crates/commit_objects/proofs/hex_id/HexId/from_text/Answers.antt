use Rattle.hex.proofs.HexLemmas.{decode_of-ok}
use Rattle.commit_objects.proofs.LineLemmas.{spelled, spells_own}
use Rattle.commit_objects.proofs.hex_id.HexId.from_text.Goals as goal

pub invariant_of-result : goal.invariant_of-result
invariant_of-result c = spelled c.args.text.now c.requires (c.are_digits.ensures.0 c.if-are_digits.true)

pub returns-then-are_digits : goal.returns-then-are_digits
returns-then-are_digits c =
    let id = spelled c.args.text.now c.requires (c.are_digits.ensures.0 c.if-are_digits.true) in
    spells_own c.args.text.now id.0 id.1

pub returns-else-are_digits : goal.returns-else-are_digits
returns-else-are_digits c = λ id spells.
    let yes = c.are_digits.ensures.1 (decode_of-ok c.args.text.now id spells.1).1 in cc (yes, c.if-are_digits.false)
