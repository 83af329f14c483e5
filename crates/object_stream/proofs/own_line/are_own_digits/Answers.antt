use Rattle.object_stream.proofs.SpelledLemmas.{bytes_expected, lower_spelled}
use Rattle.object_stream.proofs.own_line.are_own_digits.Goals as goal

pub returns-in-Some-clause-lower : goal.returns-in-Some-clause-lower
returns-in-Some-clause-lower c = λ yes.
    lower_spelled c.args.text.now _ (c.spells.ensures.same.0 yes) (c.spells.ensures.id yes)

pub returns-in-Some-clause-bytes : goal.returns-in-Some-clause-bytes
returns-in-Some-clause-bytes c = λ yes.
    bytes_expected c.args.expected.now _ _ c.args.text.now c.in-Some.is c.as_oid.ensures (c.spells.ensures.id yes)
