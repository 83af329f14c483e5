use Rattle.object_stream.proofs.SpelledLemmas.{bytes_expected}
use Rattle.object_stream.proofs.line.are_expected.Goals as goal

pub returns-in-Some-clause-bytes : goal.returns-in-Some-clause-bytes
returns-in-Some-clause-bytes c = λ yes.
    bytes_expected c.args.expected.now _ _ c.args.digits.now c.in-Some.is c.as_oid.ensures (c.spells.ensures.id yes)
