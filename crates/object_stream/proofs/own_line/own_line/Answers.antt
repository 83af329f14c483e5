use Rattle.std.proofs.Common.{length, refl}
use Rattle.std.specs.Prelude.{Some}
use Rattle.std.proofs.lemmas.Bool.Decides.{Decides-eqb}
use Rattle.std.proofs.lemmas.Slice.Eq.{strip_prefix_is}
use Rattle.object_stream.proofs.OwnLineLemmas.{own_found}
use Rattle.object_stream.proofs.own_line.own_line.Goals as goal

pub returns-then-are_own_digits-clause-found : goal.returns-then-are_own_digits-clause-found
returns-then-are_own_digits-clause-found c =
    let tail = c.in-Some.tail.now in
    let text = c.in-Some-strip_prefix.text in
    let number = c.in-Some-size_before_feed.ensures.read in
    own_found c.args.kind c.args.object_type c.len_in_bytes-id_digits.result c.args.bytes.now c.in-Some.digits.now tail
    c.spaced_word-word.result.now
    text.now number.0 (length c.spaced_word-word.result.now)
    c.in-Some-size_before_feed.size_digits c.in-Some-size_before_feed.size c.len_in_bytes-id_digits.ensures
    c.in-Some.ensures.cases
    (c.are_own_digits.ensures.lower c.if-are_own_digits.true)
    c.spaced_word-word.ensures refl
    (strip_prefix_is Decides-eqb tail c.spaced_word-word.result.now (Some text) c.in-Some-strip_prefix.ensures.cases)
    number.1 c.in-Some-size_before_feed.ensures.fits number.2
