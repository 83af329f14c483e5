use Rattle.std.proofs.Common.{◌*◌, arith, length}
use Rattle.commit_objects.proofs.LineLemmas.{cut_behind, too_few, no_feed, no_digits, is_line, as_many_digits}
use Rattle.commit_objects.proofs.line.split_id_line.Goals as goal

pub returns-in_default-split_at_checked : goal.returns-in_default-split_at_checked
returns-in_default-split_at_checked c =
    too_few c.args.kind c.args.word.now c.args.bytes.now c.in-Some.line.now c.in-Some.ensures.cases
    (grind (arith, c.in_default-split_at_checked.ensures))

pub returns-in_default-behind_word : goal.returns-in_default-behind_word
returns-in_default-behind_word c =
    let cut = c.in-Some-split_at_checked in
    let whole =
    cut_behind c.args.word.now c.args.bytes.now c.in-Some.line.now cut.digits.now cut.end.now (2 * c.len_in_bytes.result)
    c.in-Some.ensures.cases cut.ensures.cases in
    no_feed c.args.kind c.args.word.now c.args.bytes.now cut.digits.now cut.end.now whole (grind (arith, cut.ensures.cases))
    c.in_default-behind_word.ensures.cases

pub from_text-requires : goal.from_text-requires
from_text-requires c =
    as_many_digits c.args.kind (length c.in-Some-split_at_checked.digits.now)
    (grind (arith, c.in-Some-split_at_checked.ensures.cases))

pub returns-in_default-from_text : goal.returns-in_default-from_text
returns-in_default-from_text c =
    let cut = c.in-Some-split_at_checked in
    let whole =
    cut_behind c.args.word.now c.args.bytes.now c.in-Some.line.now cut.digits.now cut.end.now (2 * c.len_in_bytes.result)
    c.in-Some.ensures.cases cut.ensures.cases in
    no_digits c.args.kind c.args.word.now c.args.bytes.now cut.digits.now cut.end.now whole
    (grind (arith, cut.ensures.cases)) c.in_default-from_text.ensures

pub returns : goal.returns
returns c =
    let cut = c.in-Some-split_at_checked in
    let whole =
    cut_behind c.args.word.now c.args.bytes.now c.in-Some.line.now cut.digits.now cut.end.now (2 * c.len_in_bytes.result)
    c.in-Some.ensures.cases cut.ensures.cases in
    is_line c.args.kind c.args.word.now c.args.bytes.now cut.digits.now cut.end.now c.in-Some-from_text.id
    c.in-Some-behind_word.next.now whole (grind (arith, cut.ensures.cases)) c.in-Some-behind_word.ensures.cases
    c.in-Some-from_text.ensures
