use Rattle.std.proofs.Common.{◌*◌, arith}
use Rattle.gix_hash_core.specs.Oid.{oid_bytes}
use Rattle.commit_objects.proofs.LineLemmas.{cut_behind, is_line}
use Rattle.commit_objects.proofs.WrittenLemmas.{cut_as_written, too_few_written}
use Rattle.commit_objects.proofs.written.behind_line.Goals as goal

pub returns-in_default-split_at_checked-clause-none : goal.returns-in_default-split_at_checked-clause-none
returns-in_default-split_at_checked-clause-none c = λ none next.
    too_few_written c.args.kind c.args.word.now c.args.bytes.now c.in-Some.line.now (oid_bytes c.args.id) next
    c.in-Some.ensures.cases (grind (arith, c.in_default-split_at_checked.ensures))

pub returns-in_default-behind_word-clause-none : goal.returns-in_default-behind_word-clause-none
returns-in_default-behind_word-clause-none c = λ none next written.
    let cut = c.in-Some-split_at_checked in
    let whole =
    cut_behind c.args.word.now c.args.bytes.now c.in-Some.line.now cut.digits.now cut.end.now (2 * c.len_in_bytes.result)
    c.in-Some.ensures.cases cut.ensures.cases in
    c.in_default-behind_word.ensures.cases (
      next,
      (cut_as_written c.args.kind c.args.word.now c.args.bytes.now cut.digits.now cut.end.now (oid_bytes c.args.id) next
          whole (grind (arith, cut.ensures.cases)) written).1,
    )

pub returns-then-spells-clause-line : goal.returns-then-spells-clause-line
returns-then-spells-clause-line c =
    let cut = c.in-Some-split_at_checked in
    let whole =
    cut_behind c.args.word.now c.args.bytes.now c.in-Some.line.now cut.digits.now cut.end.now (2 * c.len_in_bytes.result)
    c.in-Some.ensures.cases cut.ensures.cases in
    is_line c.args.kind c.args.word.now c.args.bytes.now cut.digits.now cut.end.now (oid_bytes c.args.id)
    c.in-Some-behind_word.next.now whole (grind (arith, cut.ensures.cases)) c.in-Some-behind_word.ensures.cases
    (c.spells.ensures.id c.if-spells.true)

pub returns-else-spells-clause-none : goal.returns-else-spells-clause-none
returns-else-spells-clause-none c = λ none next written.
    let cut = c.in-Some-split_at_checked in
    let whole =
    cut_behind c.args.word.now c.args.bytes.now c.in-Some.line.now cut.digits.now cut.end.now (2 * c.len_in_bytes.result)
    c.in-Some.ensures.cases cut.ensures.cases in
    let yes = c.spells.ensures.same.1 (cut_as_written c.args.kind c.args.word.now c.args.bytes.now cut.digits.now cut.end.now
    (oid_bytes c.args.id) next whole (grind (arith, cut.ensures.cases)) written).0 in
    cc (yes, c.if-spells.false)
