use Rattle.std.proofs.Common.{◌+◌, ◌-◌, ◌*◌, length, take, drop, arith, ◌∙◌}
use Rattle.std.proofs.lemmas.List.{take_rest}
use Rattle.commit_objects.specs.CommitContents.{parent_word}
use Rattle.commit_objects.proofs.ParentLemmas.{first_there, digits_at, next_at, len_with_line, is_first}
use Rattle.commit_objects.proofs.line.first_parent.Goals as goal

pub returns-then-lines-end : goal.returns-then-lines-end
returns-then-lines-end c = λ id next line.
    omega (
      arith,
      len_with_line c.args.kind parent_word c.args.lines.now id next line,
      c.if-lines-end.true,
      c.len_in_bytes.ensures,
    )

pub of_digits-requires : goal.of_digits-requires
of_digits-requires c =
    let there = first_there c.args.kind c.requires.0 c.args.lines.now c.requires.1 (omega (arith, c.if-lines-end.false)) in
    let same = digits_at c.args.kind parent_word c.args.lines.now there.id there.next there.begins
    (7 + 2 * c.len_in_bytes.result - 7) (omega (arith, c.len_in_bytes.ensures)) in
    (there.id, rw same there.begins.spells)

pub returns : goal.returns
returns c =
    let lines = c.args.lines.now in
    let n = 7 + 2 * c.len_in_bytes.result - 7 in
    let place = 7 + 2 * c.len_in_bytes.result + 1 in
    let there = first_there c.args.kind c.requires.0 lines c.requires.1 (omega (arith, c.if-lines-end.false)) in
    is_first c.args.kind lines (take n (drop 7 lines)) c.of_digits.result (take (length lines - place) (drop place lines)) there
    (digits_at c.args.kind parent_word lines there.id there.next there.begins n (omega (arith, c.len_in_bytes.ensures)))
    (take_rest lines place
    ∙ next_at c.args.kind parent_word lines there.id there.next there.begins n place (omega (arith, c.len_in_bytes.ensures))
    (omega arith))
    c.of_digits.ensures
