-- One word follows the number.
use Rattle.std.proofs.Common.{arith, map, string_bytes}
use Rattle.historytool.proofs.WordsLemmas.{limited_count, limited_words, one_word}
use Rattle.historytool.proofs.command.Command.limited_paths.Goals as goal

pub returns-in-empty-clause-other : goal.returns-in-empty-clause-other
returns-in-empty-clause-other c none standard trees at is =
    let one = limited_count standard trees at c.args.number.now c.args.others.now is in omega (arith, one, c.in-empty.len_below)

pub returns-in_err-number_in-in-len1-clause-other : goal.returns-in_err-number_in-in-len1-clause-other
returns-in_err-number_in-in-len1-clause-other c none standard trees at is =
    let words = limited_words standard trees at c.args.number.now (map string_bytes c.args.others.now) is in
    c.in_err-number_in-in-len1.ensures words.0 words.2 words.1

pub returns-in_ok-number_in-in-len1-clause-asked : goal.returns-in_ok-number_in-in-len1-clause-asked
returns-in_ok-number_in-in-len1-clause-asked c help version =
    let one = one_word c.args.others.now c.path-item.result (omega arith) (omega arith) c.path-item.is in
    let path = c.deref.ensures in let number = c.in_ok-number_in-in-len1.ensures in (cc, omega arith)

pub returns-in_default-clause-other : goal.returns-in_default-clause-other
returns-in_default-clause-other c none standard trees at is =
    let one = limited_count standard trees at c.args.number.now c.args.others.now is in
    omega (arith, one, c.in_default.len_at_least)
