-- The words of the pattern are all words.
use Rattle.std.proofs.Common.{get_or, string_bytes, arith}
use Rattle.graph_commands.proofs.WordsLemmas.{are_four, are_five}
use Rattle.graph_commands.proofs.command.Command.from_words.Goals as goal

pub returns-in-find-clause-asked : goal.returns-in-find-clause-asked
returns-in-find-clause-asked c =
    let name = c.name-item-then-words-lt5 in
    let path = c.path-item-then-words-lt5 in
    let are = are_four c.args.words.now name.result path.result c.hex-item.result (omega arith) (omega arith) name.is path.is
    c.hex-item.is in (
      string_bytes (get_or c.args.words.now 0 name.result),
      cc (c.as_str-in-len4.ensures.value, c.deref-in-find.ensures, c.deref-in-find-2.ensures),
    )

pub returns-in-ancestor-clause-asked : goal.returns-in-ancestor-clause-asked
returns-in-ancestor-clause-asked c =
    let name = c.name-item-then-words-lt6 in
    let path = c.path-item-then-words-lt6 in
    let are = are_five c.args.words.now name.result path.result c.first-item.result c.second-item.result (omega arith)
    (omega arith) name.is path.is c.first-item.is c.second-item.is in (
      string_bytes (get_or c.args.words.now 0 name.result),
      cc (
        c.as_str-in-len5.ensures.value,
        c.deref-in-ancestor.ensures,
        c.deref-in-ancestor-2.ensures,
        c.deref-in-ancestor-3.ensures,
      ),
    )
