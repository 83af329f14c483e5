-- The words of the pattern are all words.
use Rattle.std.proofs.Common.{◌∷◌, [], get_or, map, string_bytes, take, drop, length, ◌-◌, arith}
use Rattle.graph_commands.proofs.WordsLemmas.{are_three}
use Rattle.historytool.proofs.WordsLemmas.{asked_by_all, four_words}
use Rattle.historytool.proofs.command.Command.from_words.Goals as goal

pub returns-in-len3-clause-asked : goal.returns-in-len3-clause-asked
returns-in-len3-clause-asked c =
    let name = c.name-item-then-words-lt4 in
    let are = are_three c.args.words.now name.result c.path-item.result (omega arith) (omega arith) name.is c.path-item.is in
    asked_by_all c.args.texts.help.now c.args.texts.version.now (string_bytes (get_or c.args.words.now 0 name.result))
    (map string_bytes c.args.words.now) (string_bytes name.result ∷ string_bytes c.path-item.result ∷ []) c.of_path.result are
    (rw (c.deref-in-len3.ensures, c.deref-in-len3-2.ensures) at
    (c.of_path.ensures.asked c.args.texts.help.now c.args.texts.version.now))

pub returns-in-len4-up-clause-asked : goal.returns-in-len4-up-clause-asked
returns-in-len4-up-clause-asked c =
    let are = four_words c.args.words.now c.name-item-2.result c.path-item-2.result c.first-item.result (omega arith)
    c.name-item-2.is c.path-item-2.is c.first-item.is in
    asked_by_all c.args.texts.help.now c.args.texts.version.now
    (string_bytes (get_or c.args.words.now 0 c.name-item-2.result)) (map string_bytes c.args.words.now)
    (string_bytes c.name-item-2.result ∷ string_bytes c.path-item-2.result ∷ string_bytes c.first-item.result
    ∷ map string_bytes (take (length c.args.words.now - 4) (drop 4 c.args.words.now))) c.of_ids.result are
    (rw (c.deref-in-len4-up.ensures, c.deref-in-len4-up-2.ensures, c.deref-in-len4-up-3.ensures) at
    (c.of_ids.ensures.asked c.args.texts.help.now c.args.texts.version.now))
