-- There is just one other id.
use Rattle.std.proofs.Common.{◌≡◌, ◌∷◌, [], ℕ, List, map, string_bytes, subst, arith}
use Rattle.historytool.specs.HistorytoolCommands.{AreQuestionWords}
use Rattle.historytool.proofs.WordsLemmas.{one_word, two_words}
use Rattle.historytool.proofs.command.Pair.of.Goals as goal

pub returns-in-len1-clause-some : goal.returns-in-len1-clause-some
returns-in-len1-clause-some c name =
    let words = c.in_ok-graph.field-0 in
    let one = one_word words.others.now c.second-item.result (omega arith) (omega arith) c.second-item.is in
    let ids : map string_bytes words.others.now ≡ c.deref.result.now ∷ [] = cc (one, c.deref.ensures) in
    subst (λ (others : List (List ℕ)). AreQuestionWords name words.graph (words.first.now ∷ others)
    (name ∷ c.args.path.now ∷ c.args.first.now ∷ map string_bytes c.args.others.now)) ids (c.in_ok-graph.ensures.some name)

pub returns-in_default-clause-none : goal.returns-in_default-clause-none
returns-in_default-clause-none c none name graph one other asks =
    let words = c.in_ok-graph.field-0 in
    let single =
    two_words name words.first.now one other words.graph graph words.others.now
    (name ∷ c.args.path.now ∷ c.args.first.now ∷ map string_bytes c.args.others.now) (c.in_ok-graph.ensures.some name) asks in
    omega (arith, single, c.in_default.len_at_least)
