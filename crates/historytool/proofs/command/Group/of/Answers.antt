-- Behind `--newer` the first word is a path where it is no id.
use Rattle.std.proofs.Common.{◌∷◌, map, string_bytes, subst, sym}
use Rattle.historytool.specs.HistorytoolCommands.{AreQuestionWords, IsId}
use Rattle.historytool.specs.declared.command.AskedGraph.{AskedGraph}
use Rattle.historytool.proofs.WordsLemmas.{some_weaker}
use Rattle.historytool.proofs.command.Group.of.Goals as goal

pub returns-in-text-3-clause-some : goal.returns-in-text-3-clause-some
returns-in-text-3-clause-some c =
    let no_id : ¬ IsId c.args.first.now = λ is. let yes = c.is_id.ensures.1 is in let no = c.if-is_id.false in cc in
    some_weaker c.on.result (λ group told name.
    let option = c.in-text-2.is in let ids = told.2 in
    subst (λ (asked : AskedGraph). AreQuestionWords name asked (group.first.now ∷ map string_bytes group.others.now)
    (name ∷ c.args.path.now ∷ c.args.first.now ∷ map string_bytes c.args.others.now)) (sym told.0) (cc, no_id))
    c.on.ensures.some
