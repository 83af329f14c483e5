-- The first word is a path where it is no id.
use Rattle.std.proofs.Common.{◌≡◌, ◌∷◌, ℕ, List, ap, map, string_bytes, subst, sym}
use Rattle.std.specs.Prelude.{codes}
use Rattle.historytool.specs.HistorytoolCommands.{AreQuestionWords, IsId}
use Rattle.historytool.specs.declared.command.AskedGraph.{AskedGraph}
use Rattle.historytool.proofs.WordsLemmas.{first_word, some_weaker}
use Rattle.historytool.proofs.command.Group.newer_unchecked.Goals as goal

pub returns-else-is_id-clause-some : goal.returns-else-is_id-clause-some
returns-else-is_id-clause-some c =
    let words = c.args.words.now in
    let all = first_word words c.path-item.result c.in-len1-up.len_at_least c.path-item.is in
    let same : c.deref-else-is_id.result.now ≡ c.deref.result.now = cc (c.deref.ensures, c.deref-else-is_id.ensures) in
    let no_id : ¬ IsId c.deref-else-is_id.result.now = λ is.
    let yes = c.is_id.ensures.1 (subst IsId same is) in let no = c.if-is_id.false in cc in
    some_weaker c.on.result (λ group told name.
    let ids = told.2 in
    let are : map string_bytes words ≡ c.deref-else-is_id.result.now ∷ group.first.now ∷ map string_bytes group.others.now =
    cc (all, c.deref-else-is_id.ensures, ids) in
    subst (λ (asked : AskedGraph). AreQuestionWords name asked (group.first.now ∷ map string_bytes group.others.now)
    (name ∷ codes "--unchecked" ∷ codes "--newer" ∷ map string_bytes words)) (sym told.0)
    (ap (λ (more : List (List ℕ)). name ∷ codes "--unchecked" ∷ codes "--newer" ∷ more) are, no_id)) c.on.ensures.some
