use Rattle.std.proofs.Common.{◌∷◌, [], eq-eqb, ◌∙◌, eqb-true, sym, arith}
use Rattle.std.proofs.lemmas.Bool.{false≢true}
use Rattle.commit_search.proofs.KnownAnswerLemmas.{one_walk}
use Rattle.commit_search.proofs.RankedLemmas.{none_above_both, ranks_say_no}
use Rattle.commit_search.proofs.any.MarkSearcher.is_ancestor_by.Goals as goal

pub returns-then-eq-clause-yes : goal.returns-then-eq-clause-yes
returns-then-eq-clause-yes g c = λ t said found.
    let told = c.num_commits-commits.ensures.told t said in
    let p = c.args.descendant.0 in (
      p ∷ [],
      one_walk t.history p c.args.ancestor.0 (eqb-true _ _ (sym c.if-eq.ensures))
          (omega (arith, told, c.requires.descendant, c.num_commits-commits.ensures.count)),
      omega arith,
    )

pub returns-in_default-clause-no : goal.returns-in_default-clause-no
returns-in_default-clause-no g c = λ t said counts along reaches.
    absurd (ranks_say_no t.history (g.R.Ranks.ranking c.args.ranks.now t) c.args.descendant.0 c.args.ancestor.0 along
    ((rw c.in_default.is at c.in_ok-least.ensures.none) t said)
    (λ same. false≢true (c.if-eq.ensures ∙ eq-eqb _ _ same)) reaches)

pub returns-in_default-clause-above : goal.returns-in_default-clause-above
returns-in_default-clause-above g c = λ t said counts along no.
    none_above_both t.history (g.R.Ranks.ranking c.args.ranks.now t) c.args.descendant.0 c.args.ancestor.0 along
    ((rw c.in_default.is at c.in_ok-least.ensures.none) t said)
