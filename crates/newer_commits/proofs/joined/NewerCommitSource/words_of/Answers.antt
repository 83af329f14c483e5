use Rattle.std.proofs.Common.{◌<◌, ◌∙◌, arith, sym}
use Rattle.std.proofs.lemmas.Bool.{cond-false, ne_eqb}
use Rattle.newer_commits.proofs.joined.NewerCommitSource.words_of.Goals as goal

-- a layer of the base is not that of the newer commits
pub returns-then-pos-num_commits-clause-words : goal.returns-then-pos-num_commits-clause-words
returns-then-pos-num_commits-clause-words g c =
    let base = c.args.self.now.base in
    let low : c.args.pos.0 < g.S.CommitSource.count (g.S.CommitSource.known base) =
    omega (arith, c.if-pos-num_commits.true, c.num_commits.ensures.count) in
    let below = c.num_layers-layers.ensures.below c.args.pos.0 c.args.layer (c.requires.lies.0 low) in
    c.words_of.ensures.words
    ∙ sym (cond-false _ _ _ (ne_eqb c.args.layer (g.S.Base.layers (g.S.Base.facts base))
    (λ same. absurd (omega (arith, same, below, c.num_layers-layers.ensures.count)))))
