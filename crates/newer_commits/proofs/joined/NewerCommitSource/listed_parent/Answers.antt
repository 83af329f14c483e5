use Rattle.std.proofs.Common.{◌≡◌, ◌<◌, ◌≤◌, ◌∙◌, ℕ, length, ap, arith, subst}
use Rattle.std.proofs.lemmas.Bool.{cond-true, eq-eqb}
use Rattle.std.proofs.lemmas.Result.{IfOk-weaker}
use Rattle.newer_commits.specs.Room.{AreFewEnough}
use Rattle.newer_commits.proofs.SourceLemmas.{base_word_told, base_words, newer_word_read}
use Rattle.newer_commits.proofs.joined.NewerCommitSource.listed_parent.Goals as goal

-- a word of the base
pub returns-then-pos-num_commits-clause-word : goal.returns-then-pos-num_commits-clause-word
returns-then-pos-num_commits-clause-word g c =
    let base = c.args.self.now.base in
    let top = c.args.self.now.commits in
    let known = g.S.CommitSource.known base in
    let n = g.S.CommitSource.count known in
    let layer = g.S.Base.layers (g.S.Base.facts base) in
    let p = c.args.pos.0 in
    let low : p < n = omega (arith, c.if-pos-num_commits.true, c.num_commits.ensures.count) in
    let few : AreFewEnough n (length top.commits) =
    subst (λ (k : ℕ). AreFewEnough k (length top.commits)) c.args.self.now.below
    (subst (λ (m : ℕ). AreFewEnough top.below m) c.len-newer.ensures.count c.len-newer.ensures.few) in
    let same = ap g.S.Base.layers (g.met.S.Base.follow c.listed_parent.new.self base c.listed_parent.ensures.known) in
    let at = c.requires.lies.0 low in
    let below : (q l : ℕ) → g.S.CommitSource.lies known q l → l < layer =
    λ q l there. omega (arith, c.num_layers-layers.ensures.below q l there, c.num_layers-layers.ensures.count) in
    IfOk-weaker c.listed_parent.result _ _ (λ word read.
    base_word_told n layer (g.S.CommitSource.is_listed known) (g.S.CommitSource.lies known) top
    (g.S.CommitSource.says c.listed_parent.new.self) c.args.self.now.below
    (λ b told. c.num_commits.ensures.told b (c.listed_parent.ensures.kept b told) ∙ c.num_commits.ensures.count)
    few below p low (g.S.Base.layers (g.S.Base.facts c.listed_parent.new.self)) same
    (g.S.CommitSource.words known c.args.layer) _ c.args.layer c.args.index word at
    (base_words n layer (g.S.CommitSource.is_listed known) (g.S.CommitSource.lies known) top
    (g.S.CommitSource.says c.listed_parent.new.self) c.args.self.now.below
    (λ b told. c.num_commits.ensures.told b (c.listed_parent.ensures.kept b told) ∙ c.num_commits.ensures.count)
    few below p low (g.S.CommitSource.words known c.args.layer) (length top.words) c.args.layer at) read)
    c.listed_parent.ensures.word

-- a word of the newer commits
pub returns-else-pos-num_commits-clause-word : goal.returns-else-pos-num_commits-clause-word
returns-else-pos-num_commits-clause-word g c =
    let base = c.args.self.now.base in
    let top = c.args.self.now.commits in
    let known = g.S.CommitSource.known base in
    let n = g.S.CommitSource.count known in
    let layer = g.S.Base.layers (g.S.Base.facts base) in
    let p = c.args.pos.0 in
    let above : n ≤ p = omega (arith, c.if-pos-num_commits.false, c.num_commits.ensures.count) in
    let here : c.args.layer ≡ layer = c.requires.lies.1 above in
    newer_word_read n layer (g.S.CommitSource.is_listed known) (g.S.CommitSource.lies known) top (g.S.CommitSource.says base)
    c.args.self.now.below
    (λ b told. c.num_commits.ensures.told b told ∙ c.num_commits.ensures.count)
    p above c.requires.pos c.len-newer.ensures.order c.args.index (c.requires.listed.1 above)
    _ c.args.layer (cond-true _ _ _ (eq-eqb c.args.layer layer here)) here c.word_at.result c.word_at.ensures
