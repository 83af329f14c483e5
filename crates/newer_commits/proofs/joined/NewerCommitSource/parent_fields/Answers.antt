use Rattle.std.proofs.Common.{◌-◌, ◌∙◌, ℕ, length, ap, arith, subst}
use Rattle.std.proofs.lemmas.Result.{IfOk-weaker}
use Rattle.newer_commits.specs.Room.{AreFewEnough}
use Rattle.newer_commits.specs.KeptCommits.{AreFieldsOnTop}
use Rattle.newer_commits.specs.CommitsOnTop.{nodes_on_top}
use Rattle.graph_walks.specs.History.{parents_at}
use Rattle.newer_commits.proofs.SourceLemmas.{base_fields_told, newer_fields_read}
use Rattle.newer_commits.proofs.joined.NewerCommitSource.parent_fields.Goals as goal

-- a commit of the base
pub returns-then-pos-num_commits-clause-fields : goal.returns-then-pos-num_commits-clause-fields
returns-then-pos-num_commits-clause-fields g c =
    let base = c.args.self.now.base in
    let top = c.args.self.now.commits in
    let known = g.S.CommitSource.known base in
    let n = g.S.CommitSource.count known in
    let layer = g.S.Base.layers (g.S.Base.facts base) in
    let few : AreFewEnough n (length top.commits) =
    subst (λ (k : ℕ). AreFewEnough k (length top.commits)) c.args.self.now.below
    (subst (λ (m : ℕ). AreFewEnough top.below m) c.len-newer.ensures.count c.len-newer.ensures.few) in
    let same = ap g.S.Base.layers (g.met.S.Base.follow c.parent_fields.new.self base c.parent_fields.ensures.known) in
    IfOk-weaker c.parent_fields.result _ _ (λ fields read.
    base_fields_told n layer (g.S.CommitSource.is_listed known) (g.S.CommitSource.lies known) top
    (g.S.CommitSource.says c.parent_fields.new.self) c.args.self.now.below
    (λ b told. c.num_commits.ensures.told b (c.parent_fields.ensures.kept b told) ∙ c.num_commits.ensures.count)
    few (λ p l at. omega (arith, c.num_layers-layers.ensures.below p l at, c.num_layers-layers.ensures.count))
    c.args.pos.0 (omega (arith, c.if-pos-num_commits.true, c.num_commits.ensures.count))
    (g.S.Base.layers (g.S.Base.facts c.parent_fields.new.self)) same fields read)
    c.parent_fields.ensures.fields

-- a newer commit
pub returns-else-pos-num_commits-clause-fields : goal.returns-else-pos-num_commits-clause-fields
returns-else-pos-num_commits-clause-fields g c =
    let base = c.args.self.now.base in
    let top = c.args.self.now.commits in
    let known = g.S.CommitSource.known base in
    let n = g.S.CommitSource.count known in
    let layer = g.S.Base.layers (g.S.Base.facts base) in
    let p = c.args.pos.0 in
    let are : AreFieldsOnTop top (p - n) (parents_at (nodes_on_top top) (p - n)) c.fields_at.result =
    subst (λ (k : ℕ). AreFieldsOnTop top (p - k) (parents_at (nodes_on_top top) (p - k)) c.fields_at.result) c.args.self.now.below
    c.fields_at.ensures in
    newer_fields_read n layer (g.S.CommitSource.is_listed known) (g.S.CommitSource.lies known) top (g.S.CommitSource.says base)
    c.args.self.now.below
    (λ b told. c.num_commits.ensures.told b told ∙ c.num_commits.ensures.count)
    p (omega (arith, c.if-pos-num_commits.false, c.num_commits.ensures.count)) c.requires c.fields_at.result are
