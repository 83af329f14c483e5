use Rattle.std.proofs.Common.{◌≡◌, ◌-◌, ◌∙◌, ℕ, ap, arith, length, sym}
use Rattle.std.proofs.lemmas.Result.{IfOk-weaker}
use Rattle.graph_walks.specs.History.{generation_at}
use Rattle.newer_commits.specs.CommitsOnTop.{nodes_on_top}
use Rattle.newer_commits.proofs.HistoryLemmas.{generation_above, generation_below}
use Rattle.newer_commits.proofs.newer.Newer.number_at.Goals as goal

pub returns-then-pos-num_commits-clause-number : goal.returns-then-pos-num_commits-clause-number
returns-then-pos-num_commits-clause-number g c =
    let top = c.args.self.now.commits in
    IfOk-weaker c.generation_number.result _ _ (λ number told t says.
    let size = c.num_commits.ensures.told t (c.generation_number.ensures.kept t says) in
    told t says
    ∙ sym (generation_below t.history (nodes_on_top top) c.args.pos.0 (omega (arith, size, c.if-pos-num_commits.true))))
    c.generation_number.ensures.number

pub returns-else-pos-num_commits-clause-number : goal.returns-else-pos-num_commits-clause-number
returns-else-pos-num_commits-clause-number g c =
    let top = c.args.self.now.commits in
    λ t says.
    let size = c.num_commits.ensures.told t says in
    let below : top.below ≡ length t.history = omega (arith, size, c.num_commits.ensures.count, c.args.self.now.below) in
    c.generation_at.ensures
    ∙ ap (λ (k : ℕ). generation_at (nodes_on_top top) (c.args.pos.0 - k)) below
    ∙ sym (generation_above t.history (nodes_on_top top) c.args.pos.0 (omega (arith, size, c.if-pos-num_commits.false)))
