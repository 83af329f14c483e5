use Rattle.std.proofs.Common.{arith, inl, inr}
use Rattle.std.proofs.lemmas.Result.{IfOk-weaker}
use Rattle.newer_commits.proofs.newer.Newer.id_at.Goals as goal

pub returns-then-pos-num_commits-clause-id : goal.returns-then-pos-num_commits-clause-id
returns-then-pos-num_commits-clause-id g c =
    IfOk-weaker c.id_at.result _ _
    (λ id has. inl (omega (arith, c.if-pos-num_commits.true, c.num_commits.ensures.count, c.args.self.now.below), has))
    c.id_at.ensures.id

pub returns-else-pos-num_commits-clause-id : goal.returns-else-pos-num_commits-clause-id
returns-else-pos-num_commits-clause-id g c = inr c.id_at-else-pos-num_commits.ensures
