use Rattle.std.proofs.Common.{ℕ, ap, ◌∙◌}
use Rattle.c_opening.specs.Verdict.{options_of, refusal_of, with_calls}
use Rattle.c_opening.specs.declared.check.CgVerdict.{CgVerdict}
use Rattle.c_opening.proofs.Called.{told-calls}
use Rattle.c_opening.proofs.check.verdict_on.Goals as goal

pub returns-in-Err-clause-called : goal.returns-in-Err-clause-called
returns-in-Err-clause-called c =
    told-calls c.args.graph.now (options_of c.args.distinct_ids) c.in-Err.error _ c.in-Err.ensures.refusal
    (ap (λ (v : CgVerdict). with_calls c.commits_before.result v) c.wrong.ensures.told
    ∙ ap (λ (n : ℕ). with_calls n (refusal_of c.in-Err.error)) c.commits_before.ensures)
