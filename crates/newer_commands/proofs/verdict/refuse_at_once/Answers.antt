-- An empty line, and then the line of the refusal.
use Rattle.newer_commands.proofs.TellLemmas.{told_at_once}
use Rattle.newer_commands.proofs.verdict.refuse_at_once.Goals as goal

pub returns : goal.returns
returns g c =
    λ form.
    told_at_once c.tell_refusal.result form c.args.refusal _ _ _ c.in_ok-end_requests.ensures (c.tell_refusal.ensures form)
