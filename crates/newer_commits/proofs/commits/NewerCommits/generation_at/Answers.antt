use Rattle.std.proofs.Common.{◌-◌, sym}
use Rattle.newer_commits.proofs.KeptLemmas.{kept_generation}
use Rattle.newer_commits.proofs.commits.NewerCommits.generation_at.Goals as goal

pub returns : goal.returns
returns c =
    sym (kept_generation c.args.self.now (c.args.pos.0 - c.args.self.now.below) c.stored_at.result c.stored_at.ensures)
