use Rattle.std.proofs.Common.{◌-◌}
use Rattle.newer_commits.proofs.KeptLemmas.{kept_fields}
use Rattle.newer_commits.proofs.commits.NewerCommits.fields_at.Goals as goal

pub returns : goal.returns
returns c =
    kept_fields c.args.self.now (c.args.pos.0 - c.args.self.now.below) c.stored_at.result c.stored_at.ensures
