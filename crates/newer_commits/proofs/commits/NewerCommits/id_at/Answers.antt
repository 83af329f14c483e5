use Rattle.std.proofs.Common.{◌-◌, arith}
use Rattle.newer_commits.proofs.KeptLemmas.{kept_id}
use Rattle.newer_commits.proofs.commits.NewerCommits.id_at.Goals as goal

pub returns : goal.returns
returns c = (
  c.args.pos.0 - c.args.self.now.below,
  kept_id c.args.self.now (c.args.pos.0 - c.args.self.now.below) c.stored_at.result c.stored_at.ensures,
  omega (arith, c.requires.from),
)
