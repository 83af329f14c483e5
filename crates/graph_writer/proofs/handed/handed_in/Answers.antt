use Rattle.std.proofs.Common.{◌∙◌}
use Rattle.graph_writer.proofs.positions.HandedSteps.{same-commits}
use Rattle.graph_writer.proofs.handed.handed_in.Goals as goal

pub of-requires : goal.of-requires
of-requires c = λ k d lt. tt

pub returns : goal.returns
returns c = c.of.ensures ∙ same-commits c.args.commits.now
