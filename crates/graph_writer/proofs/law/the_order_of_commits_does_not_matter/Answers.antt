use Rattle.graph_writer.proofs.plans.ReorderedSteps.{same-file-reordered}
use Rattle.graph_writer.proofs.law.the_order_of_commits_does_not_matter.Goals as goal

pub returns : goal.returns
returns c = same-file-reordered
