use Rattle.write_commands.proofs.ThroughoutSteps.{short-of-memory}
use Rattle.write_commands.proofs.law.check_refuses_no_graph_that_is_right_throughout.Goals as goal

pub returns : goal.returns
returns c = short-of-memory
