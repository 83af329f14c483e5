use Rattle.graph_parts.specs.Shown.{AreGraphParts}
use Rattle.test_commands.proofs.near.compare_asked.Given as goal

abbrev pub invariant-loop-steps : goal.invariant-loop-steps
invariant-loop-steps g l = AreGraphParts l.parts
