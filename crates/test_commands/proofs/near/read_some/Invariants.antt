use Rattle.graph_parts.specs.Shown.{AreGraphParts}
use Rattle.test_commands.proofs.near.read_some.Given as goal

abbrev pub invariant-loop-number : goal.invariant-loop-number
invariant-loop-number g l = AreGraphParts l.parts
