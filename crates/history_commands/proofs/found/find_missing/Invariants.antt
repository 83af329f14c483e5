-- The ids so far are there.
use Rattle.std.proofs.Common.{All, take}
use Rattle.graph_commands.specs.Ancestor.{IsThere}
use Rattle.history_commands.proofs.found.find_missing.Given as goal

abbrev pub invariant-loop-place : goal.invariant-loop-place
invariant-loop-place l = All (IsThere l.graph.layers) (take l.place l.ids)
