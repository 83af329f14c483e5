use Rattle.std.proofs.Common.{◌≡◌, take}
use Rattle.graph_history.proofs.shared.shared_layers.Given as goal

abbrev pub invariant-loop-layer : goal.invariant-loop-layer
invariant-loop-layer l = take l.layer l.old ≡ take l.layer l.new
