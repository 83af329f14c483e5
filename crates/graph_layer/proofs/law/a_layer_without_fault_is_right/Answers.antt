use Rattle.graph_layer.proofs.LayerFaultFreeLemmas.{traverse_points-iff}
use Rattle.graph_layer.proofs.law.a_layer_without_fault_is_right.Goals as goal

pub returns : goal.returns
returns c h = traverse_points-iff
