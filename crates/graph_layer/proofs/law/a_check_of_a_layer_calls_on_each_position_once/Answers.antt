use Rattle.graph_layer.proofs.LayerCallLemmas.{calls-layer}
use Rattle.graph_layer.proofs.law.a_check_of_a_layer_calls_on_each_position_once.Goals as goal

pub returns : goal.returns
returns c h = calls-layer _
