use Rattle.graph_objects.proofs.RightStreamLemmas.{right_not_refused}
use Rattle.graph_objects.proofs.law.a_right_stream_is_not_refused.Goals as goal

pub returns : goal.returns
returns c = right_not_refused
