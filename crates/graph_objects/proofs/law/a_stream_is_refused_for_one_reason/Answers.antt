use Rattle.graph_objects.proofs.RefusedOnceLemmas.{stream_refused_once}
use Rattle.graph_objects.proofs.law.a_stream_is_refused_for_one_reason.Goals as goal

pub returns : goal.returns
returns c = stream_refused_once
