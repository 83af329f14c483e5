use Rattle.graph_objects.proofs.SameCommitLemmas.{one_stream}
use Rattle.graph_objects.proofs.law.one_stream_makes_one_history.Goals as goal

pub returns : goal.returns
returns c = λ one other kind bytes one_alike other_alike. one_stream one other kind one_alike other_alike bytes
