use Rattle.graph_objects.proofs.SameGraphLemmas.{one_graph}
use Rattle.graph_objects.proofs.law.one_stream_makes_one_graph.Goals as goal

pub returns : goal.returns
returns c = λ one other kind bytes one_opened other_opened one_alike other_alike distinct right also first second.
    one_graph one other kind bytes one_opened other_opened one_alike other_alike distinct first second right also
