use Rattle.graph_objects.proofs.SameCommitLemmas.{one_by_ids}
use Rattle.graph_objects.proofs.law.ids_make_one_history.Goals as goal

pub returns : goal.returns
returns c = λ one other kind bytes more one_alike other_alike. one_by_ids one other kind one_alike other_alike bytes more
