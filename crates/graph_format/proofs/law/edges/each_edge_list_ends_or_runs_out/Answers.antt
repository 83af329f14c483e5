use Rattle.graph_format.proofs.ExtraEdgeLemmas.{extra_parents-either}
use Rattle.graph_format.proofs.law.edges.each_edge_list_ends_or_runs_out.Goals as goal

pub returns-clause-either : goal.returns-clause-either
returns-clause-either c = extra_parents-either
