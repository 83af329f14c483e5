use Rattle.graph_laws.proofs.OneFileLemmas.{one_file}
use Rattle.graph_laws.proofs.law.one_stream_makes_one_file.Goals as goal

pub returns : goal.returns
returns c = one_file
