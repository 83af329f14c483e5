use Rattle.graph_laws.proofs.OneFileLemmas.{planned}
use Rattle.graph_laws.proofs.law.planned_files_are_laid_out.Goals as goal

pub returns : goal.returns
returns c = planned
