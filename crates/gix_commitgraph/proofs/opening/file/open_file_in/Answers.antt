use Rattle.std.proofs.Common.{rules}
use Rattle.gix_commitgraph.proofs.opening.file.open_file_in.Goals as goal

pub returns-clause-failures : goal.returns-clause-failures
returns-clause-failures g c = search rules
