use Rattle.std.proofs.Common.{arith}
use Rattle.graph_layer.proofs.FileViewLemmas.{commits-ids, commits-records, commits-fan}
use Rattle.graph_layer.proofs.file.File.num_commits.Goals as goal

pub returns-clause-ids : goal.returns-clause-ids
returns-clause-ids c = omega (arith, commits-ids _ _ _ _ c.shared.ensures.layout c.shared.ensures.layer)

pub returns-clause-records : goal.returns-clause-records
returns-clause-records c = omega (arith, commits-records _ _ _ _ c.shared.ensures.layout c.shared.ensures.layer)

pub returns-clause-fan : goal.returns-clause-fan
returns-clause-fan c = omega (arith, commits-fan _ _ _ _ c.shared.ensures.layout c.shared.ensures.layer)
