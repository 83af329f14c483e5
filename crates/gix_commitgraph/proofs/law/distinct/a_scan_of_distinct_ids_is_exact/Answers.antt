use Rattle.std.proofs.Common.{refl}
use Rattle.gix_commitgraph.proofs.lookup.DistinctLemmas.{exact-scan}
use Rattle.gix_commitgraph.proofs.law.distinct.a_scan_of_distinct_ids_is_exact.Goals as goal

pub returns : goal.returns
returns c = λ layers id p distinct. exact-scan layers id _ p distinct refl
