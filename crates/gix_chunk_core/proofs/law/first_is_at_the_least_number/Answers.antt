use Rattle.gix_chunk_core.proofs.FirstFaultLemmas.{first_below-some_iff}
use Rattle.gix_chunk_core.proofs.law.first_is_at_the_least_number.Goals as goal

pub returns-clause-some : goal.returns-clause-some
returns-clause-some g c = first_below-some_iff
