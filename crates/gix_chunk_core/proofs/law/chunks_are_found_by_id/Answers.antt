use Rattle.gix_chunk_core.proofs.TableLemmas.{range_of-contains}
use Rattle.gix_chunk_core.proofs.law.chunks_are_found_by_id.Goals as goal

pub returns-clause-found : goal.returns-clause-found
returns-clause-found c = range_of-contains
