-- Ids compare as their lists of bytes do.
use Rattle.gix_hash_core.proofs.OrderLemmas.{are_ordered}
use Rattle.gix_hash_core.proofs.law.ids_are_ordered_by_their_bytes.Goals as goal

pub returns : goal.returns
returns c = are_ordered
