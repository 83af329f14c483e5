use Rattle.std.proofs.Common.{sym}
use Rattle.graph_format.proofs.ChunkLemmas.{chunk_of-found}
use Rattle.graph_format.proofs.chunks.chunk_range.Goals as goal

pub returns-in-Some : goal.returns-in-Some
returns-in-Some c = chunk_of-found _ _ _ _ _ c.requires (sym c.in-Some.ensures.place)
