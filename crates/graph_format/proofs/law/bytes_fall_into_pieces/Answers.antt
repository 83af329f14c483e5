use Rattle.graph_format.proofs.WholePieceLemmas.{whole_pieces}
use Rattle.graph_format.proofs.law.bytes_fall_into_pieces.Goals as goal

pub returns : goal.returns
returns c = whole_pieces
