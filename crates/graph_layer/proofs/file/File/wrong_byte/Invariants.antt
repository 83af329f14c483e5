use Rattle.std.proofs.Common.{◌≡◌, None}
use Rattle.gix_chunk_core.specs.FirstFault.{first_below}
use Rattle.graph_format.specs.Faults.{wrong_fan}
use Rattle.graph_layer.proofs.FirstByteLemmas.{ids_below}
use Rattle.graph_layer.proofs.file.File.wrong_byte.Given as goal

-- the fan is right at the bytes so far
abbrev pub invariant-loop-byte : goal.invariant-loop-byte
invariant-loop-byte l = record {
  sum : l.ids ≡ ids_below l.byte l.self.ids;
  right : first_below (wrong_fan l.self) l.byte ≡ None;
}
