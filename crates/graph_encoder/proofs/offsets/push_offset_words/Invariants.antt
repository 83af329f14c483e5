use Rattle.std.proofs.Common.{◌≡◌, ◌++◌, length, take}
use Rattle.graph_encoder.specs.DateOffsets.{large_offsets, offset_words}
use Rattle.graph_encoder.specs.Written.{words_bytes}
use Rattle.graph_encoder.proofs.offsets.push_offset_words.Given as goal

-- the words so far, and how many large offsets there were
abbrev pub invariant-loop-offset : goal.invariant-loop-offset
invariant-loop-offset l = record {
  words : l.file.items ≡ l.initial.file.items ++ words_bytes (take l.offset-index (offset_words l.offsets));
  large : l.index ≡ length (large_offsets (take l.offset-index l.offsets));
}
