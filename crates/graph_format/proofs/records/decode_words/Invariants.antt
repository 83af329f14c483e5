use Rattle.std.proofs.Common.{◌≡◌}
use Rattle.graph_format.proofs.DecodedRecordLemmas.{first_words}
use Rattle.graph_format.proofs.records.decode_words.Given as goal

-- the words so far are decoded
abbrev pub invariant-loop-index : goal.invariant-loop-index
invariant-loop-index l = l.words.items ≡ first_words l.bytes l.index
