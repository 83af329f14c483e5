use Rattle.std.proofs.Common.{◌≡◌, ◌++◌, take}
use Rattle.graph_encoder.specs.Written.{words_bytes}
use Rattle.graph_encoder.proofs.push.push_words.Given as goal

abbrev pub invariant-loop-number : goal.invariant-loop-number
invariant-loop-number l = l.file.items ≡ l.initial.file.items ++ words_bytes (take l.number-index l.numbers)
