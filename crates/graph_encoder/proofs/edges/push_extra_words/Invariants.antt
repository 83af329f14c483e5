use Rattle.std.proofs.Common.{◌≡◌, ◌++◌, take}
use Rattle.graph_encoder.specs.Written.{words_bytes}
use Rattle.graph_encoder.proofs.edges.push_extra_words.Given as goal

abbrev pub invariant-loop-parent : goal.invariant-loop-parent
invariant-loop-parent l = l.file.items ≡ l.initial.file.items ++ words_bytes (take l.parent-index l.parent-items)
