use Rattle.std.proofs.Common.{◌≡◌, ◌++◌, take}
use Rattle.graph_encoder.specs.Written.{words_bytes}
use Rattle.graph_encoder.proofs.fan.push_fan.Given as goal

abbrev pub invariant-loop-count : goal.invariant-loop-count
invariant-loop-count g l = l.file.items ≡ l.initial.file.items ++ words_bytes (take l.count-index l.count-items)
