use Rattle.std.proofs.Common.{arith}
use Rattle.graph_encoder.proofs.Pushes.{words_bytes-nil, words_bytes-more}
use Rattle.graph_encoder.proofs.fan.push_fan.Goals as goal

pub loop-count-init : goal.loop-count-init
loop-count-init g c = words_bytes-nil c.args.file.now.items

pub loop-count-preserved : goal.loop-count-preserved
loop-count-preserved g c =
    words_bytes-more c.args.file.now.items _ _ c.fan_of.result c.loop-count.count-index 0 c.loop-count.invariant
    c.in_ok-push_word.ensures (omega arith)
