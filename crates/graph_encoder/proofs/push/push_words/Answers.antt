use Rattle.std.proofs.Common.{ap, ◌∙◌, ◌++◌, arith}
use Rattle.std.proofs.lemmas.List.{take_all}
use Rattle.graph_encoder.specs.Written.{words_bytes}
use Rattle.graph_encoder.proofs.Pushes.{words_bytes-nil, words_bytes-more}
use Rattle.graph_encoder.proofs.push.push_words.Goals as goal

pub loop-number-init : goal.loop-number-init
loop-number-init c = words_bytes-nil c.args.file.now.items

pub loop-number-preserved : goal.loop-number-preserved
loop-number-preserved c =
    words_bytes-more c.args.file.now.items _ _ c.args.numbers.now c.loop-number.number-index 0 c.loop-number.invariant
    c.in_ok-push_word.ensures (omega arith)

pub returns : goal.returns
returns c = c.loop-number.invariant
    ∙ ap (λ numbers. c.args.file.now.items ++ words_bytes numbers)
    (take_all c.loop-number.number-index c.args.numbers.now c.loop-number-test.false)
