use Rattle.std.proofs.Common.{◌++◌, sym, ap, ◌∙◌, arith, length, take, drop, ◌-◌}
use Rattle.graph_encoder.specs.Written.{words_bytes}
use Rattle.graph_encoder.proofs.Pushes.{words_bytes-nil, words_bytes-more, words_bytes-last}
use Rattle.graph_encoder.proofs.ExtraWords.{extra_words-places, extra_words-few}
use Rattle.graph_encoder.proofs.edges.push_extra_words.Goals as goal

pub loop-parent-init : goal.loop-parent-init
loop-parent-init c = words_bytes-nil c.args.file.now.items

pub loop-parent-preserved : goal.loop-parent-preserved
loop-parent-preserved c =
    words_bytes-more c.args.file.now.items _ _ (take (length c.args.parents.now - 1 - 1) (drop 1 c.args.parents.now))
    c.loop-parent.parent-index 0 c.loop-parent.invariant c.in_ok-push_word.ensures (omega arith)

pub returns-in_ok-push_word-2 : goal.returns-in_ok-push_word-2
returns-in_ok-push_word-2 c =
    words_bytes-last c.args.file.now.items _ _ (take (length c.args.parents.now - 1 - 1) (drop 1 c.args.parents.now))
    c.loop-parent.parent-index _ c.loop-parent.invariant c.in_ok-push_word-2.ensures (omega arith)
    ∙ ap (λ words. c.args.file.now.items ++ words_bytes words) (sym (extra_words-places c.args.parents.now 0 (omega arith)))

pub returns-else-parents-gt2 : goal.returns-else-parents-gt2
returns-else-parents-gt2 c = words_bytes-nil c.args.file.now.items
    ∙ ap (λ words. c.args.file.now.items ++ words_bytes words) (sym (extra_words-few c.args.parents.now (omega arith)))
