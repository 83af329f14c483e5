use Rattle.std.proofs.Common.{List, take, ap, sym, ◌∙◌}
use Rattle.graph_format.specs.Layer.{Layer}
use Rattle.graph_format.specs.StoredHistory.{history_of}
use Rattle.graph_walks.specs.Counts.{greatest}
use Rattle.graph_walks.specs.History.{generations}
use Rattle.show_commands.proofs.GenerationLemmas.{greatest-push, greatest_of_no_layers}
use Rattle.show_commands.proofs.LinesLemmas.{one_more}
use Rattle.show_commands.proofs.run.greatest_generation.Goals as goal

pub loop-file-init : goal.loop-file-init
loop-file-init c = greatest_of_no_layers

pub loop-file-preserved : goal.loop-file-preserved
loop-file-preserved c =
    let layers = c.args.graph.now in
    let at = c.loop-file.file-index in
    let layer = c.file-item.result in
    let more =
    one_more layers c.layers-file-items.result.now at layer c.layers-file-items.ensures.same c.loop-file-test.true
    c.file-item.is in
    let pushed =
    greatest-push (take at layers) layer ∙ ap (λ (l : List Layer). greatest (generations (history_of l))) (sym more) in
    cc
