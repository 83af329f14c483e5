use Rattle.std.proofs.Common.{◌≡◌, ℕ, take, ap, length, refl, arith}
use Rattle.std.proofs.lemmas.List.{take_all}
use Rattle.graph_format.specs.Layer.{Layer}
use Rattle.graph_commands.proofs.BufferLemmas.{appends_last}
use Rattle.show_commands.specs.LayerLines.{layer_lines}
use Rattle.show_commands.specs.Show.{graph_line}
use Rattle.show_commands.proofs.LinesLemmas.{next_text}
use Rattle.show_commands.proofs.run.write_graph.Goals as goal

pub loop-number-preserved : goal.loop-number-preserved
loop-number-preserved g c =
    next_text (λ (row : ℕ × Layer). layer_lines row.0 row.1) c.args.graph.now c.layers-layers.result.now c.loop-number.number
    c.index-layers-number.result _ _ _ c.layers-layers.ensures.same c.loop-number-test.true c.index-layers-number.is
    c.loop-number.invariant c.in_ok-write_layer.ensures

pub returns : goal.returns
returns g c =
    let graph = c.args.graph.now in
    let all : take c.loop-number.number graph ≡ graph =
    take_all c.loop-number.number graph (omega (arith, ap length c.layers-layers.ensures.same)) in
    appends_last c.write_totals.result _ _ _ _ (graph_line graph) _ (rw all at c.loop-number.invariant)
    c.write_totals.ensures refl
