use Rattle.std.proofs.Common.{◌≡◌, ℕ, ◌^◌, ◌<◌, List, length, drop, arith, rules}
use Rattle.graph_format.specs.Points.{calls}
use Rattle.gix_commitgraph.specs.Graph.{total}
use Rattle.gix_commitgraph.specs.Verify.{points_from}
use Rattle.graph_ancestors.specs.declared.checking.NoFault.{NoFault}
use Rattle.graph_history.proofs.PushLemmas.{refused_as_whole}
use Rattle.graph_history.proofs.ReloadLemmas.{calls-above, counted, total-drop}
use Rattle.graph_history.proofs.owned.check_above.Goals as goal

pub returns-in-Ok-clause-checked : goal.returns-in-Ok-clause-checked
returns-in-Ok-clause-checked c =
    let options = c.args.options in
    let layers = c.args.graph.now in
    let count = c.args.layers in
    let called : List ℕ = calls (points_from {E = NoFault} options layers count) in
    let above : length called ≡ total (drop count layers) = calls-above NoFault options layers count in
    let few : length called < 2 ^ 32 = omega (arith, above, total-drop layers count, c.requires.graph.makes.few) in
    let counts =
    counted _ (λ f. f.0.now) (λ f. f.0.ghost_name) (λ f p g step. search rules) called _
    c.verify_integrity_from-found.new.processor c.in-Ok.ensures.agrees.accepted (omega (arith, few)) in
    omega (arith, counts.0, above)

pub returns-in-Err-clause-refusal : goal.returns-in-Err-clause-refusal
returns-in-Err-clause-refusal c =
    let options = c.args.options in
    let layers = c.args.graph.now in
    let count = c.args.layers in
    let whole =
    c.the_first_fault_stands_above_right_layers.ensures options layers count c.requires.graph.opened c.requires.within
    c.requires.below.sound in
    refused_as_whole _ options layers (points_from options layers count) whole _ _ (λ h k p e called. search rules)
    c.in-Err.error c.in-Err.ensures.agrees c.in-Err.ensures.sound
