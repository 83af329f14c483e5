use Rattle.std.proofs.Common.{◌≡◌, ℕ, ◌^◌, ◌<◌, List, length, take, drop, sym, ap, subst, ◌∙◌, arith, rules}
use Rattle.std.proofs.lemmas.Result.{err_from_is_err_and}
use Rattle.graph_format.specs.Layer.{Layer}
use Rattle.graph_format.specs.Points.{calls}
use Rattle.graph_format.specs.StoredHistory.{history_of}
use Rattle.gix_commitgraph.specs.Distinct.{IsSoundWith}
use Rattle.gix_commitgraph.specs.Graph.{total}
use Rattle.gix_commitgraph.specs.Verify.{Summarizes, points_from}
use Rattle.graph_ancestors.specs.declared.checking.NoFault.{NoFault}
use Rattle.graph_history.specs.Reload.{AreShared}
use Rattle.graph_history.specs.RightGraph.{CheckedLayers}
use Rattle.graph_history.proofs.LowestLemmas.{lowest_right}
use Rattle.graph_history.proofs.PushLemmas.{refused_as_whole}
use Rattle.graph_history.proofs.ReloadLemmas.{calls-above, counted, total-drop}
use Rattle.graph_history.proofs.checked.Checked.reload.Goals as goal

pub verify_integrity_from-requires : goal.verify_integrity_from-requires
verify_integrity_from-requires c κs =
    let options = c.self.inside.options in
    let old = c.self.inside.graph.now in
    let count = c.shared_layers-shared.result in
    let shared = c.shared_layers-shared.ensures.shared in
    let right : IsSoundWith options (take count c.args.graph) =
    subst (IsSoundWith options) shared.same
    (lowest_right options old count c.shared_layers-shared.ensures.old.opened shared.in_old c.self.invariant.sound) in
    let layers : take count c.args.self.now.layers ≡ take count c.args.graph =
    ap (λ (v : CheckedLayers). take count v.layers) (sym c.self.view_is) ∙ shared.same in
    let below : Summarizes (history_of (take count c.args.graph)) c.in_ok-below.below =
    subst (λ (ls : List Layer). Summarizes (history_of ls) c.in_ok-below.below) layers c.in_ok-below.ensures in
    (search rules, ((λ state position commit stands y same. tt), (shared.in_new, (right, below))))

pub returns-in_err-outcome-clause-refusal : goal.returns-in_err-outcome-clause-refusal
returns-in_err-outcome-clause-refusal c =
    let options = c.self.inside.options in
    let old = c.self.inside.graph.now in
    let count = c.shared_layers-shared.result in
    let shared = c.shared_layers-shared.ensures.shared in
    let right : IsSoundWith options (take count c.args.graph) =
    subst (IsSoundWith options) shared.same
    (lowest_right options old count c.shared_layers-shared.ensures.old.opened shared.in_old c.self.invariant.sound) in
    let whole =
    c.the_first_fault_stands_above_right_layers.ensures options c.args.graph count c.shared_layers-shared.ensures.new.opened
    shared.in_new right in
    let handed = err_from_is_err_and c.from_residual-in_err-outcome.result c.from_residual-in_err-outcome.ensures.1 in
    let asked : options ≡ c.args.self.now.options = ap (λ (v : CheckedLayers). v.options) c.self.view_is in
    rw (handed.1, handed.2, ← asked)
    (refused_as_whole _ options c.args.graph (points_from options c.args.graph count) whole _ _
    (λ h k p e called. search rules) _ c.in_err-outcome.ensures.agrees c.in_err-outcome.ensures.sound)

pub returns-clause-checked : goal.returns-clause-checked
returns-clause-checked c =
    let options = c.self.inside.options in
    let count = c.shared_layers-shared.result in
    let shared : AreShared c.args.self.now.layers c.args.graph count =
    subst (λ (v : CheckedLayers). AreShared v.layers c.args.graph count) c.self.view_is c.shared_layers-shared.ensures.shared in
    let called : List ℕ = calls (points_from {E = NoFault} options c.args.graph count) in
    let above : length called ≡ total (drop count c.args.graph) = calls-above NoFault options c.args.graph count in
    let few : length called < 2 ^ 32 =
    omega (arith, above, total-drop c.args.graph count, c.shared_layers-shared.ensures.new.makes.few) in
    let counts =
    counted _ (λ f. f.0.now) (λ f. f.0.ghost_name) (λ f p g step. search rules) called _
    c.verify_integrity_from.new.processor c.in_ok-outcome.ensures.agrees.accepted (omega (arith, few)) in
    (count, shared, grind (arith, counts.0, counts.1, above))
