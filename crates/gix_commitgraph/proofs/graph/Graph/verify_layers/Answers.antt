use Rattle.std.proofs.Common.{◌≡◌, ◌≤◌, All, Some, length, take, slice_get, sym, ap, subst, arith, rules}
use Rattle.std.proofs.lemmas.List.Elements.{All-more}
use Rattle.std.proofs.lemmas.Option.{slice_get_within, get_or_from_slice_get}
use Rattle.std.proofs.lemmas.Result.{err_from_is_err_and}
use Rattle.graph_format.proofs.PointLemmas.{ran_out}
use Rattle.gix_commitgraph.specs.Graph.{IsGraph}
use Rattle.gix_commitgraph.proofs.history.HistoryLemmas.{take-all}
use Rattle.gix_commitgraph.specs.GraphLaw.{IsInOrder}
use Rattle.gix_commitgraph.proofs.sound.RightBelowLemmas.{history-below}
use Rattle.gix_commitgraph.proofs.sound.SoundLemmas.{ordered-passed}
use Rattle.gix_commitgraph.proofs.check.GraphCheckLemmas.{reached_layers, stops_in_layer, reached_next_layer, graph_passed}
use Rattle.gix_commitgraph.proofs.graph.Graph.verify_layers.Goals as goal

pub loop-layer-init : goal.loop-layer-init
loop-layer-init g c =
    let few : length c.args.self.now ≤ 256 =
    omega (arith, c.len.ensures, c.self.inside.files.ok.0, ap length c.self.view_is, c.if-len-gt-MOST_LAYERS.false) in
    let opened = (subst IsGraph c.self.view_is c.self.invariant.graph).opened in
    record {
      reached = reached_layers g.F.FnMut c.args.options c.args.self.now c.args.first _ few;
      ordered = c.requires.ordered;
      statistics = rw (history-below c.args.self.now c.args.first opened) c.requires.statistics;
    }

pub verify_layer-requires : goal.verify_layer-requires
verify_layer-requires g c κs =
    let below : All IsInOrder (take c.span_at-span.result.layer c.args.self.now) =
    rw c.span_at-span.ensures.layer c.loop-layer.invariant.ordered in (
      search rules,
      (
        c.span_at-span.ensures.span,
        (
          below,
          (
            c.requires.callable,
            rw (c.span_at-span.ensures.span.start, c.span_at-span.ensures.layer)
                c.loop-layer.invariant.statistics,
          ),
        ),
      ),
    )

pub returns-in_err-distinct-clause-agrees : goal.returns-in_err-distinct-clause-agrees
returns-in_err-distinct-clause-agrees g c =
    let few : length c.args.self.now ≤ 256 =
    omega (arith, c.len.ensures, c.self.inside.files.ok.0, ap length c.self.view_is, c.if-len-gt-MOST_LAYERS.false) in
    let no_memory = err_from_is_err_and c.from_residual.result c.from_residual.ensures.1 in
    rw (no_memory.1, no_memory.2)
    (ran_out _ _ _ _ _ (reached_layers g.F.FnMut c.args.options c.args.self.now c.args.first c.args.processor.now few))

pub returns-in_err-verify_layer-clause-agrees : goal.returns-in_err-verify_layer-clause-agrees
returns-in_err-verify_layer-clause-agrees g c =
    let handed = err_from_is_err_and c.from_residual-in_err-verify_layer.result c.from_residual-in_err-verify_layer.ensures.1 in
    rw (handed.1, handed.2)
    (stops_in_layer g.F.FnMut c.args.options c.args.self.now c.args.first _ c.loop-layer.layer c.span_at-span.result.file.now
    (rw c.span_at-span.ensures.layer at c.span_at-span.ensures.span.there) _ _ c.loop-layer.invariant.reached _
    (rw c.span_at-span.ensures.layer at c.in_err-verify_layer.ensures.agrees))

pub loop-layer-preserved : goal.loop-layer-preserved
loop-layer-preserved g c =
    let layers = c.args.self.now in
    let at = c.loop-layer.layer in
    let file = c.span_at-span.result.file.now in
    let there : slice_get layers at ≡ Some file = rw c.span_at-span.ensures.layer at c.span_at-span.ensures.span.there in
    let passes = rw c.span_at-span.ensures.layer at c.in_ok-verify_layer.ensures.agrees in
    let graph : IsGraph layers = subst IsGraph c.self.view_is c.self.invariant.graph in
    let ordered = ordered-passed c.args.options layers at file graph.opened there passes.no_fault in
    record {
      reached =
          reached_next_layer g.F.FnMut c.args.options layers c.args.first _ at file there _ _
          c.loop-layer.invariant.reached passes;
      ordered =
          All-more IsInOrder layers at file (slice_get_within layers at file there) c.loop-layer.invariant.ordered
          (subst IsInOrder (sym (get_or_from_slice_get layers at file file there)) ordered);
      statistics = rw (c.span_at-span.ensures.span.stop, c.span_at-span.ensures.layer) at c.in_ok-verify_layer.ensures.statistics;
    }

pub returns-in_err-outcome-clause-agrees : goal.returns-in_err-outcome-clause-agrees
returns-in_err-outcome-clause-agrees g c =
    let no_memory = err_from_is_err_and c.from_residual-in_err-outcome.result c.from_residual-in_err-outcome.ensures.1 in
    rw (no_memory.1, no_memory.2) (ran_out _ _ _ _ _ c.loop-layer.invariant.reached)

pub returns-clause-agrees : goal.returns-clause-agrees
returns-clause-agrees g c =
    let past : length c.args.self.now ≤ c.loop-layer.layer =
    omega (arith, c.len-layer-end.ensures, c.self.inside.files.ok.0, ap length c.self.view_is, c.loop-layer-test.false) in
    graph_passed g.F.FnMut c.args.options c.args.self.now c.args.first _ c.loop-layer.layer _ past c.loop-layer.invariant.reached

pub returns-clause-outcome : goal.returns-clause-outcome
returns-clause-outcome g c =
    let past : length c.args.self.now ≤ c.loop-layer.layer =
    omega (arith, c.len-layer-end.ensures, c.self.inside.files.ok.0, ap length c.self.view_is, c.loop-layer-test.false) in
    let graph : IsGraph c.args.self.now = subst IsGraph c.self.view_is c.self.invariant.graph in
    let all = take-all c.args.self.now c.loop-layer.layer graph.opened past in
    rw all at (c.in_ok-outcome.ensures _ c.loop-layer.invariant.statistics)
