use Rattle.std.proofs.Common.{◌≡◌, ◌+◌, ℕ, List, length, None, sym, ap, ◌∙◌, subst, arith}
use Rattle.gix_chunk_core.specs.FirstFault.{first_below}
use Rattle.gix_chunk_core.proofs.FirstFaultLemmas.{first_below-none}
use Rattle.graph_format.specs.Layer.{Layer}
use Rattle.graph_format.specs.StoredHistory.{history_of}
use Rattle.gix_commitgraph.specs.Graph.{start}
use Rattle.gix_commitgraph.proofs.layers.LayerListLemmas.{start-none}
use Rattle.graph_chunks.specs.GraphStoredDates.{times_of}
use Rattle.graph_chunks.specs.GraphDates.{wrong_date}
use Rattle.graph_chunks.proofs.StoredDateLemmas.{layer-fits}
use Rattle.graph_chunks.proofs.DateCheckLemmas.{dates-right, none_found, stop-is}
use Rattle.graph_chunks.proofs.dates.check.check_dates.Goals as goal

pub loop-layer-init : goal.loop-layer-init
loop-layer-init c = record {
  counted = sym (start-none c.args.graph.now);
  right =
      let fault = wrong_date (history_of c.args.graph.now) (times_of c.args.graph.now) c.args.dates.now in
      subst (λ (n : ℕ). first_below fault n ≡ None) (sym (start-none c.args.graph.now)) (first_below-none fault);
}

pub check_layer-requires-clause-layer : goal.check_layer-requires-clause-layer
check_layer-requires-clause-layer c =
    omega (arith, c.loop-layer-test.true, ap (λ (layers : List Layer). length layers) c.layers-layer-end.ensures.same)

pub overflow_add-before : goal.overflow_add-before
overflow_add-before c =
    let all = ap (λ (layers : List Layer). length layers) c.layers-layer-end.ensures.same in
    let same = ap (λ (layers : List Layer). length layers) c.layers.ensures.same in
    let fits =
    layer-fits c.args.graph.now c.layers.result.now c.loop-layer.layer c.loop-layer.before c.index-layers-layer.result
    c.num_commits-commits.ensures.graph c.layers.ensures.same (omega (arith, c.loop-layer-test.true, all, same))
    (c.loop-layer.invariant.counted
    ∙ ap (λ (layers : List Layer). start layers c.loop-layer.layer) (sym c.layers.ensures.same)) in
    omega (arith, fits, c.num_commits-before.ensures.ids, ap (λ (l : Layer). length l.ids) c.index-layers-layer.is)

pub loop-layer-preserved : goal.loop-layer-preserved
loop-layer-preserved c =
    let all = ap (λ (layers : List Layer). length layers) c.layers-layer-end.ensures.same in
    let end =
    stop-is c.args.graph.now c.layers.result.now c.loop-layer.layer c.loop-layer.before c.index-layers-layer.result
    c.layers.ensures.same (omega (arith, c.loop-layer-test.true, all)) c.loop-layer.invariant.counted c.index-layers-layer.is in
    record {
      counted = ap (λ (n : ℕ). c.loop-layer.before + n) c.num_commits-before.ensures.ids ∙ end;
      right = c.in_ok-check_layer.ensures.right;
    }

pub returns-clause-right : goal.returns-clause-right
returns-clause-right c =
    dates-right c.args.graph.now c.args.dates.now c.num_commits-commits.ensures.graph.opened c.requires.dates
    (none_found c.args.graph.now c.args.dates.now c.loop-layer.layer
    (omega (arith, c.loop-layer-test.false, ap (λ (items : List Layer). length items) c.layers-layer-end.ensures.same))
    c.loop-layer.invariant.right)

pub returns-clause-none : goal.returns-clause-none
returns-clause-none c =
    none_found c.args.graph.now c.args.dates.now c.loop-layer.layer
    (omega (arith, c.loop-layer-test.false, ap (λ (items : List Layer). length items) c.layers-layer-end.ensures.same))
    c.loop-layer.invariant.right
