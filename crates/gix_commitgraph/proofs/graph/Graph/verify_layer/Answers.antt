use Rattle.std.proofs.Common.{◌≡◌, ◌+◌, [], ◌∷◌, ◌++◌, length, take, refl, sym, ap, ◌∙◌, arith, rules, add-zero}
use Rattle.std.proofs.lemmas.List.{length_push}
use Rattle.std.proofs.lemmas.Result.{err_from_is_err_and}
use Rattle.graph_layer.specs.Commit.{layer_and_position}
use Rattle.graph_format.specs.StoredHistory.{history_of}
use Rattle.graph_layer.specs.Remaining.{commits_left}
use Rattle.graph_format.specs.Layer.{positions_from}
use Rattle.graph_format.proofs.PointLemmas.{ran_out}
use Rattle.gix_commitgraph.specs.InGraph.{InGraph}
use Rattle.gix_commitgraph.proofs.history.HistoryLemmas.{node_at}
use Rattle.gix_commitgraph.proofs.layers.LayerSpanLemmas.{span-commit, span-stop, take-next, take-fits, parents-told}
use Rattle.gix_commitgraph.proofs.check.LayerCheckLemmas.{IsTurn, turn, place-none, refused_by_bases, reached_first}
use Rattle.gix_commitgraph.proofs.check.LayerCheckLemmas.{stops_at_commit, reached_next, layer_passed}
use Rattle.gix_commitgraph.proofs.graph.Graph.verify_layer.Given.{Over}
use Rattle.gix_commitgraph.proofs.graph.Graph.verify_layer.Goals.{After-position-layer_pos}
use Rattle.gix_commitgraph.proofs.graph.Graph.verify_layer.Goals as goal

pub returns-in_err-check_bases-clause-agrees : goal.returns-in_err-check_bases-clause-agrees
returns-in_err-check_bases-clause-agrees g c =
    let handed = err_from_is_err_and c.from_residual.result c.from_residual.ensures.1 in
    rw (handed.1, handed.2) (refused_by_bases g.F.FnMut c.args.options c.args.self.now c.args.span _ _
    c.in_err-check_bases.ensures)

pub returns-in_err-tallies-clause-agrees : goal.returns-in_err-tallies-clause-agrees
returns-in_err-tallies-clause-agrees g c =
    let first =
    reached_first g.F.FnMut c.args.options c.args.self.now c.args.span _ c.in_ok-check_bases.ensures c.in_default.ensures in
    let no_memory = err_from_is_err_and c.from_residual-in_err-tallies.result c.from_residual-in_err-tallies.ensures.1 in
    rw (no_memory.1, no_memory.2) (ran_out _ _ _ _ _ first)

pub loop-commit-init : goal.loop-commit-init
loop-commit-init g c = record {
  left = ap commits_left c.into_iter-commit-iterator.ensures.into_iter_gives ∙ c.iter_commits-commit-items.ensures;
  within = omega arith;
  reached = reached_first g.F.FnMut c.args.options c.args.self.now c.args.span _ c.in_ok-check_bases.ensures c.in_default.ensures;
  statistics = rw add-zero c.requires.statistics;
  batch = λ not_first. absurd (not_first (omega arith));
}

-- The commit is the next of the layer.
module _ (g : Over) (c : After-position-layer_pos g) where
  this : IsTurn c.args.span c.in-Some-commit.commit (length c.loop-commit.yielded)
      (c.args.span.start + c.position-layer_pos.result.0) (commits_left c.next.new.self)
  this =
      turn c.args.span c.in-Some-commit.commit (length c.loop-commit.yielded)
      (c.args.span.start + c.position-layer_pos.result.0) _ _ _ c.loop-commit.invariant.left c.in-Some-commit.ensures.steps
      c.position-layer_pos.ensures.value refl

  place : c.position-layer_pos.result.0 ≡ length c.loop-commit.yielded
  place = omega (arith, c.position-layer_pos.ensures.value, this.pos)

  stands : InGraph c.args.self.now (c.args.span.start + c.position-layer_pos.result.0) c.in-Some-commit.commit
  stands = span-commit c.args.self.now c.args.span c.in-Some-commit.commit _ c.requires.span this.in_span

pub gathered-gathered-requires-clause-within : goal.gathered-gathered-requires-clause-within
gathered-gathered-requires-clause-within g c =
    let turn = this g (goal.at.gathered-gathered-requires-clause-within g c).After-position-layer_pos in
    omega (arith, c.position-layer_pos.ensures.value, turn.pos, turn.below)

pub gathered-gathered-requires-clause-before : goal.gathered-gathered-requires-clause-before
gathered-gathered-requires-clause-before g c =
    rw (place g (goal.at.gathered-gathered-requires-clause-before g c).After-position-layer_pos) c.loop-commit.invariant.batch

pub overflow_add-pos : goal.overflow_add-pos
overflow_add-pos g c =
    let turn = this g (goal.at.overflow_add-pos g c).After-position-layer_pos in
    omega (arith, turn.below, turn.pos, c.position-layer_pos.ensures.value, span-stop c.args.self.now c.args.span c.requires.span)

pub verify_commit-requires : goal.verify_commit-requires
verify_commit-requires g c κs =
    let after = (goal.at.verify_commit-requires g c).After-position-layer_pos in
    let in_span = (this g after).in_span in
    let in_graph = stands g after in
    let known = rw c.position-layer_pos.ensures.value at c.gathered-gathered.ensures.result in
    (search rules, (c.requires.span, (in_span, (known, (c.requires.below, λ state. c.requires.callable state _ _ in_graph)))))

pub returns-in_err-parents-clause-agrees : goal.returns-in_err-parents-clause-agrees
returns-in_err-parents-clause-agrees g c =
    let turn = this g (goal.at.returns-in_err-parents-clause-agrees g c).After-position-layer_pos in
    let handed = err_from_is_err_and c.from_residual-in_err-parents.result c.from_residual-in_err-parents.ensures.1 in
    rw (handed.1, handed.2)
    (stops_at_commit g.F.FnMut c.args.options c.args.self.now c.args.span _ (length c.loop-commit.yielded) c.in-Some-commit.commit
    turn.pos turn.below _ _ c.loop-commit.invariant.reached _ c.in_err-parents.ensures.agrees)

pub add-requires : goal.add-requires
add-requires g c =
    let turn = this g (goal.at.add-requires g c).After-position-layer_pos in (
      take (c.args.span.start + length c.loop-commit.yielded) (history_of c.args.self.now),
      c.loop-commit.invariant.statistics,
      take-fits c.args.self.now c.args.span (length c.loop-commit.yielded) c.requires.span turn.below,
    )

pub returns-in_err-add-clause-agrees : goal.returns-in_err-add-clause-agrees
returns-in_err-add-clause-agrees g c =
    let turn = this g (goal.at.returns-in_err-add-clause-agrees g c).After-position-layer_pos in
    let next =
    reached_next g.F.FnMut c.args.options c.args.self.now c.args.span _ (length c.loop-commit.yielded) c.in-Some-commit.commit
    turn.pos turn.below _ _ c.loop-commit.invariant.reached c.in_ok-parents.ensures.agrees in
    let no_memory = err_from_is_err_and c.from_residual-in_err-add.result c.from_residual-in_err-add.ensures.1 in
    rw (no_memory.1, no_memory.2) (ran_out _ _ _ _ _ next)

pub loop-commit-preserved : goal.loop-commit-preserved
loop-commit-preserved g c =
    let after = (goal.at.loop-commit-preserved g c).After-position-layer_pos in
    let turn = this g after in
    let pos = place g after in
    let in_graph = stands g after in
    let more : length (c.loop-commit.yielded ++ c.in-Some-commit.commit ∷ []) ≡ length c.loop-commit.yielded + 1 =
    length_push c.loop-commit.yielded c.in-Some-commit.commit in
    let next =
    reached_next g.F.FnMut c.args.options c.args.self.now c.args.span _ (length c.loop-commit.yielded) c.in-Some-commit.commit
    turn.pos turn.below _ _ c.loop-commit.invariant.reached c.in_ok-parents.ensures.agrees in
    let added =
    c.in_ok-add.ensures _ (node_at (layer_and_position c.in-Some-commit.commit)) c.loop-commit.invariant.statistics
    c.generation.ensures
    (parents-told c.args.self.now c.args.span c.in-Some-commit.commit _ _ c.requires.span in_graph
    c.in_ok-parents.ensures.parents) in
    let seen =
    take-next c.args.self.now c.args.span c.in-Some-commit.commit (length c.loop-commit.yielded) _ _ c.requires.span in_graph
    (omega (arith, pos)) more in
    record {
      left = turn.left ∙ ap (positions_from c.args.span.file.now) (sym more);
      within = omega (arith, more, turn.below);
      reached = rw more next;
      statistics = rw seen added;
      batch = rw more (rw (← pos) c.gathered-gathered.ensures.after);
    }

pub returns-clause-agrees : goal.returns-clause-agrees
returns-clause-agrees g c =
    layer_passed g.F.FnMut c.args.options c.args.self.now c.args.span _ (length c.loop-commit.yielded) _
    (place-none c.args.span.file.now (length c.loop-commit.yielded) _ c.loop-commit.invariant.left c.in-None.ensures.steps.0)
    c.loop-commit.invariant.reached

pub returns-clause-statistics : goal.returns-clause-statistics
returns-clause-statistics g c =
    let past =
    place-none c.args.span.file.now (length c.loop-commit.yielded) _ c.loop-commit.invariant.left c.in-None.ensures.steps.0 in
    let end : c.args.span.stop ≡ c.args.span.start + length c.loop-commit.yielded =
    omega (arith, past, c.loop-commit.invariant.within, span-stop c.args.self.now c.args.span c.requires.span) in
    rw end c.loop-commit.invariant.statistics
