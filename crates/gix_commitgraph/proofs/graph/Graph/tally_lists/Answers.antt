use Rattle.std.proofs.Common.{◌≡◌, Option, Some, ap, ◌∙◌}
use Rattle.graph_format.specs.Parents.{extra_parent, extra_edge_of, no_parents, listed}
use Rattle.graph_format.specs.StoredHistory.{history_of}
use Rattle.graph_format.specs.declared.parents.ExtraEdge.{ExtraEdge}
use Rattle.graph_layer.proofs.EdgeListLemmas.{passed_none, passed_more, passed_few, passed_all, passed_nothing}
use Rattle.gix_commitgraph.specs.ListedTallies.{IsTally}
use Rattle.gix_commitgraph.specs.declared.verify.parents.ParentTally.{ParentTally}
use Rattle.gix_commitgraph.proofs.layers.LayerSpanLemmas.{span-opened}
use Rattle.gix_commitgraph.proofs.check.EdgeListLemmas.{nothing-tallied, no_parents_tallied, tallied_few}
use Rattle.gix_commitgraph.proofs.graph.Graph.tally_lists.Goals as goal
use Rattle.gix_commitgraph.proofs.graph.Graph.tally_lists.Goals.{in-Internal, in-Last, in-Some+in_ok-reserve+in-None, in_default}

pub loop-word-init : goal.loop-word-init
loop-word-init c =
    rw (c.in_ok-reserve.ensures.items, c.new-tallies.ensures.items)
    (passed_none (IsTally (history_of c.args.self.now) c.args.span.stop)
    (nothing-tallied (history_of c.args.self.now) c.args.span.stop) _)

pub with_parent-listed-requires-clause-few : goal.with_parent-listed-requires-clause-few
with_parent-listed-requires-clause-few c =
    let history = history_of c.args.self.now in
    let before = c.loop-word.invariant in
    let all : c.into_iter-word-iterator.result.iter.rest.now ≡ c.in-Some.words.now = cc in
    tallied_few history c.args.span.stop (listed before.passed) c.loop-word.listed before.last
    (passed_few (IsTally history c.args.span.stop) (nothing-tallied history c.args.span.stop) c.args.span.file.now.edges _ _
    c.loop-word.listed _ before (ap Some all ∙ c.in-Some.ensures)
    (span-opened c.args.self.now c.args.span c.requires).few_edges)

pub loop-word-preserved : goal.loop-word-preserved
loop-word-preserved c =
    let before = c.loop-word.invariant in
    let history = history_of c.args.self.now in
    let P : ExtraEdge → Option ParentTally → Type 0 = λ edge tally.
    IsTally history c.args.span.stop (extra_parent edge (listed before.passed)) tally in
    let told : P (extra_edge_of c.in-Some-word.word.now) c.match-from_raw.listed =
    elim c.match-from_raw.branch [
      | in-Internal w ↦
          rw (w.listed-is, ← w.in-Internal.ensures) (w.with_parent-listed.ensures.tally (listed before.passed) before.last)
      | in-Last w ↦
          rw (w.listed-is, ← w.in-Last.ensures)
          (w.with_parent-listed-in-Last.ensures.tally no_parents (no_parents_tallied history c.args.span.stop))
    ] in
    rw (c.in_ok-push.ensures.items, c.new.ensures)
    (passed_more (IsTally history c.args.span.stop) (nothing-tallied history c.args.span.stop) _ _ _ c.loop-word.listed
    c.match-from_raw.listed _ c.in-Some-word.word.now before c.in-Some-word.ensures.steps told)

pub returns : goal.returns
returns c =
    let history = history_of c.args.self.now in
    elim c.match-extra_edges.branch [
      | in-Some+in_ok-reserve+in-None w ↦
          let all : w.into_iter-word-iterator.result.iter.rest.now ≡ w.in-Some.words.now = cc in
          rw (w.tallies-is, w.reverse.ensures.items)
          (passed_all (IsTally history c.args.span.stop) (nothing-tallied history c.args.span.stop) c.args.span.file.now.edges
          _ _ _ _ w.loop-word.invariant w.in-None.ensures.steps.0 (ap Some all ∙ w.in-Some.ensures))
      | in_default w ↦
          rw (w.tallies-is, c.new-tallies.ensures.items)
          (passed_nothing (IsTally history c.args.span.stop) (nothing-tallied history c.args.span.stop)
          c.args.span.file.now.edges w.in_default.ensures)
    ]
