use Rattle.std.proofs.Common.{◌≡◌, ℕ, Option, Some, ap, ◌∙◌}
use Rattle.graph_format.specs.Parents.{extra_parent, extra_edge_of, listed}
use Rattle.graph_format.specs.declared.parents.ExtraEdge.{ExtraEdge}
use Rattle.graph_layer.specs.ListedParents.{IsCount}
use Rattle.graph_layer.proofs.EdgeListLemmas.{passed_none, passed_more, passed_few, passed_all, passed_nothing, counted_more}
use Rattle.graph_layer.proofs.EdgeListLemmas.{counted_last, counted_few, nothing-counted}
use Rattle.graph_history.proofs.lower.count_lists.Goals as goal
use Rattle.graph_history.proofs.lower.count_lists.Goals.{in-Internal, in-Last, in-Some+in_ok-reserve+in-None, in_default}

pub loop-word-init : goal.loop-word-init
loop-word-init c = rw (c.in_ok-reserve.ensures.items, c.new-counts.ensures.items) (passed_none IsCount nothing-counted _)

pub one_more-listed-requires : goal.one_more-listed-requires
one_more-listed-requires c =
    let before = c.loop-word.invariant in
    let all : c.into_iter-word-iterator.result.iter.rest.now ≡ c.in-Some.words.now = cc in
    counted_few (listed before.passed) c.loop-word.listed before.last
    (passed_few IsCount nothing-counted c.args.file.now.edges _ _ c.loop-word.listed _ before (ap Some all ∙ c.in-Some.ensures)
    c.requires)

pub loop-word-preserved : goal.loop-word-preserved
loop-word-preserved c =
    let before = c.loop-word.invariant in
    let P : ExtraEdge → Option ℕ → Type 0 = λ edge count. IsCount (extra_parent edge (listed before.passed)) count in
    let told : P (extra_edge_of c.in-Some-word.word.now) c.match-from_raw.listed =
    elim c.match-from_raw.branch [
      | in-Internal w ↦
          rw (w.listed-is, ← w.in-Internal.ensures, w.one_more-listed.ensures)
          (counted_more (listed before.passed) w.in-Internal.field-0 c.loop-word.listed before.last)
      | in-Last w ↦ rw (w.listed-is, ← w.in-Last.ensures) (counted_last w.in-Last.field-0)
    ] in
    rw c.in_ok-push.ensures.items
    (passed_more IsCount nothing-counted _ _ _ c.loop-word.listed c.match-from_raw.listed _ c.in-Some-word.word.now before
    c.in-Some-word.ensures.steps told)

pub returns : goal.returns
returns c =
    elim c.match-extra_edges.branch [
      | in-Some+in_ok-reserve+in-None w ↦
          let all : w.into_iter-word-iterator.result.iter.rest.now ≡ w.in-Some.words.now = cc in
          rw (w.counts-is, w.reverse.ensures.items)
          (passed_all IsCount nothing-counted c.args.file.now.edges _ _ _ _ w.loop-word.invariant w.in-None.ensures.steps.0
          (ap Some all ∙ w.in-Some.ensures))
      | in_default w ↦
          rw (w.counts-is, c.new-counts.ensures.items)
          (passed_nothing IsCount nothing-counted c.args.file.now.edges w.in_default.ensures)
    ]
