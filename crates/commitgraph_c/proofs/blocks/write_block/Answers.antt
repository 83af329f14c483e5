use Rattle.std.proofs.Common.{◌≡◌, ◌+◌, ◌-◌, ◌<◌, ◌≤◌, ◌^◌, None, Option, Some, ap, arith, drop, length, min, rules, slice_get}
use Rattle.std.proofs.Common.{subst}
use Rattle.std.specs.Prelude.{IfSome}
use Rattle.std.proofs.lemmas.Option.{slice_get_within}
use Rattle.graph_format.specs.Layer.{Layer}
use Rattle.graph_layer.specs.Commit.{layer_and_position}
use Rattle.gix_commitgraph.specs.Graph.{graph_commits, start, total}
use Rattle.commitgraph_c.proofs.BlockRoom.{block_told, last_told, next_told, none_told, only_told}
use Rattle.commitgraph_c.proofs.LayerPlaces.{IsLent, commit_ahead, few_left, first_edge, layer_lent, lent_ahead, next_layer}
use Rattle.commitgraph_c.proofs.LayerPlaces.{next_place, none_left, second_edge}
use Rattle.commitgraph_c.proofs.blocks.write_block.Goals.{After-commit_at, After-parent_fields-fields}
use Rattle.commitgraph_c.proofs.blocks.write_block.Goals.{In-loop-pos, Left-loop-layer}
use Rattle.commitgraph_c.proofs.blocks.write_block.Goals.{else-loop-layer-test, then-loop-layer-test+then-place-answers}
use Rattle.commitgraph_c.proofs.blocks.write_block.Goals as goal

-- before the first commit of a layer there is none
none_before : (o : Option Layer) → IfSome o (λ layer. 0 ≤ length layer.ids)
none_before None = tt
none_before (Some layer) = omega arith

pub loop-layer-init : goal.loop-layer-init
loop-layer-init c = record {
  told = none_told (drop c.args.first (graph_commits c.args.graph.now)) c.args.answers.now c.args.out.now;
  at = λ free. omega (arith, c.place_of-lowest.ensures.place);
  from = c.place_of-lowest.ensures.within;
  fits = omega arith;
  within = omega arith;
}

-- a layer, and where those of its commits begin of which nothing is told
module _ (c : After-parent_fields-fields) where
  lent : IsLent c.args.graph.now c.loop-layer.layer c.index-layers-layer.result c.parent_fields-fields.result.now
  lent =
      layer_lent c.args.graph.now c.layers.result.now c.loop-layer.layer c.index-layers-layer.result
      c.parent_fields-fields.result.now c.layers.ensures.graph c.layers.ensures.same
      (omega (arith, c.loop-layer-test.true, ap length c.layers-layer-end.ensures.same)) c.index-layers-layer.is
      c.parent_fields-fields.ensures

  from_fits : c.loop-layer.from ≤ length c.index-layers-layer.result.ids
  from_fits =
      subst (λ (o : Option Layer). IfSome o (λ l. c.loop-layer.from ≤ length l.ids)) lent.here c.loop-layer.invariant.from

pub overflow_sub-fields : goal.overflow_sub-fields
overflow_sub-fields c = omega (arith, from_fits c, (lent c).size)

-- the position there of which is told next
module _ (c : In-loop-pos) where
  its_layer : IsLent c.args.graph.now c.loop-layer.layer c.index-layers-layer.result c.parent_fields-fields.result.now
  its_layer = lent (goal.at.In-loop-pos c).After-parent_fields-fields

  begins : c.loop-layer.from ≤ length c.index-layers-layer.result.ids
  begins = from_fits (goal.at.In-loop-pos c).After-parent_fields-fields

  below : c.loop-pos.pos < length c.index-layers-layer.result.ids
  below = omega (arith, begins, its_layer.size)

  free : c.loop-pos.place < length c.args.answers.now
  free = omega arith

  here : slice_get (drop c.args.first (graph_commits c.args.graph.now)) c.loop-pos.place
      ≡ Some (c.index-layers-layer.result, c.loop-pos.pos)
  here =
      commit_ahead c.args.graph.now c.args.first c.loop-pos.place c.loop-layer.layer c.loop-pos.pos c.index-layers-layer.result
      its_layer.here c.loop-pos.invariant.at below

  next : start c.args.graph.now c.loop-layer.layer + (c.loop-pos.pos + 1)
      ≡ min (c.args.first + (c.loop-pos.place + 1)) (total c.args.graph.now)
  next =
      next_place c.args.graph.now c.args.first c.loop-pos.place c.loop-layer.layer c.loop-pos.pos c.index-layers-layer.result
      its_layer.here c.loop-pos.invariant.at below

  among : c.loop-pos.place + 1 ≤ length (drop c.args.first (graph_commits c.args.graph.now))
  among =
      omega (
        arith,
        slice_get_within (drop c.args.first (graph_commits c.args.graph.now)) c.loop-pos.place
            (c.index-layers-layer.result, c.loop-pos.pos) here,
      )

-- the commit there
there : (c : After-commit_at) → slice_get (drop c.args.first (graph_commits c.args.graph.now)) c.loop-pos.place
    ≡ Some (layer_and_position c.commit_at.result)
there c =
    let at = (goal.at.After-commit_at c).In-loop-pos in
    lent_ahead c.args.graph.now c.args.first c.loop-pos.place c.loop-layer.layer c.loop-pos.pos c.index-layers-layer.result
    (its_layer at).here c.loop-pos.invariant.at c.commit_at.result c.commit_at.ensures.layer c.commit_at.ensures.pos (below at)

pub commit_at-requires : goal.commit_at-requires
commit_at-requires c = below (goal.at.commit_at-requires c).In-loop-pos

pub overflow_cast-result : goal.overflow_cast-result
overflow_cast-result c =
    omega (
      arith,
      few_left c.args.graph.now c.args.first c.layers.ensures.graph,
      among (goal.at.overflow_cast-result c).In-loop-pos,
    )

pub returns-then-told-room : goal.returns-then-told-room
returns-then-told-room c =
    let at = goal.at.returns-then-told-room c in
    rw c.saturating_add.ensures
    (last_told (there at.After-commit_at) (free at.In-loop-pos) c.loop-pos.invariant.told c.write_others-told.ensures
    (omega arith))

pub loop-pos-preserved : goal.loop-pos-preserved
loop-pos-preserved c =
    let few : length c.args.out.now < 2 ^ 64 - 1 = search rules in
    let at = goal.at.loop-pos-preserved c in
    record {
      told = next_told (there at.After-commit_at) (free at.In-loop-pos) c.loop-pos.invariant.told c.write_others-told.ensures few
          (omega arith);
      at = next at.In-loop-pos;
      count = omega arith;
      within = among at.In-loop-pos;
    }

pub loop-pos-preserved-then-used-out : goal.loop-pos-preserved-then-used-out
loop-pos-preserved-then-used-out c =
    let few : length c.args.out.now < 2 ^ 64 - 1 = search rules in
    let at = (goal.at.loop-pos-preserved-then-used-out c).In-loop-pos in
    record {
      told = only_told (here at) (free at) c.loop-pos.invariant.told few (omega arith)
          (first_edge (its_layer at) c.loop-pos.pos (below at) c.if-parent-lt-NO_PARENT.true)
          (second_edge (its_layer at) c.loop-pos.pos (below at) c.if-second-eq-NO_PARENT.true);
      at = next at;
      count = omega arith;
      within = among at;
    }

pub loop-layer-preserved : goal.loop-layer-preserved
loop-layer-preserved c =
    let layers = c.args.graph.now in
    let at = (goal.at.loop-layer-preserved c).After-parent_fields-fields in
    record {
      told = c.loop-pos.invariant.told;
      at = λ free.
          next_layer layers c.args.first c.loop-pos.place c.loop-layer.layer c.loop-pos.pos c.index-layers-layer.result
          (lent at).here c.loop-pos.invariant.at
          (omega (arith, from_fits at, (lent at).size));
      from = none_before (slice_get layers (c.loop-layer.layer + 1));
      fits = omega arith;
      within = c.loop-pos.invariant.within;
    }

pub overflow_cast-result-2 : goal.overflow_cast-result-2
overflow_cast-result-2 c =
    omega (arith, few_left c.args.graph.now c.args.first c.layers-layer-end.ensures.graph, c.loop-layer.invariant.within)

-- no commit is left, or no answer is free
ended : (c : Left-loop-layer) → c.loop-layer.place < length c.args.answers.now
    → length (drop c.args.first (graph_commits c.args.graph.now)) ≤ c.loop-layer.place
ended c free = elim c.loop-layer-test.branch [
  | else-loop-layer-test w ↦
      none_left c.args.graph.now c.args.first c.loop-layer.place c.loop-layer.layer c.loop-layer.from
      (omega (arith, w.loop-layer-test.false, ap length c.layers-layer-end.ensures.same)) (c.loop-layer.invariant.at free)
  | then-loop-layer-test+then-place-answers w ↦
      absurd (omega arith)
]

pub returns : goal.returns
returns c =
    let few : length c.args.out.now < 2 ^ 64 = search rules in
    block_told c.loop-layer.invariant.told few (ended c) c.loop-layer.invariant.within
