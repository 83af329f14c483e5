use Rattle.std.proofs.Common.{◌≡◌, ◌==◌, ◌+◌, ◌++◌, ◌<◌, ◌≤◌, ℕ, false, List, Some, None, All, inl, inr, length, slice_get}
use Rattle.std.proofs.Common.{refl, sym, ap, ◌∙◌, subst, arith}
use Rattle.std.proofs.lemmas.Bool.{lt-ltb, le-ltb}
use Rattle.std.proofs.lemmas.Result.{err_from_is_err_and}
use Rattle.gix_commitgraph.specs.Graph.{graph_ids, total}
use Rattle.graph_format.specs.Layer.{Layer}
use Rattle.graph_format.specs.declared.TheConstants.{MAX_COMMITS}
use Rattle.graph_levels.specs.ParentLists.{commit_count, parent_list}
use Rattle.graph_writer.specs.NewCommits.{layers_of_below, AreFirst}
use Rattle.graph_writer.specs.NewLayers.{ids_in_order, times_in_order}
use Rattle.graph_writer.specs.SortedPlaces.{IsOrder}
use Rattle.graph_writer.specs.declared.commit.NewCommit.{NewCommit}
use Rattle.graph_writer.specs.declared.new_layer.NewLayer.{NewLayer}
use Rattle.graph_writer.proofs.layers.NewLayerSteps.{new-layer}
use Rattle.graph_writer.proofs.layers.RefusalSteps.{own_fault, refused-plain, refused-twice, refused-below, refused-many}
use Rattle.graph_writer.proofs.layers.RefusalSteps.{refused-later}
use Rattle.graph_writer.proofs.layers.RefusalSteps.{refused-parent, refused-nothing, plain-own, plain-some}
use Rattle.graph_writer.proofs.new_layer.NewLayer.with_times.Goals as goal

pub returns-in_err-check_alone-clause-refusal : goal.returns-in_err-check_alone-clause-refusal
returns-in_err-check_alone-clause-refusal g c =
    let layers : List Layer = layers_of_below c.args.below in
    let handed = err_from_is_err_and c.from_residual.result c.from_residual.ensures.1 in
    rw (handed.1, handed.2)
    (inl
    (refused-plain layers c.args.commits.now _
    (omega (arith, c.number_below-start.ensures.commits, c.number_below-start.ensures.few))
    c.in_err-check_alone.ensures))

pub returns-in_err-order-clause-refusal : goal.returns-in_err-order-clause-refusal
returns-in_err-order-clause-refusal g c =
    let layers : List Layer = layers_of_below c.args.below in
    let commits = c.args.commits.now in
    let own : own_fault layers commits ≡ None = plain-own layers commits c.in_ok-check_alone.ensures in
    let handed = err_from_is_err_and c.from_residual-in_err-order.result c.from_residual-in_err-order.ensures.1 in
    rw (handed.1, handed.2)
    (elim c.in_err-order.ensures.twice [
      | inl memory ↦ inr (memory, c.in_ok-check_alone.ensures)
      | inr is ↦ inl (refused-twice layers commits _ own is)
    ])

pub returns-in_err-check_all_new-clause-refusal : goal.returns-in_err-check_all_new-clause-refusal
returns-in_err-check_all_new-clause-refusal g c =
    let layers : List Layer = layers_of_below c.args.below in
    let commits = c.args.commits.now in
    let own : own_fault layers commits ≡ None = plain-own layers commits c.in_ok-check_alone.ensures in
    let handed = err_from_is_err_and c.from_residual-in_err-check_all_new.result c.from_residual-in_err-check_all_new.ensures.1 in
    rw (handed.1, handed.2)
    (inl (refused-below layers commits _ own c.in_ok-order.ensures.once c.in_err-check_all_new.ensures))

pub returns-then-len-start-clause-refusal : goal.returns-then-len-start-clause-refusal
returns-then-len-start-clause-refusal g c =
    let layers : List Layer = layers_of_below c.args.below in
    let commits = c.args.commits.now in
    let own : own_fault layers commits ≡ None = plain-own layers commits c.in_ok-check_alone.ensures in
    let many : MAX_COMMITS < total layers + length commits =
    omega (arith, c.if-len-start.true, c.len.ensures, c.number_below-start.ensures.commits, c.number_below-start.ensures.few) in
    inl
    (refused-many layers commits own c.in_ok-order.ensures.once c.in_ok-check_all_new.ensures
    (lt-ltb MAX_COMMITS (total layers + length commits) many))

pub returns-in_err-parents-clause-refusal : goal.returns-in_err-parents-clause-refusal
returns-in_err-parents-clause-refusal g c =
    let layers : List Layer = layers_of_below c.args.below in
    let commits = c.args.commits.now in
    let own : own_fault layers commits ≡ None = plain-own layers commits c.in_ok-check_alone.ensures in
    let few : total layers + length commits ≤ MAX_COMMITS =
    omega (arith, c.if-len-start.false, c.len.ensures, c.number_below-start.ensures.commits, c.number_below-start.ensures.few) in
    let handed = err_from_is_err_and c.from_residual-in_err-parents.result c.from_residual-in_err-parents.ensures.1 in
    rw (handed.1, handed.2)
    (elim c.in_err-parents.ensures.unknown [
      | inl memory ↦ inr (memory, c.in_ok-check_alone.ensures)
      | inr is ↦
          inl
          (refused-later layers commits (Some _) own c.in_ok-order.ensures.once c.in_ok-check_all_new.ensures
          (le-ltb MAX_COMMITS (total layers + length commits) few) (refused-parent layers commits _ is))
    ])

pub resolve-requires : goal.resolve-requires
resolve-requires g c = record {
  start = c.number_below-start.ensures.commits;
  order = subst (IsOrder c.args.commits.now) (sym c.deref-2.ensures.value) c.in_ok-order.ensures.order;
  few = omega (arith, c.if-len-start.false, c.len.ensures, c.number_below-start.ensures.few);
  fresh = c.in_ok-check_all_new.ensures;
}

pub returns-clause-layer : goal.returns-clause-layer
returns-clause-layer g c =
    let layers : List Layer = layers_of_below c.args.below in
    let commits = c.args.commits.now in
    let parents = c.in_ok-parents.parents in
    let new : NewLayer = record { order = c.in_ok-order.order; parents = parents } in
    new-layer commits layers new c.in_ok-order.ensures.order
    (c.in_ok-parents.ensures.count ∙ ap length c.deref-2.ensures.value)
    (subst (λ (s : ℕ). (p : ℕ) → p < commit_count parents → All (λ q. q < s + length commits) (parent_list parents p))
    c.number_below-start.ensures.commits c.in_ok-parents.ensures.within)
    (subst
    (λ (xs : List ℕ). (p i : ℕ) (commit : NewCommit) → slice_get xs p ≡ Some i → slice_get commits i ≡ Some commit
    → AreFirst (graph_ids layers ++ ids_in_order commits xs) (parent_list parents p) commit.parents.items)
    c.deref-2.ensures.value c.in_ok-parents.ensures.ids)

pub returns-clause-accepted : goal.returns-clause-accepted
returns-clause-accepted g c =
    let layers : List Layer = layers_of_below c.args.below in
    let commits = c.args.commits.now in
    let own : own_fault layers commits ≡ None = plain-own layers commits c.in_ok-check_alone.ensures in
    let few : total layers + length commits ≤ MAX_COMMITS =
    omega (arith, c.if-len-start.false, c.len.ensures, c.number_below-start.ensures.commits, c.number_below-start.ensures.few) in
    let some : (length commits == 0) ≡ false = plain-some layers commits c.in_ok-check_alone.ensures in
    refused-later layers commits None own c.in_ok-order.ensures.once c.in_ok-check_all_new.ensures
    (le-ltb MAX_COMMITS (total layers + length commits) few)
    (refused-nothing layers commits false None c.in_ok-parents.ensures.found some refl)

pub returns-clause-times : goal.returns-clause-times
returns-clause-times g c =
    c.in_ok-parents.ensures.times ∙ ap (times_in_order c.args.commits.now) c.deref-2.ensures.value
