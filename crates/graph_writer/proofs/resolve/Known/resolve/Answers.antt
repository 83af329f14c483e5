use Rattle.std.proofs.Common.{◌≡◌, ◌+◌, ◌++◌, ◌∷◌, ◌<◌, ℕ, List, [], Some, None, All, length, option_map, slice_get, get_or}
use Rattle.std.proofs.Common.{sym, ap, ◌∙◌, subst, arith}
use Rattle.std.proofs.lemmas.List.{get_or_default, take_all}
use Rattle.std.proofs.lemmas.Option.{slice_get_within, slice_get-get_or, slice_get-map, get_or_from_slice_get, same_Some}
use Rattle.graph_levels.specs.ParentLists.{commit_count, parent_list}
use Rattle.graph_writer.specs.Known.{ids_below, all_ids}
use Rattle.graph_writer.specs.NewCommits.{AreFirst, new_times}
use Rattle.graph_writer.specs.NewLayers.{times_in_order}
use Rattle.graph_writer.specs.declared.commit.NewCommit.{NewCommit}
use Rattle.graph_writer.proofs.positions.KnownSteps.{parent-from, if-none, lists-more, found-more, all-found, AreFoundTo}
use Rattle.graph_writer.proofs.positions.LoopSteps.{mapped-more}
use Rattle.graph_writer.proofs.resolve.Known.resolve.Goals as goal

pub loop-place-init : goal.loop-place-init
loop-place-init g c = record {
  count = c.new-lists.ensures;
  within = λ p lt. absurd (omega arith);
  ids = λ p lt. absurd (omega arith);
  found = λ p lt. absurd (omega arith);
  times = c.in_ok-times.ensures.items;
  timed = c.in_ok-times.ensures.len;
  room = c.in_ok-times.ensures.capacity;
}

pub at-commit-requires : goal.at-commit-requires
at-commit-requires g c = c.requires.order.mixed.each c.loop-place.place 0 (omega arith)

pub first_unknown-requires-clause-unknown : goal.first_unknown-requires-clause-unknown
first_unknown-requires-clause-unknown g c =
    let k = c.args.self.now in
    let i : ℕ = get_or k.order.now c.loop-place.place 0 in
    let commit = c.at-commit.result in
    parent-from (ids_below k) k.commits.now i commit _ c.at-commit.ensures
    (sym c.in_ok-parent.ensures.unknown ∙ c.in-Some.is)

pub loop-place-preserved : goal.loop-place-preserved
loop-place-preserved g c =
    let k = c.args.self.now in
    let order : List ℕ = k.order.now in
    let p : ℕ = c.loop-place.place in
    let i : ℕ = get_or order p 0 in
    let commit = c.at-commit.result in
    let inv = c.loop-place.invariant in
    let at : slice_get order p ≡ Some i = slice_get-get_or order p 0 (omega arith) in
    let here = c.at-commit.ensures in
    let none : c.in_ok-parent.field-0 ≡ None = c.in-None.is in
    let added = c.in_ok-push-in-None.ensures in
    let last : parent_list c.push.new.self (commit_count c.loop-place.lists) ≡ c.put_parents.new.positions.items =
    added.new ∙ c.deref.ensures.value in
    record {
      count = added.len ∙ ap (λ (n : ℕ). n + 1) inv.count;
      within =
          lists-more (λ _ ps. All (λ q. q < k.start + length k.commits.now) ps) c.loop-place.lists c.push.new.self p
          c.put_parents.new.positions.items inv.count added.old last inv.within
          (if-none c.in_ok-parent.field-0 _ c.in_ok-parent.ensures.within none);
      ids =
          lists-more
          (λ q ps. (j : ℕ) (other : NewCommit) → slice_get order q ≡ Some j → slice_get k.commits.now j ≡ Some other
          → AreFirst (all_ids k) ps other.parents.items)
          c.loop-place.lists c.push.new.self p c.put_parents.new.positions.items inv.count added.old last inv.ids
          (λ j other at_j there.
          let number : i ≡ j = same_Some i j (sym at ∙ at_j) in
          let same : commit ≡ other =
          same_Some commit other (sym here ∙ ap (slice_get k.commits.now) number ∙ there) in
          subst
          (λ (x : NewCommit). AreFirst (all_ids k) c.put_parents.new.positions.items x.parents.items) same
          (if-none c.in_ok-parent.field-0 _ c.in_ok-parent.ensures.ids none));
      found =
          found-more k p i at
          (parent-from (ids_below k) k.commits.now i commit _ here
          (sym c.in_ok-parent.ensures.unknown ∙ none))
          inv.found;
      times =
          c.push_reserved.ensures.items
          ∙ ap (λ (t : ℕ). c.loop-place.times.items ++ t ∷ [])
          (c.time.ensures
          ∙ sym
          (get_or_from_slice_get (new_times k.commits.now) i commit.time 0
          (slice_get-map (λ (x : NewCommit). x.time) k.commits.now i ∙ ap (option_map (λ (x : NewCommit). x.time)) here)))
          ∙ mapped-more (λ (n : ℕ). get_or (new_times k.commits.now) n 0) order c.loop-place.times.items i p (omega arith)
          (get_or_default order p 0 i (omega arith)) inv.times;
      timed = c.push_reserved.ensures.len ∙ ap (λ (n : ℕ). n + 1) inv.timed;
      room = omega (arith, inv.room, c.push_reserved.ensures.capacity);
    }

pub returns-clause-ids : goal.returns-clause-ids
returns-clause-ids g c p i commit at here =
    c.loop-place.invariant.ids p (omega (arith, slice_get_within c.args.self.now.order.now p i at)) i commit at here

pub returns-clause-found : goal.returns-clause-found
returns-clause-found g c =
    let k = c.args.self.now in
    let end : c.loop-place.place ≡ length k.order.now = omega arith in
    all-found k c.requires.order (subst (AreFoundTo k) end c.loop-place.invariant.found)

pub returns-clause-times : goal.returns-clause-times
returns-clause-times g c =
    let k = c.args.self.now in
    c.loop-place.invariant.times
    ∙ ap (times_in_order k.commits.now) (take_all c.loop-place.place k.order.now (omega arith))
