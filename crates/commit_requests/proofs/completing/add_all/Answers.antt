use Rattle.std.proofs.Common.{ℕ, List, All, arith, ap, length, map}
use Rattle.std.proofs.Common.{subst, sym}
use Rattle.std.proofs.lemmas.List.{length-map}
use Rattle.std.proofs.lemmas.List.Elements.{All-contains_itself, All-weaker}
use Rattle.std.proofs.lemmas.Result.{IfErr-weaker, on_ok_weaker}
use Rattle.commit_objects.specs.CommitContents.{Said, Says}
use Rattle.commit_objects.specs.Object.{object_id_of}
use Rattle.commit_requests.specs.Completion.{IsOwnAncestor}
use Rattle.commit_requests.specs.Gathering.{IsThereOrAsked}
use Rattle.commit_requests.specs.Placing.{ParentsComeFirst, IsNumberThere}
use Rattle.commit_requests.specs.declared.order.Placed.{Placed}
use Rattle.commit_requests.proofs.CycleLemmas.{own_ancestor}
use Rattle.commit_requests.proofs.NumberLemmas.{lists_within}
use Rattle.commit_requests.proofs.RefusalLemmas.{turn_refused}
use Rattle.commit_requests.proofs.TurnLemmas.{all_there, ids_among, in_order}
use Rattle.commit_requests.proofs.completing.add_all.Goals as goal

pub parent_lists-requires-clause-readable : goal.parent_lists-requires-clause-readable
parent_lists-requires-clause-readable g c =
    let old = c.args.newer.now in
    let base = g.S.Base.finds (g.S.Base.facts old.base) in
    All-weaker
    (λ (bytes : List ℕ). (said : Said) × Says old.kind bytes said
    × All (IsThereOrAsked base old.commits c.args.requests.now.asked) said.parents)
    (λ (bytes : List ℕ). (said : Said) × Says old.kind bytes said) (λ bytes h. (h.0, h.1)) c.args.held.now
    c.requires.closed.closed

pub parent_lists-requires-clause-few : goal.parent_lists-requires-clause-few
parent_lists-requires-clause-few g c = omega (arith, c.requires.few)

pub order_of-requires-clause-few : goal.order_of-requires-clause-few
order_of-requires-clause-few g c =
    omega (
      arith,
      c.requires.few,
      c.in-Ok.ensures.as_many,
      ap length c.requires.closed.own,
      length-map c.args.held.now (object_id_of c.args.newer.now.kind),
    )

pub order_of-requires-clause-within : goal.order_of-requires-clause-within
order_of-requires-clause-within g c =
    lists_within c.args.newer.now.kind c.args.requests.now.asked c.args.held.now c.in-Ok.lists c.requires.closed.own
    c.in-Ok.ensures

pub add_each-requires : goal.add_each-requires
add_each-requires g c =
    let old = c.args.newer.now in
    let base = g.S.Base.finds (g.S.Base.facts old.base) in
    let read : List (List ℕ) = c.args.held.now in
    let places : List Placed = c.in-Ok-order_of.places.items in
    let numbers : List ℕ = map (λ (place : Placed). place.number) places in
    let order : ParentsComeFirst old.kind base old.commits read numbers =
    in_order old.kind base old.commits c.args.requests.now.asked read c.in-Ok.lists numbers c.requires.closed c.in-Ok.ensures
    c.in-Ok-order_of.ensures.order in
    record {
      order = subst
          (λ (ps : List Placed). ParentsComeFirst old.kind base old.commits read (map (λ (place : Placed). place.number) ps))
          (sym c.deref.ensures.value) order;
    }

pub returns-in-Ok-order_of-clause-added : goal.returns-in-Ok-order_of-clause-added
returns-in-Ok-order_of-clause-added g c =
    let old = c.args.newer.now in
    let base = g.S.Base.finds (g.S.Base.facts old.base) in
    let added = c.add_each.ensures.added in (
      added.0,
      added.1,
      ids_among old.kind base c.args.requests.now.asked c.args.held.now added.0 c.requires.closed.own added.2,
    )

pub returns-in-Ok-order_of-clause-all : goal.returns-in-Ok-order_of-clause-all
returns-in-Ok-order_of-clause-all g c =
    let old = c.args.newer.now in
    let new = c.add_each.new.newer in
    let base = g.S.Base.finds (g.S.Base.facts old.base) in
    let read : List (List ℕ) = c.args.held.now in
    let places : List Placed = c.in-Ok-order_of.places.items in
    let numbers : List ℕ = map (λ (place : Placed). place.number) places in
    on_ok_weaker c.add_each.result
    (λ there.
    all_there old.kind base old.commits c.args.requests.now.asked read c.in-Ok.lists numbers c.requires.closed c.in-Ok.ensures
    c.in-Ok-order_of.ensures.order new.commits
    (subst (λ (ps : List Placed). All (IsNumberThere old.kind base new.commits read) (map (λ (place : Placed). place.number) ps))
    c.deref.ensures.value there))
    c.add_each.ensures.there

pub returns-in-Ok-order_of-clause-refused : goal.returns-in-Ok-order_of-clause-refused
returns-in-Ok-order_of-clause-refused g c =
    let old = c.args.newer.now in
    let new = c.add_each.new.newer in
    let base = g.S.Base.finds (g.S.Base.facts old.base) in
    let may_fail = g.S.CommitSource.may_fail (g.S.CommitSource.known old.base) in
    IfErr-weaker c.add_each.result _ _
    (λ error refused ids known.
    turn_refused old.kind may_fail old.commits c.args.requests.now.asked known base new.commits ids c.args.held.now error
    c.requires.closed.own refused)
    c.add_each.ensures.refused

pub returns-in-Err-Cycle-clause-refused : goal.returns-in-Err-Cycle-clause-refused
returns-in-Err-Cycle-clause-refused g c =
    let old = c.args.newer.now in
    let base = g.S.Base.finds (g.S.Base.facts old.base) in
    let asked : List (List ℕ) = c.args.requests.now.asked in
    let held : List (List ℕ) = c.args.held.now in
    let cycle = rw c.in-Err-Cycle.field-0-is at c.in-Err-Cycle.ensures.cycle in
    λ ids known. (
      held,
      ids_among old.kind base asked held held c.requires.closed.own (All-contains_itself held),
      subst (IsOwnAncestor old.kind held) (sym c.object_id.ensures)
          (own_ancestor old.kind asked held c.in-Ok.lists c.requires.closed.own c.in-Ok.ensures c.in-Err-Cycle.number
          c.of-contents.result.now cycle (rw c.in-Err-Cycle.field-0-is at c.of-contents.ensures)),
    )
