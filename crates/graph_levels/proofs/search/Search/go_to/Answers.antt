use Rattle.std.proofs.Common.{◌≡◌, ◌≤◌, ◌-◌, ◌+◌, ◌<◌, ℕ, List, length, get_or, slice_get, Some, sym, ap, ◌∙◌, subst, arith}
use Rattle.std.proofs.lemmas.List.Elements.{All-get_or}
use Rattle.std.proofs.lemmas.Option.{slice_get_within, get_or_from_slice_get}
use Rattle.graph_levels.specs.declared.level.State.TheVariants.{Unseen}
use Rattle.graph_levels.specs.declared.level.Level.{Level}
use Rattle.graph_levels.specs.declared.lists.ParentLists.{ParentLists}
use Rattle.graph_levels.specs.OnTop.{FitTogether}
use Rattle.graph_levels.specs.ParentLists.{parent_list, commit_count}
use Rattle.graph_levels.specs.SearchStates.{no_frame}
use Rattle.graph_levels.proofs.CycleLemmas.{closes_cycle, pending_above, pending_unseen, linked_to}
use Rattle.graph_levels.proofs.search.Search.go_to.Goals as goal

-- parents are commits of the history
parent_within : (below : List Level) (parents : ParentLists) (times : List ℕ) (i index p : ℕ) → FitTogether below parents times
    → i < commit_count parents → slice_get (parent_list parents i) index ≡ Some p → p < length below + commit_count parents
parent_within below parents times i index p input within at =
    subst (λ (n : ℕ). n < length below + commit_count parents) (get_or_from_slice_get (parent_list parents i) index p 0 at)
    (All-get_or (λ q. q < length below + commit_count parents) (parent_list parents i) index 0
    (slice_get_within (parent_list parents i) index p at) (input.within i within))

pub returns-in-Open-clause-cycle : goal.returns-in-Open-clause-cycle
returns-in-Open-clause-cycle c =
    let s = c.args.self.now in
    let t : ℕ = length s.stack.items - 1 in
    let last : t + 1 ≡ length s.stack.items = omega arith in
    let above : length s.below.now ≤ c.args.parent =
    pending_above s.below.now s.states.items c.args.parent c.requires.pending in
    let within : c.args.parent < length s.below.now + commit_count s.parents.now =
    parent_within s.below.now s.parents.now s.times.now (get_or s.stack.items t no_frame).commit c.args.index c.args.parent
    c.requires.input (c.requires.going.going.frames t (omega arith)).within c.requires.parent in (
      above,
      within,
      λ h on_top.
          closes_cycle s.below.now s.parents.now s.times.now s.states.items s.stack.items c.requires.going t c.args.parent
          c.args.index last c.requires.parent above h on_top within (sym c.state_of.ensures ∙ c.in-Open.is),
    )

pub overflow_sub-parent : goal.overflow_sub-parent
overflow_sub-parent c =
    let s = c.args.self.now in
    let same = ap (λ b. length b.now) c.advance.ensures.input.below in
    omega (arith, same, pending_above s.below.now s.states.items c.args.parent c.requires.pending)

pub open-requires-clause-within : goal.open-requires-clause-within
open-requires-clause-within c =
    let s = c.args.self.now in
    let t : ℕ = length s.stack.items - 1 in
    let below = ap (λ b. length b.now) c.advance.ensures.input.below in
    let count = ap (λ b. commit_count b.now) c.advance.ensures.input.parents in
    let within : c.args.parent < length s.below.now + commit_count s.parents.now =
    parent_within s.below.now s.parents.now s.times.now (get_or s.stack.items t no_frame).commit c.args.index c.args.parent
    c.requires.input (c.requires.going.going.frames t (omega arith)).within c.requires.parent in
    omega (arith, below, count, within, pending_above s.below.now s.states.items c.args.parent c.requires.pending)

pub open-requires-clause-unseen : goal.open-requires-clause-unseen
open-requires-clause-unseen c =
    let s = c.args.self.now in
    let below = ap (λ b. length b.now) c.advance.ensures.input.below in
    ap (λ v. get_or v.items (c.args.parent - length c.advance.new.self.below.now) Unseen) c.advance.ensures.states
    ∙ ap (λ (n : ℕ). get_or s.states.items (c.args.parent - n) Unseen) below
    ∙ pending_unseen s.below.now s.states.items c.args.parent c.requires.pending
    (λ is. c.in_default.not-Open (c.state_of.ensures ∙ is))

pub open-requires-clause-link : goal.open-requires-clause-link
open-requires-clause-link c =
    let s = c.args.self.now in
    let n = c.advance.new.self in
    let t : ℕ = length n.stack.items - 1 in
    let same = c.advance.ensures.len in
    let last : t + 1 ≡ length n.stack.items = omega arith in
    let below = ap (λ b. length b.now) c.advance.ensures.input.below in
    let parent : slice_get (parent_list n.parents.now (get_or n.stack.items t no_frame).commit) c.args.index
    ≡ Some c.args.parent =
    ap (λ (k : ℕ). slice_get (parent_list n.parents.now k) c.args.index) c.advance.ensures.top
    ∙ ap (λ b. slice_get (parent_list b.now (get_or s.stack.items (length s.stack.items - 1) no_frame).commit) c.args.index)
    c.advance.ensures.input.parents
    ∙ c.requires.parent in
    linked_to n.below.now n.parents.now n.times.now n.states.items n.stack.items c.advance.ensures.going t c.args.parent
    c.args.index
    last parent (omega (arith, below, pending_above s.below.now s.states.items c.args.parent c.requires.pending))
