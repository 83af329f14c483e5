use Rattle.std.proofs.Common.{◌≡◌, ℕ, List, get_or, length, subst, arith, rules}
use Rattle.graph_levels.specs.declared.level.Level.{Level}
use Rattle.graph_levels.specs.declared.lists.ParentLists.{ParentLists}
use Rattle.graph_levels.specs.OnTop.{no_level}
use Rattle.graph_levels.specs.SearchStates.{IsSearch}
use Rattle.graph_levels.proofs.LevelLemmas.{all_local, all_right}
use Rattle.graph_levels.proofs.AcyclicLemmas.{no_cycle_on_top, no_cycle_past_all}
use Rattle.graph_levels.proofs.search.levels.Goals as goal

pub returns-clause-bounds : goal.returns-clause-bounds
returns-clause-bounds c i within =
    let inv = c.loop-commit.invariant in
    let s = c.loop-commit.search in
    let search : IsSearch c.args.below.now c.args.parents.now c.args.times.now s.states.items s.stack.items =
    subst (λ (below : List Level). IsSearch below c.args.parents.now c.args.times.now s.states.items s.stack.items) inv.below
    (subst (λ (parents : ParentLists). IsSearch s.below.now parents c.args.times.now s.states.items s.stack.items) inv.parents
    (subst (λ (times : List ℕ). IsSearch s.below.now s.parents.now times s.states.items s.stack.items) inv.times inv.going)) in
    let own = c.in_ok-found.field-0.items in
    let is = search.levels i (get_or own i no_level) (c.in_ok-found.ensures.each i (omega (arith, c.in_ok-found.ensures.len))) in
    (omega (arith, is.generation), omega (arith, is.date))

pub returns-clause-generations : goal.returns-clause-generations
returns-clause-generations c h on_top has =
    let inv = c.loop-commit.invariant in
    let s = c.loop-commit.search in
    let search : IsSearch c.args.below.now c.args.parents.now c.args.times.now s.states.items s.stack.items =
    subst (λ (below : List Level). IsSearch below c.args.parents.now c.args.times.now s.states.items s.stack.items) inv.below
    (subst (λ (parents : ParentLists). IsSearch s.below.now parents c.args.times.now s.states.items s.stack.items) inv.parents
    (subst (λ (times : List ℕ). IsSearch s.below.now s.parents.now times s.states.items s.stack.items) inv.times inv.going)) in
    all_local c.args.below.now c.args.parents.now c.args.times.now s.states.items s.stack.items c.in_ok-found.field-0.items search
    c.in_ok-found.ensures.len c.in_ok-found.ensures.each h on_top has

pub returns-clause-dates : goal.returns-clause-dates
returns-clause-dates c h all dates on_top has =
    let inv = c.loop-commit.invariant in
    let s = c.loop-commit.search in
    let search : IsSearch c.args.below.now c.args.parents.now c.args.times.now s.states.items s.stack.items =
    subst (λ (below : List Level). IsSearch below c.args.parents.now c.args.times.now s.states.items s.stack.items) inv.below
    (subst (λ (parents : ParentLists). IsSearch s.below.now parents c.args.times.now s.states.items s.stack.items) inv.parents
    (subst (λ (times : List ℕ). IsSearch s.below.now s.parents.now times s.states.items s.stack.items) inv.times inv.going)) in
    all_right c.args.below.now c.args.parents.now c.args.times.now s.states.items s.stack.items c.in_ok-found.field-0.items search
    c.in_ok-found.ensures.len c.in_ok-found.ensures.each h on_top all dates has

pub returns-clause-acyclic : goal.returns-clause-acyclic
returns-clause-acyclic c h on_top closed =
    let inv = c.loop-commit.invariant in
    let s = c.loop-commit.search in
    let search : IsSearch c.args.below.now c.args.parents.now c.args.times.now s.states.items s.stack.items =
    subst (λ (below : List Level). IsSearch below c.args.parents.now c.args.times.now s.states.items s.stack.items) inv.below
    (subst (λ (parents : ParentLists). IsSearch s.below.now parents c.args.times.now s.states.items s.stack.items) inv.parents
    (subst (λ (times : List ℕ). IsSearch s.below.now s.parents.now times s.states.items s.stack.items) inv.times inv.going)) in
    no_cycle_on_top c.args.below.now c.args.parents.now c.args.times.now s.states.items s.stack.items
    c.in_ok-found.field-0.items search
    c.in_ok-found.ensures.each h on_top closed

pub returns-then-is_empty-clause-acyclic : goal.returns-then-is_empty-clause-acyclic
returns-then-is_empty-clause-acyclic c h on_top closed p =
    let none : length c.args.times.now ≡ 0 = search rules in
    no_cycle_past_all h (length c.args.below.now) p (omega (arith, on_top.as_many, c.requires.timed, none))
