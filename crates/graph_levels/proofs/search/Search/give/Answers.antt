use Rattle.std.proofs.Common.{ℕ, List, get_or, subst}
use Rattle.graph_levels.specs.ParentLists.{parent_list}
use Rattle.graph_levels.specs.SearchStates.{FollowsFrom}
use Rattle.graph_levels.proofs.DateBounds.{small}
use Rattle.graph_levels.proofs.SearchLemmas.{give_search}
use Rattle.graph_levels.proofs.search.Search.give.Goals as goal

pub level_of-level-requires-clause-dates : goal.level_of-level-requires-clause-dates
level_of-level-requires-clause-dates c k lt =
    let s = c.args.self.now in
    small s.below.now s.parents.now s.times.now s.states.items s.stack.items c.requires.input c.requires.going
    (get_or c.args.visit.parents.now k 0)

pub returns-clause-going : goal.returns-clause-going
returns-clause-going c =
    let s = c.args.self.now in
    let visit = c.args.visit in
    let is : FollowsFrom s.below.now s.states.items (parent_list s.parents.now visit.commit) (get_or s.times.now visit.commit 0)
    c.level_of-level.result =
    subst (λ (ps : List ℕ). FollowsFrom s.below.now s.states.items ps (get_or s.times.now visit.commit 0) c.level_of-level.result)
    c.requires.visit.parents
    (subst (λ (time : ℕ). FollowsFrom s.below.now s.states.items visit.parents.now time c.level_of-level.result)
    c.requires.visit.time c.level_of-level.ensures) in
    give_search s.below.now s.parents.now s.times.now s.states.items s.stack.items c.requires.going visit.commit
    c.requires.visit.within c.requires.unseen c.requires.empty c.level_of-level.result c.requires.input is
