use Rattle.std.proofs.Common.{◌++◌, ◌∷◌, [], ℕ, List, sym, ap, ◌∙◌, subst, arith, get_or}
use Rattle.std.proofs.lemmas.List.{length_push}
use Rattle.graph_levels.specs.declared.level.Frame.{Frame}
use Rattle.graph_levels.specs.ParentLists.{parent_list}
use Rattle.graph_levels.specs.SearchStates.{IsSearch, FollowsFrom, work_left}
use Rattle.graph_levels.proofs.DateBounds.{small, level_bound}
use Rattle.graph_levels.proofs.SearchLemmas.{close_search, close_work, top_frame}
use Rattle.graph_levels.proofs.search.Search.close.Goals as goal

pub level_of-level-requires-clause-dates : goal.level_of-level-requires-clause-dates
level_of-level-requires-clause-dates c k lt =
    let s = c.args.self.now in
    small s.below.now s.parents.now s.times.now s.states.items s.stack.items c.requires.input c.requires.going
    (get_or c.of.result.now k 0)

pub returns-in-Some-clause-going : goal.returns-in-Some-clause-going
returns-in-Some-clause-going c =
    let s = c.args.self.now in
    let rest : List Frame = c.pop.new.self.items in
    let top : Frame = c.in-Some.frame in
    let search : IsSearch s.below.now s.parents.now s.times.now s.states.items (rest ++ top ∷ []) =
    subst (IsSearch s.below.now s.parents.now s.times.now s.states.items) c.in-Some.ensures.items c.requires.going in
    let frame = top_frame s.below.now s.parents.now s.times.now s.states.items rest top search in
    let is : FollowsFrom s.below.now s.states.items (parent_list s.parents.now top.commit) (get_or s.times.now top.commit 0)
    c.level_of-level.result =
    subst (λ (ps : List ℕ). FollowsFrom s.below.now s.states.items ps (get_or s.times.now top.commit 0) c.level_of-level.result)
    c.of.ensures c.level_of-level.ensures in
    close_search s.below.now s.parents.now s.times.now s.states.items rest top search c.level_of-level.result is
    (level_bound s.below.now s.parents.now s.times.now s.states.items (rest ++ top ∷ []) c.requires.input search
    (parent_list s.parents.now top.commit) top.commit c.level_of-level.result (work_left s.states.items rest) frame.within is
    (omega (arith, length_push rest top)))

pub returns-in-Some-clause-left : goal.returns-in-Some-clause-left
returns-in-Some-clause-left c =
    let s = c.args.self.now in
    let rest : List Frame = c.pop.new.self.items in
    let top : Frame = c.in-Some.frame in
    let search : IsSearch s.below.now s.parents.now s.times.now s.states.items (rest ++ top ∷ []) =
    subst (IsSearch s.below.now s.parents.now s.times.now s.states.items) c.in-Some.ensures.items c.requires.going in
    let frame = top_frame s.below.now s.parents.now s.times.now s.states.items rest top search in
    let is : FollowsFrom s.below.now s.states.items (parent_list s.parents.now top.commit) (get_or s.times.now top.commit 0)
    c.level_of-level.result =
    subst (λ (ps : List ℕ). FollowsFrom s.below.now s.states.items ps (get_or s.times.now top.commit 0) c.level_of-level.result)
    c.of.ensures c.level_of-level.ensures in
    close_work s.below.now s.parents.now s.times.now s.states.items rest top search c.level_of-level.result is
    (level_bound s.below.now s.parents.now s.times.now s.states.items (rest ++ top ∷ []) c.requires.input search
    (parent_list s.parents.now top.commit) top.commit c.level_of-level.result (work_left s.states.items rest) frame.within is
    (omega (arith, length_push rest top)))
    ∙ ap (work_left s.states.items) (sym c.in-Some.ensures.items)
