use Rattle.std.proofs.Common.{List, sym, subst}
use Rattle.std.proofs.Math.ListN.{set}
use Rattle.graph_levels.specs.declared.level.Frame.{Frame}
use Rattle.graph_levels.specs.declared.level.State.TheVariants.{Open}
use Rattle.graph_levels.specs.SearchStates.{IsSearch}
use Rattle.graph_levels.proofs.SearchLemmas.{open_search}
use Rattle.graph_levels.proofs.search.Search.open.Goals as goal

pub returns-clause-going : goal.returns-clause-going
returns-clause-going c =
    let s = c.args.self.now in
    subst (λ (stack : List Frame). IsSearch s.below.now s.parents.now s.times.now (set s.states.items c.args.commit Open) stack)
    (sym c.in_ok-push.ensures.items)
    (open_search s.below.now s.parents.now s.times.now s.states.items s.stack.items c.requires.going c.args.commit
    c.requires.within c.requires.unseen c.requires.link)
