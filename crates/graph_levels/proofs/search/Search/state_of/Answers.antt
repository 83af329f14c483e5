use Rattle.std.proofs.Common.{sym, ◌∙◌, arith}
use Rattle.std.proofs.lemmas.List.{get_or_default}
use Rattle.graph_levels.specs.declared.level.State.TheVariants.{Unseen}
use Rattle.graph_levels.proofs.StateLemmas.{state_below, state_above}
use Rattle.graph_levels.proofs.search.Search.state_of.Goals as goal

pub returns-then-position-self : goal.returns-then-position-self
returns-then-position-self c =
    sym (state_below c.args.self.now.below.now c.args.self.now.states.items c.args.position (omega arith))

pub returns-else-position-self : goal.returns-else-position-self
returns-else-position-self c =
    let s = c.args.self.now in
    c.index.ensures
    ∙ get_or_default s.states.items _ _ Unseen (omega arith)
    ∙ sym (state_above s.below.now s.states.items c.args.position (omega arith))
