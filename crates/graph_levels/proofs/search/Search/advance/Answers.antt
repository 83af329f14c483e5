use Rattle.std.proofs.Common.{◌≡◌, ◌-◌, ◌<◌, ℕ, sym, ap, ◌∙◌, subst, arith, length, get_or}
use Rattle.std.proofs.Math.ListN.{set}
use Rattle.std.proofs.lemmas.List.{get_or_default}
use Rattle.graph_levels.specs.declared.level.Frame.{Frame}
use Rattle.graph_levels.specs.SearchStates.{IsSearch, no_frame}
use Rattle.graph_levels.proofs.SearchLemmas.{advance_search}
use Rattle.graph_levels.proofs.search.Search.advance.Goals as goal

pub returns-clause-going : goal.returns-clause-going
returns-clause-going c =
    let s = c.args.self.now in
    let t : ℕ = length s.stack.items - 1 in
    let at : c.len-top.result - 1 ≡ t = omega arith in
    let within : t < length s.stack.items = omega arith in
    let old : c.index_mut.result.now ≡ get_or s.stack.items t no_frame =
    c.index_mut.ensures.value
    ∙ ap (λ (n : ℕ). get_or s.stack.items n c.index_mut.result.now) at
    ∙ get_or_default s.stack.items t c.index_mut.result.now no_frame within in
    let done = advance_search s.below.now s.parents.now s.times.now s.states.items s.stack.items t c.args.next c.requires.going
    within
    c.requires.before in
    subst (λ (n : ℕ). IsSearch s.below.now s.parents.now s.times.now s.states.items
    (set s.stack.items n (record { commit = c.index_mut.result.now.commit; next = c.args.next }))) (sym at)
    (subst (λ (f : Frame). IsSearch s.below.now s.parents.now s.times.now s.states.items
    (set s.stack.items t (record { commit = f.commit; next = c.args.next }))) (sym old) done)
