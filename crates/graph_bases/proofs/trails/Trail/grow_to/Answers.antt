use Rattle.std.proofs.Common.{◌≤◌, length, sym, arith}
use Rattle.graph_bases.proofs.TrailLemmas.{starts_same, trail_grown}
use Rattle.graph_bases.proofs.trails.Trail.grow_to.Goals as goal

pub invariant_of-self : goal.invariant_of-self
invariant_of-self c =
    let a = c.self.inside in
    let le : length a.words.items ≤ c.args.words = omega (arith, c.if-len-words.true, c.len.ensures) in
    starts_same a.words.items c.resize.new.self.items a.starts.items
    (rw c.in_ok-resize.ensures.items (trail_grown a.words.items c.args.words _ le)) c.self.invariant

pub returns-in_ok-resize-clause-same : goal.returns-in_ok-resize-clause-same
returns-in_ok-resize-clause-same c =
    let a = c.self.inside in
    let le : length a.words.items ≤ c.args.words = omega (arith, c.if-len-words.true, c.len.ensures) in
    rw (c.in_ok-resize.ensures.items, sym c.self.view_is) (trail_grown a.words.items c.args.words _ le)
