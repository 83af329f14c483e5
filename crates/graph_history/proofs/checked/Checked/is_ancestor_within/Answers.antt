use Rattle.std.proofs.Common.{rules, ◌≡◌, IsTrue, ap, inr, subst}
use Rattle.gix_commitgraph.specs.Sound.{Sound}
use Rattle.graph_history.specs.Limits.{bound_of}
use Rattle.graph_history.specs.RightGraph.{CheckedLayers}
use Rattle.graph_history.proofs.LimitLemmas.{found_there, found_within, lead_ended}
use Rattle.graph_history.proofs.checked.Checked.is_ancestor_within.Goals as goal

pub returns-in-Ok-Some-clause-found : goal.returns-in-Ok-Some-clause-found
returns-in-Ok-Some-clause-found c =
    let layers = c.args.self.now.layers in
    let same : c.is_ancestor_within.new.commits.commits ≡ layers = cc in
    let right : Sound layers = subst Sound (ap (λ (v : CheckedLayers). v.layers) c.self.view_is) c.self.invariant.sound.sound in
    found_there layers c.is_ancestor_within.new.commits.commits same c.args.descendant.0 c.args.ancestor.0 right
    c.in-Ok-Some.found c.in-Ok-Some.field-0-0-1 (rw c.in-Ok-Some.field-0-is at c.in-Ok-Some.ensures.yes)
    (rw c.in-Ok-Some.field-0-is at c.in-Ok-Some.ensures.no)

pub returns-in-Ok-Some-clause-within : goal.returns-in-Ok-Some-clause-within
returns-in-Ok-Some-clause-within c =
    let layers = c.args.self.now.layers in
    let same : c.is_ancestor_within.new.commits.commits ≡ layers = cc in
    let right : Sound layers = subst Sound (ap (λ (v : CheckedLayers). v.layers) c.self.view_is) c.self.invariant.sound.sound in
    found_within layers c.is_ancestor_within.new.commits.commits same c.args.descendant.0 c.args.ancestor.0 right
    c.in-Ok-Some.found c.in-Ok-Some.field-0-0-1 (rw c.in-Ok-Some.field-0-is at c.in-Ok-Some.ensures.yes)
    (rw c.in-Ok-Some.field-0-is at c.in-Ok-Some.ensures.above) c.args.limit.visits
    (rw c.in-Ok-Some.field-0-is at c.in-Ok-Some.ensures.within)

pub returns-clause-refused : goal.returns-clause-refused
returns-clause-refused c =
    let layers = c.args.self.now.layers in
    let same : c.is_ancestor_within.new.commits.commits ≡ layers = cc in
    let flagged : IsTrue (bound_of c.args.limit).flagged = search rules in
    lead_ended layers c.is_ancestor_within.new.commits.commits same c.args.descendant.0 c.args.ancestor.0 _ (inr flagged) _
    c.in-Err.error c.in-Err.ensures.refused
