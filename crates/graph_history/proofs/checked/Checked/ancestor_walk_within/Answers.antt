use Rattle.std.proofs.Common.{rules, ◌≡◌, IsTrue, ap, inr, sym, subst}
use Rattle.gix_commitgraph.specs.Sound.{Sound}
use Rattle.commit_search.specs.Source.{told_of}
use Rattle.graph_history.specs.Limits.{bound_of}
use Rattle.graph_history.specs.RightGraph.{CheckedLayers}
use Rattle.graph_history.proofs.LimitLemmas.{walk_ended}
use Rattle.graph_history.proofs.checked.Checked.ancestor_walk_within.Goals as goal

pub returns-in-Ok-Some-clause-answer : goal.returns-in-Ok-Some-clause-answer
returns-in-Ok-Some-clause-answer c =
    let layers = c.args.self.now.layers in
    let same : c.ancestor_walk_within.new.commits.commits ≡ layers = cc in
    let right : Sound layers = subst Sound (ap (λ (v : CheckedLayers). v.layers) c.self.view_is) c.self.invariant.sound.sound in
    (rw c.in-Ok-Some.field-0-is at c.in-Ok-Some.ensures.right) (told_of layers) (ap told_of (sym same)) right.generations

pub returns-clause-refused : goal.returns-clause-refused
returns-clause-refused c =
    let layers = c.args.self.now.layers in
    let same : c.ancestor_walk_within.new.commits.commits ≡ layers = cc in
    let flagged : IsTrue (bound_of c.args.limit).flagged = search rules in
    walk_ended layers c.ancestor_walk_within.new.commits.commits same c.args.from.0 c.args.to.0 _ (inr flagged) _
    c.in-Err.error c.in-Err.ensures.refused
