use Rattle.std.proofs.Common.{◌≡◌, ap, sym, subst}
use Rattle.gix_commitgraph.specs.Sound.{Sound}
use Rattle.commit_search.specs.Source.{told_of}
use Rattle.graph_history.specs.RightGraph.{CheckedLayers}
use Rattle.graph_history.proofs.LimitLemmas.{walk_error}
use Rattle.graph_history.proofs.checked.Checked.unflagged_walk.Goals as goal

pub returns-in-Ok-Some-clause-answer : goal.returns-in-Ok-Some-clause-answer
returns-in-Ok-Some-clause-answer c =
    let layers = c.args.self.now.layers in
    let same : c.ancestor_walk_within.new.commits ≡ layers = cc in
    let right : Sound layers = subst Sound (ap (λ (v : CheckedLayers). v.layers) c.self.view_is) c.self.invariant.sound.sound in
    (rw c.in-Ok-Some.field-0-is at c.in-Ok-Some.ensures.right) (told_of layers) (ap told_of (sym same)) right.generations

pub returns-in-Ok-None-clause-refused : goal.returns-in-Ok-None-clause-refused
returns-in-Ok-None-clause-refused c =
    let layers = c.args.self.now.layers in
    let same : c.ancestor_walk_within.new.commits ≡ layers = cc in
    (rw c.in-Ok-None.field-0-is at c.in-Ok-None.ensures.more) (told_of layers) (ap told_of (sym same))

pub returns-clause-refused : goal.returns-clause-refused
returns-clause-refused c =
    let same : c.ancestor_walk_within.new.commits ≡ c.args.self.now.layers = cc in
    walk_error c.args.self.now.layers c.ancestor_walk_within.new.commits same c.args.from.0 c.args.to.0 _
    c.in-Err.ensures.refused
