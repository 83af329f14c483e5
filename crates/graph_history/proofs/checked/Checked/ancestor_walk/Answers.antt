use Rattle.std.proofs.Common.{◌≡◌, ap, subst}
use Rattle.gix_commitgraph.specs.Sound.{Sound}
use Rattle.graph_ancestors.proofs.SearcherLemmas.{memory_answer, memory_refused}
use Rattle.graph_history.specs.RightGraph.{CheckedLayers}
use Rattle.graph_history.proofs.checked.Checked.ancestor_walk.Goals as goal

pub returns-clause-answer : goal.returns-clause-answer
returns-clause-answer c =
    let layers = c.args.self.now.layers in
    let same : c.ancestor_walk.new.commits ≡ layers = cc in
    let right : Sound layers = subst Sound (ap (λ (v : CheckedLayers). v.layers) c.self.view_is) c.self.invariant.sound.sound in
    memory_answer layers c.ancestor_walk.new.commits same right c.args.from.0 c.args.to.0 c.ancestor_walk.result
    c.ancestor_walk.ensures.right

pub returns-clause-refused : goal.returns-clause-refused
returns-clause-refused c =
    let layers = c.args.self.now.layers in
    let same : c.ancestor_walk.new.commits ≡ layers = cc in
    let right : Sound layers = subst Sound (ap (λ (v : CheckedLayers). v.layers) c.self.view_is) c.self.invariant.sound.sound in
    memory_refused layers c.ancestor_walk.new.commits same right c.args.from.0 c.args.to.0 c.ancestor_walk.result _
    c.ancestor_walk.ensures.refused
