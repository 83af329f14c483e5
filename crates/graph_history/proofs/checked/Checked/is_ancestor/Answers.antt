use Rattle.std.proofs.Common.{◌≡◌, ap, subst}
use Rattle.gix_commitgraph.specs.Sound.{Sound}
use Rattle.graph_ancestors.proofs.SearcherLemmas.{memory_found, memory_led}
use Rattle.graph_history.specs.RightGraph.{CheckedLayers}
use Rattle.graph_history.proofs.checked.Checked.is_ancestor.Goals as goal

pub returns-clause-found : goal.returns-clause-found
returns-clause-found c =
    let layers = c.args.self.now.layers in
    let same : c.is_ancestor.new.commits ≡ layers = cc in
    let right : Sound layers = subst Sound (ap (λ (v : CheckedLayers). v.layers) c.self.view_is) c.self.invariant.sound.sound in
    memory_found layers c.is_ancestor.new.commits same right c.args.descendant.0 c.args.ancestor.0 c.is_ancestor.result
    c.is_ancestor.ensures.yes c.is_ancestor.ensures.no

pub returns-clause-refused : goal.returns-clause-refused
returns-clause-refused c =
    let layers = c.args.self.now.layers in
    let same : c.is_ancestor.new.commits ≡ layers = cc in
    let right : Sound layers = subst Sound (ap (λ (v : CheckedLayers). v.layers) c.self.view_is) c.self.invariant.sound.sound in
    memory_led layers c.is_ancestor.new.commits same right c.args.descendant.0 c.args.ancestor.0 c.is_ancestor.result _
    c.is_ancestor.ensures.refused
