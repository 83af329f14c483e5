use Rattle.std.proofs.Common.{◌≡◌, ap, subst, Ok}
use Rattle.std.specs.Prelude.{⊤}
use Rattle.gix_commitgraph.specs.Sound.{Sound}
use Rattle.commit_search.specs.Positions.{numbers_of}
use Rattle.graph_history.specs.RightGraph.{CheckedLayers}
use Rattle.graph_history.proofs.ComparisonLemmas.{memory_comparison}
use Rattle.graph_history.proofs.checked.Checked.whole_comparison.Goals as goal

pub returns-in-Ok-clause-exact : goal.returns-in-Ok-clause-exact
returns-in-Ok-clause-exact c =
    let layers = c.args.self.now.layers in
    let made : c.new-whole.result ≡ layers = cc in
    let same : c.compare.new.commits ≡ layers = cc in
    let right : Sound layers = subst Sound (ap (λ (v : CheckedLayers). v.layers) c.self.view_is) c.self.invariant.sound.sound in
    memory_comparison layers c.compare.new.commits same right c.args.first.0 (numbers_of c.args.others.now) {E = ⊤}
    (Ok c.in-Ok.comparison) (rw made at c.in-Ok.ensures.within) c.in-Ok.ensures.exact
