use Rattle.std.proofs.Common.{◌≡◌, subst}
use Rattle.gix_commitgraph.specs.Sound.{Sound}
use Rattle.commit_search.specs.Positions.{numbers_of}
use Rattle.graph_history.proofs.ComparisonLemmas.{memory_comparison}
use Rattle.graph_history.proofs.bases.Comparer.compare.Goals as goal

pub returns-clause-exact : goal.returns-clause-exact
returns-clause-exact c =
    let layers = c.args.self.now.layers in
    let made : c.new-commits.result ≡ layers = cc in
    let same : c.compare.new.commits ≡ layers = cc in
    let inside : c.self.inside.graph.now.layers ≡ layers = cc in
    memory_comparison layers c.compare.new.commits same (subst Sound inside c.graph.ensures.right.sound) c.args.first.0
    (numbers_of c.args.others.now) c.compare.result (rw made at c.compare.ensures.within) c.compare.ensures.exact
