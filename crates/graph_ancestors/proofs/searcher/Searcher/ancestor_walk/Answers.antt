use Rattle.std.proofs.Common.{◌≡◌}
use Rattle.graph_ancestors.proofs.SearcherLemmas.{memory_answer, memory_refused}
use Rattle.graph_ancestors.proofs.searcher.Searcher.ancestor_walk.Goals as goal

pub returns-clause-answer : goal.returns-clause-answer
returns-clause-answer c =
    let same : c.ancestor_walk.new.commits ≡ c.args.self.now = cc in
    memory_answer c.args.self.now c.ancestor_walk.new.commits same c.graph-graph.ensures.right c.args.from.0 c.args.to.0
    c.ancestor_walk.result c.ancestor_walk.ensures.right

pub returns-clause-refused : goal.returns-clause-refused
returns-clause-refused c =
    let same : c.ancestor_walk.new.commits ≡ c.args.self.now = cc in
    memory_refused c.args.self.now c.ancestor_walk.new.commits same c.graph-graph.ensures.right c.args.from.0 c.args.to.0
    c.ancestor_walk.result _ c.ancestor_walk.ensures.refused
