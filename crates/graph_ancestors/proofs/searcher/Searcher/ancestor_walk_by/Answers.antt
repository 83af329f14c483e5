use Rattle.std.proofs.Common.{◌≡◌}
use Rattle.commit_search.specs.Source.{Told}
use Rattle.commit_search.specs.WalkAnswer.{BothMayLead}
use Rattle.graph_ancestors.proofs.SearcherLemmas.{memory_answer_by, memory_refused_by}
use Rattle.graph_ancestors.proofs.searcher.Searcher.ancestor_walk_by.Goals as goal

pub returns-clause-answer : goal.returns-clause-answer
returns-clause-answer g c =
    let same : c.ancestor_walk_by.new.commits ≡ c.args.self.now = cc in
    memory_answer_by c.args.self.now c.ancestor_walk_by.new.commits same c.graph-graph.ensures.right c.args.from.0 c.args.to.0
    (g.R.Ranks.ranking c.args.ranks.now) c.requires.ranks c.ancestor_walk_by.result c.ancestor_walk_by.ensures.right

pub returns-clause-refused : goal.returns-clause-refused
returns-clause-refused g c =
    let same : c.ancestor_walk_by.new.commits ≡ c.args.self.now = cc in
    memory_refused_by c.args.self.now c.ancestor_walk_by.new.commits same c.graph-graph.ensures.right c.args.from.0 c.args.to.0
    (λ (t : Told). BothMayLead t.history (g.R.Ranks.ranking c.args.ranks.now t) c.args.from.0 c.args.to.0)
    c.ancestor_walk_by.result _ c.ancestor_walk_by.ensures.refused
