use Rattle.std.proofs.Common.{◌≡◌}
use Rattle.graph_ancestors.proofs.SearcherLemmas.{memory_found, memory_led}
use Rattle.graph_ancestors.proofs.searcher.Searcher.is_ancestor.Goals as goal

pub returns-clause-found : goal.returns-clause-found
returns-clause-found c =
    let same : c.is_ancestor.new.commits ≡ c.args.self.now = cc in
    memory_found c.args.self.now c.is_ancestor.new.commits same c.graph-graph.ensures.right c.args.descendant.0 c.args.ancestor.0
    c.is_ancestor.result c.is_ancestor.ensures.yes c.is_ancestor.ensures.no

pub returns-clause-refused : goal.returns-clause-refused
returns-clause-refused c =
    let same : c.is_ancestor.new.commits ≡ c.args.self.now = cc in
    memory_led c.args.self.now c.is_ancestor.new.commits same c.graph-graph.ensures.right c.args.descendant.0 c.args.ancestor.0
    c.is_ancestor.result _ c.is_ancestor.ensures.refused
