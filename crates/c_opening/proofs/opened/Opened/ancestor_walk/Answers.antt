use Rattle.std.proofs.Common.{◌≡◌}
use Rattle.graph_ancestors.proofs.SearcherLemmas.{memory_answer, memory_refused}
use Rattle.c_opening.proofs.opened.Opened.ancestor_walk.Goals as goal

pub returns-in_default-clause-answer : goal.returns-in_default-clause-answer
returns-in_default-clause-answer c =
    let layers = c.args.self.now.0 in
    let same : c.ancestor_walk.new.commits ≡ layers = cc in
    memory_answer layers c.ancestor_walk.new.commits same (c.graph.ensures.right c.requires.checked) c.args.from.0 c.args.to.0
    c.ancestor_walk.result c.ancestor_walk.ensures.right

pub returns-in_default-clause-refused : goal.returns-in_default-clause-refused
returns-in_default-clause-refused c =
    let layers = c.args.self.now.0 in
    let same : c.ancestor_walk.new.commits ≡ layers = cc in
    memory_refused layers c.ancestor_walk.new.commits same (c.graph.ensures.right c.requires.checked) c.args.from.0 c.args.to.0
    c.ancestor_walk.result _ c.ancestor_walk.ensures.refused

pub returns-clause-answer : goal.returns-clause-answer
returns-clause-answer c =
    let layers = c.args.self.now.0 in
    let same : c.ancestor_walk-reached.new.commits ≡ layers = cc in
    memory_answer layers c.ancestor_walk-reached.new.commits same (c.graph.ensures.right c.requires.checked) c.args.from.0
    c.args.to.0 c.ancestor_walk-reached.result c.ancestor_walk-reached.ensures.right

pub returns-clause-refused : goal.returns-clause-refused
returns-clause-refused c =
    let layers = c.args.self.now.0 in
    let same : c.ancestor_walk-reached.new.commits ≡ layers = cc in
    memory_refused layers c.ancestor_walk-reached.new.commits same (c.graph.ensures.right c.requires.checked) c.args.from.0
    c.args.to.0 c.ancestor_walk-reached.result _ c.ancestor_walk-reached.ensures.refused
