use Rattle.std.proofs.Common.{◌≡◌}
use Rattle.graph_ancestors.proofs.SearcherLemmas.{memory_found, memory_led}
use Rattle.c_opening.proofs.opened.Opened.is_ancestor.Goals as goal

pub returns-in_default-clause-found : goal.returns-in_default-clause-found
returns-in_default-clause-found c =
    let layers = c.args.self.now.0 in
    let same : c.is_ancestor.new.commits ≡ layers = cc in
    memory_found layers c.is_ancestor.new.commits same (c.graph.ensures.right c.requires.checked) c.args.descendant.0
    c.args.ancestor.0 c.is_ancestor.result c.is_ancestor.ensures.yes c.is_ancestor.ensures.no

pub returns-in_default-clause-refused : goal.returns-in_default-clause-refused
returns-in_default-clause-refused c =
    let layers = c.args.self.now.0 in
    let same : c.is_ancestor.new.commits ≡ layers = cc in
    memory_led layers c.is_ancestor.new.commits same (c.graph.ensures.right c.requires.checked) c.args.descendant.0
    c.args.ancestor.0 c.is_ancestor.result _ c.is_ancestor.ensures.refused

pub returns-clause-found : goal.returns-clause-found
returns-clause-found c =
    let layers = c.args.self.now.0 in
    let same : c.is_ancestor-found.new.commits ≡ layers = cc in
    memory_found layers c.is_ancestor-found.new.commits same (c.graph.ensures.right c.requires.checked) c.args.descendant.0
    c.args.ancestor.0 c.is_ancestor-found.result c.is_ancestor-found.ensures.yes c.is_ancestor-found.ensures.no

pub returns-clause-refused : goal.returns-clause-refused
returns-clause-refused c =
    let layers = c.args.self.now.0 in
    let same : c.is_ancestor-found.new.commits ≡ layers = cc in
    memory_led layers c.is_ancestor-found.new.commits same (c.graph.ensures.right c.requires.checked) c.args.descendant.0
    c.args.ancestor.0 c.is_ancestor-found.result _ c.is_ancestor-found.ensures.refused
