use Rattle.std.proofs.Common.{◌≡◌, map, lit<, rules, tests}
use Rattle.std.proofs.lemmas.Iterator.{items_from_drains}
use Rattle.std.proofs.lemmas.Iterator.Consumers.{YieldsList-from_filter, YieldsList-at}
use Rattle.std.proofs.lemmas.Iterator.Splits.{YieldsList-from_str_split}
use Rattle.graph_format.specs.NameRule.{is_name, names_in, name_of}
use Rattle.graph_layer.proofs.NameTestLemmas.{last-is}
use Rattle.graph_layer.proofs.file.faults.file_name.Goals as goal

pub returns : goal.returns
unfolding name_of
returns c =
    let path = c.args.path.now in
    let ran = c.last.ensures.ran in
    let items : map (λ x. x.now) ran.0 ≡ names_in path =
    items_from_drains ran.0 (ran.1.1.0, ran.1.1.1, λ _. (ran.1.0, ran.1.1.2))
    (YieldsList-from_filter _ is_name
    (YieldsList-at c.filter.ensures.source
    (YieldsList-from_str_split 47 path (lit< tt) c.split.ensures.text c.split.ensures.has_more c.split.ensures.pattern))
    c.filter.ensures.closure
    (λ x b q k. search (rules, tests))) in
    last-is (λ x. x.now) ran.0 c.last.result (names_in path) ran.2 items
