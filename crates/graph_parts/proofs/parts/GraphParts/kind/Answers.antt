-- The layers are all of one kind.
use Rattle.std.proofs.Common.{◌≡◌, Some, rules}
use Rattle.std.specs.List.{slice_get}
use Rattle.graph_parts.proofs.GraphPartLemmas.{kind-shown}
use Rattle.graph_parts.proofs.parts.GraphParts.kind.Goals as goal

pub returns-in-Some : goal.returns-in-Some
returns-in-Some c = λ known layers shows graph.
    let items = c.args.self.now.layers.items in
    let here : slice_get items 0 ≡ Some c.in-Some.lowest.now = search rules in
    kind-shown known items layers c.in-Some.lowest.now c.requires.each here shows graph
