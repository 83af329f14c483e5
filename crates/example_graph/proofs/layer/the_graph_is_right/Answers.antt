use Rattle.std.proofs.Common.{[], codes}
use Rattle.std.proofs.lemmas.List.Elements.{All-nil, All-cons}
use Rattle.graph_format.specs.Layer.{IsOpened}
use Rattle.example_graph.specs.FiveCommits.{layer, file}
use Rattle.example_graph.proofs.GraphFacts.{no_fault, graph}
use Rattle.example_graph.proofs.layer.the_graph_is_right.Goals as goal

pub returns : goal.returns
unfolding file layer
returns c =
    let opened = c.the_file_is_that_of_the_layer.ensures (codes "commit-graph") in
    let all = All-cons IsOpened (layer (codes "commit-graph")) [] opened (All-nil IsOpened) in
    c.a_graph_without_fault_is_right.ensures graph all no_fault
