use Rattle.std.proofs.Common.{rules}
use Rattle.gix_commitgraph.specs.OpenAlways.{IsFromChain}
use Rattle.gix_commitgraph.specs.WasRead.{ChainWasRead}
use Rattle.gix_commitgraph.proofs.opening.OpenedPathLemmas.{graph_from, graph_given}
use Rattle.gix_commitgraph.proofs.opening.chain.open_chain_dir_in.Goals as goal

pub returns-clause-from : goal.returns-clause-from
returns-clause-from g c =
    let graph = c.new_graph.ensures in
    graph_from (IsFromChain c.args.path.now) c.in_ok-files.files.items c.new_graph.result c.in_ok-files.ensures.from graph.layers
    graph.errors

-- the lines of the text that was read name the layers that were read
pub returns-clause-given : goal.returns-clause-given
returns-clause-given g c =
    let files = c.in_ok-files.ensures in
    let was : ChainWasRead g.T.Folder.gives c.args.path.now c.in_ok-files.files.items = record {
      text = c.in_ok-text.text.items;
      given = c.in_ok-text.ensures.given;
      named = search rules;
      read = files.given;
    } in
    graph_given _ c.in_ok-files.files.items c.new_graph.result was c.new_graph.ensures.layers
