-- The line is put together of what was counted.
use Rattle.std.proofs.Common.{◌++◌, List, ℕ, ap, length}
use Rattle.std.specs.Prelude.{codes, decimal}
use Rattle.graph_walks.specs.Counts.{greatest}
use Rattle.graph_walks.specs.History.{generations}
use Rattle.graph_format.specs.StoredHistory.{history_of}
use Rattle.gix_commitgraph.specs.Graph.{total}
use Rattle.graph_commands.specs.Text.{newline}
use Rattle.show_commands.specs.Show.{graph_line}
use Rattle.show_commands.proofs.LinesLemmas.{line_of_counts, same_text}
use Rattle.show_commands.proofs.run.write_totals.Goals as goal

pub returns : goal.returns
returns g c =
    let graph = c.args.graph.now in
    same_text c.write_line.result _ _ _ (graph_line graph) c.write_line.ensures.written
    (rw (
      c.layers.ensures.same,
      c.num_commits-commits.ensures.commits,
      c.greatest_generation-generation.ensures,
    ) (ap (λ (counts : List ℕ). codes "graph layers " ++ counts)
    (line_of_counts (decimal (length graph)) (codes " commits ") (decimal (total graph)) (codes " generation ")
    (decimal (greatest (generations (history_of graph)))) newline)))
