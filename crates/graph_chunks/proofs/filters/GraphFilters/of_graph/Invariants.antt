-- The layers so far are not refused, and are kept where there was memory.
use Rattle.std.proofs.Common.{◌≡◌, true, None, take}
use Rattle.gix_chunk_core.specs.FirstFault.{first_below}
use Rattle.gix_commitgraph.specs.Graph.{start}
use Rattle.graph_chunks.specs.GraphFilters.{filters_fault, settings_of}
use Rattle.graph_chunks.specs.KeptFilters.{AreKept}
use Rattle.graph_chunks.proofs.filters.GraphFilters.of_graph.Given as goal

abbrev pub invariant-loop-layer : goal.invariant-loop-layer
invariant-loop-layer l = record {
  counted : l.before ≡ start l.graph l.layer;
  lowest : l.settings ≡ settings_of (take l.layer l.graph);
  read : first_below (filters_fault l.graph) l.layer ≡ None;
  kept : l.kept_all ≡ true → AreKept l.graph (settings_of l.graph) l.layer l.layers.items;
}
