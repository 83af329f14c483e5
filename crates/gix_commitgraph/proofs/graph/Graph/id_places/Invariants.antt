use Rattle.std.proofs.Common.{◌≡◌, length, drop}
use Rattle.gix_commitgraph.specs.Graph.{graph_commits}
use Rattle.gix_commitgraph.specs.GraphRemaining.{graph_commits_left}
use Rattle.gix_commitgraph.specs.IdPlaces.{AreIdPlaces}
use Rattle.gix_commitgraph.proofs.graph.Graph.id_places.Given as goal

abbrev pub invariant-loop-commit : goal.invariant-loop-commit
invariant-loop-commit l = record {
  left : graph_commits_left l.commit-iterator ≡ drop l.pos (graph_commits l.self);
  counted : length l.places.items ≡ l.pos;
  places : AreIdPlaces l.self l.places.items;
}
