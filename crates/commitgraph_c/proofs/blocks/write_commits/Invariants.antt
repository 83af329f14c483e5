-- The first commits are told in the room, and the iterator has the others left.
use Rattle.std.proofs.Common.{◌≡◌, drop, map, take}
use Rattle.gix_commitgraph.specs.Graph.{graph_commits}
use Rattle.gix_commitgraph.specs.GraphRemaining.{graph_commits_left}
use Rattle.c_opening.specs.Answers.{told_commit, written}
use Rattle.commitgraph_c.proofs.blocks.write_commits.Given as goal

abbrev pub invariant-loop-place : goal.invariant-loop-place
invariant-loop-place l =
    (l.out ≡ written (take l.place (map told_commit (drop l.first (graph_commits l.graph)))) l.initial.out)
    × (graph_commits_left l.commits ≡ drop l.place (drop l.first (graph_commits l.graph)))
