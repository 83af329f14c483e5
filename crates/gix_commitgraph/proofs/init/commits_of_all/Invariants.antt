use Rattle.std.proofs.Common.{◌≡◌, ◌*◌, ◌^◌, ◌≤◌, All, take}
use Rattle.graph_format.specs.Layer.{IsOpened}
use Rattle.gix_commitgraph.specs.Graph.{start}
use Rattle.gix_commitgraph.proofs.init.commits_of_all.Given as goal

abbrev pub invariant-loop-file : goal.invariant-loop-file
invariant-loop-file l = record {
  sum : l.commits ≡ start l.files l.file-index;
  small : l.commits ≤ l.file-index * 2 ^ 32;
  opened : All IsOpened (take l.file-index l.files);
}
