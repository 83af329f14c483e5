use Rattle.std.proofs.Common.{◌≡◌}
use Rattle.gix_commitgraph.specs.Graph.{start}
use Rattle.gix_commitgraph.proofs.layers.LayerStartLemmas.{StartsUpTo}
use Rattle.gix_commitgraph.proofs.init.starts_of.Given as goal

-- the starts of the layers so far, and the one that comes next
abbrev pub invariant-loop-file : goal.invariant-loop-file
invariant-loop-file l = record {
  starts : StartsUpTo l.files l.file-index l.starts.items;
  next : l.start ≡ start l.files l.file-index;
}
