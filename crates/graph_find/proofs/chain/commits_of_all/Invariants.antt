use Rattle.std.proofs.Common.{◌≡◌, ◌*◌, ◌^◌, ◌≤◌, take}
use Rattle.std.specs.List.{sum_by}
use Rattle.graph_find.proofs.ChainHeadLemmas.{counts}
use Rattle.graph_find.proofs.chain.commits_of_all.Given as goal

abbrev pub invariant-loop-layer : goal.invariant-loop-layer
invariant-loop-layer l = record {
  sum : l.commits ≡ sum_by counts (take l.layer-index l.layers);
  small : l.commits ≤ l.layer-index * 2 ^ 32;
}
