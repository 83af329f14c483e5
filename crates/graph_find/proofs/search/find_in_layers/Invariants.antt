-- The layers so far do not have the id, and no device has failed.
use Rattle.std.proofs.Common.{◌≡◌}
use Rattle.gix_hash_core.specs.Oid.{oid_bytes}
use Rattle.graph_find.proofs.SearchedLemmas.{SearchedTo}
use Rattle.graph_find.proofs.search.find_in_layers.Given as goal

abbrev pub invariant-loop-layer : goal.invariant-loop-layer
invariant-loop-layer g l =
    let tree_of = g.T.Folder.tree in
    let failures = g.T.Folder.failure_count in
    record {
      tree : tree_of l.folder ≡ tree_of l.fn.folder;
      failures : failures l.folder ≡ failures l.fn.folder;
      searched : SearchedTo (tree_of l.fn.folder) l.layers (oid_bytes l.id) l.layer-index l.start;
    }
