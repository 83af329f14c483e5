-- The search is that in the one layer.
use Rattle.std.proofs.Common.{Option, IfOk, sym, subst, ◌∙◌}
use Rattle.gix_hash_core.specs.Oid.{oid_bytes}
use Rattle.graph_folder.specs.Tree.{Tree}
use Rattle.graph_find.specs.LayerFinding.{FindsInLayer}
use Rattle.graph_find.proofs.FileFindingLemmas.{ok-in_file}
use Rattle.graph_find.proofs.search.find_in_file.Goals as goal

pub find_in_layer-requires-clause-begins : goal.find_in_layer-requires-clause-begins
find_in_layer-requires-clause-begins g c = λ tree is.
    rw c.in-Some.is at (c.in_ok-head.ensures.begins tree (sym c.in_ok-head.ensures.tree ∙ is))

pub returns-in-Some-clause-found : goal.returns-in-Some-clause-found
returns-in-Some-clause-found g c =
    let head = c.in-Some.head in
    let id = oid_bytes c.args.id in
    ok-in_file (g.T.Folder.tree c.args.folder.now) c.args.path.now head (rw c.in-Some.is at c.in_ok-head.ensures.head) id
    c.find_in_layer.result
    (subst (λ (known : Option Tree). IfOk c.find_in_layer.result (FindsInLayer known c.args.path.now head id))
    c.in_ok-head.ensures.tree c.find_in_layer.ensures.found)
