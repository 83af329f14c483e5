-- The layers are those that the chain's heads are read of.
use Rattle.std.proofs.Common.{rules, All, List, Option, IfOk, IsTrue, sym, subst}
use Rattle.std.specs.Str.Lines.{lines}
use Rattle.gix_hash_core.specs.Oid.{oid_bytes}
use Rattle.graph_folder.specs.Tree.{Tree}
use Rattle.graph_find.specs.ChainFinding.{FindsInLayers}
use Rattle.graph_find.specs.ChainHeads.{IsHeadOfLayer}
use Rattle.graph_find.specs.declared.chain.ChainLayer.{ChainLayer}
use Rattle.graph_find.proofs.ChainHeadLemmas.{heads-read, ok-in_chain}
use Rattle.graph_find.proofs.search.search_chain.Goals as goal

pub find_in_layers-requires-clause-heads : goal.find_in_layers-requires-clause-heads
find_in_layers-requires-clause-heads g c =
    let known = g.T.Folder.tree c.args.folder.now in
    let layers = c.in-Some.layers.items in
    let heads = rw c.in-Some.is at c.in_ok-layers.ensures.heads in
    subst (λ (seen : Option Tree). All (IsHeadOfLayer seen) c.deref-2.result.now) (sym c.in_ok-layers.ensures.tree)
    (subst (λ (hs : List ChainLayer). All (IsHeadOfLayer known) hs) (sym c.deref-2.ensures.value)
    (heads-read known c.args.path.now (lines heads.text) layers heads.each))

pub returns-clause-found : goal.returns-clause-found
returns-clause-found g c =
    let known = g.T.Folder.tree c.args.folder.now in
    let id = oid_bytes c.args.id in
    let heads = rw c.in-Some.is at c.in_ok-layers.ensures.heads in
    let yes : IsTrue c.make_graph.result = search rules in
    let says = rw c.deref.ensures.value at (c.make_graph.ensures yes) in
    let found = subst (λ (hs : List ChainLayer). IfOk c.find_in_layers.result (FindsInLayers known hs id))
    c.deref-2.ensures.value
    (subst (λ (seen : Option Tree). IfOk c.find_in_layers.result (FindsInLayers seen c.deref-2.result.now id))
    c.in_ok-layers.ensures.tree c.find_in_layers.ensures.found) in
    ok-in_chain known c.args.path.now c.in-Some.layers.items id c.find_in_layers.result heads says found
