-- The heads make the layers.
use Rattle.std.proofs.Common.{IsTrue, List, map, rules, subst, sym}
use Rattle.std.specs.Str.Lines.{lines}
use Rattle.graph_find.specs.PartsRead.{HeadsWereRead}
use Rattle.graph_find.specs.declared.chain.ChainLayer.{ChainLayer}
use Rattle.graph_parts.specs.declared.layer.LayerParts.{LayerParts}
use Rattle.graph_parts.proofs.GivenLemmas.{heads-alone}
use Rattle.graph_parts.proofs.OpeningLemmas.{chain-heads, chain-parts}
use Rattle.graph_parts.proofs.opening.open_chain_parts.Goals as goal

pub parts_of-requires : goal.parts_of-requires
parts_of-requires g c =
    chain-heads (g.T.Folder.tree c.args.folder.now) c.args.path.now c.in-Some.files.items
    (rw c.in-Some.is at c.in_ok-files.ensures.heads)

pub returns-clause-opened : goal.returns-clause-opened
returns-clause-opened g c =
    let yes : IsTrue c.make_graph.result = search rules in
    chain-parts (g.T.Folder.tree c.args.folder.now) c.args.path.now c.in-Some.files.items _
    (rw c.in-Some.is at c.in_ok-files.ensures.heads)
    (rw c.deref.ensures.value at (c.make_graph.ensures yes))
    c.in_ok-layers.ensures.parts

pub returns-clause-given : goal.returns-clause-given
returns-clause-given g c =
    let gives = g.T.Folder.gives_part in
    let unread = c.in_ok-layers.ensures.parts in
    let layers = c.in_ok-layers.layers.items in
    let named : HeadsWereRead g.T.Folder.gives gives c.args.path.now (map (λ (part : LayerParts). part.file) layers) =
    subst (λ (files : List ChainLayer). HeadsWereRead g.T.Folder.gives gives c.args.path.now files) (sym unread.same)
    (rw c.in-Some.is at c.in_ok-files.ensures.given) in
    (named, heads-alone gives c.args.path.now (lines named.text) layers named.each unread.none)
