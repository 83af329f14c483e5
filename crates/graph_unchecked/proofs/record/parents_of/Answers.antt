-- The parents are those that both fields name.
use Rattle.std.proofs.Common.{◌≡◌, ◌<◌, Option, sym, subst, ◌∙◌, arith}
use Rattle.graph_folder.specs.Tree.{Tree}
use Rattle.gix_commitgraph.specs.Graph.{total}
use Rattle.graph_parts.specs.Shown.{SeesMore, Shows}
use Rattle.graph_parts.proofs.GraphPartLemmas.{sees-then, shows-total}
use Rattle.graph_unchecked.proofs.ParentLemmas.{if-ok, parents-stored}
use Rattle.graph_unchecked.proofs.record.parents_of.Goals as goal

pub returns-clause-sees : goal.returns-clause-sees
returns-clause-sees g c =
    let mid = c.commit_at.new.self in
    let new = c.named_parents.new.parts in
    sees-then (g.T.Folder.tree c.args.folder.now) c.args.parts.now mid new c.commit_at.ensures.sees
    (subst (λ (k : Option Tree). SeesMore k mid new) c.commit_at.ensures.tree c.named_parents.ensures.sees)

pub returns-clause-parents : goal.returns-clause-parents
returns-clause-parents g c =
    let known = g.T.Folder.tree c.args.folder.now in
    let old = c.args.parts.now in
    let mid = c.commit_at.new.self in
    let new = c.named_parents.new.parts in
    let first = c.commit_at.ensures.tree in
    let p = c.args.pos.0 in
    if-ok _ _ c.named_parents.result
    (λ parents named layers shows graph.
    let there = (subst (λ (k : Option Tree). SeesMore k mid new) first c.named_parents.ensures.sees).kept layers shows in
    let before = c.commit_at.ensures.sees.kept layers there in
    let at = (rw c.in-Some.is at c.in_ok-commit.ensures.stores) layers there in
    let place = c.a_commit_lies_in_its_layer.ensures layers p at.pos at.layer at.stands in
    let other = c.layer_of-layer.ensures.shown known layers before in
    let below : p < total layers =
    omega (arith, c.requires.pos, shows-total known old.layers.items layers before c.requires.parts.each) in
    let one = c.a_position_lies_in_one_layer.ensures layers p below in
    let same : c.layer_of-layer.result ≡ place.0 = one.only c.layer_of-layer.result other.0 other.1
    ∙ sym (one.only place.0 at.layer place.1) in
    named layers (subst (λ (k : Option Tree). Shows k new layers) (sym first) shows)
    ∙ parents-stored layers p c.layer_of-layer.result place.0 c.in-Some.commit at
    (c.the_history_of_a_graph_says_what_its_records_say.ensures.parents layers p at.pos at.layer graph.opened at.stands) same
    place.1)
    c.named_parents.ensures.parents
