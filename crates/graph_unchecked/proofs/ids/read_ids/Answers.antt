-- One id more is read, after those before it.
use Rattle.std.proofs.Common.{◌≡◌, ◌∷◌, ◌++◌, [], rules, ◌∙◌}
use Rattle.gix_commitgraph.specs.Position.{Position}
use Rattle.graph_parts.proofs.GraphPartLemmas.{sees-then}
use Rattle.graph_unchecked.proofs.IdLemmas.{ids-more}
use Rattle.graph_unchecked.proofs.ids.read_ids.Goals as goal

pub loop-pos-preserved : goal.loop-pos-preserved
loop-pos-preserved g c =
    let known = g.T.Folder.tree c.args.folder.now in
    let old = c.args.parts.now in
    let mid = c.loop-pos.parts in
    let new = c.read_id.new.parts in
    let none : Position = record { 0 = 0 } in
    let sees = rw c.loop-pos.invariant.tree at c.read_id.ensures.sees in
    let pushed : c.push.new.self.items ≡ c.loop-pos.ids.items ++ c.in_ok-id.id ∷ [] = search rules in
    record {
      tree = c.read_id.ensures.tree ∙ c.loop-pos.invariant.tree;
      failures = search rules;
      right = c.read_id.ensures.parts;
      sees = sees-then known old mid new c.loop-pos.invariant.sees sees;
      ids = λ layers shows.
          ids-more layers c.args.positions.now c.loop-pos.pos-index none c.loop-pos.ids.items c.push.new.self.items
          c.in_ok-id.id c.loop-pos-test.true (c.loop-pos.invariant.ids layers (sees.kept layers shows))
          ((rw c.loop-pos.invariant.tree at c.in_ok-id.ensures.id) layers shows) pushed;
    }
