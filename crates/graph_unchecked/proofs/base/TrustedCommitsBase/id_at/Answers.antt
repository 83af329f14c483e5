-- More is read of the same files, and what is found is so of their layers.
use Rattle.std.proofs.Common.{◌≡◌, Some, slice_get, sym, ◌∙◌}
use Rattle.gix_commitgraph.specs.Graph.{graph_ids}
use Rattle.graph_parts.proofs.TreeLemmas.{seen-more}
use Rattle.graph_unchecked.proofs.BaseLemmas.{found-of-shown}
use Rattle.graph_unchecked.proofs.base.TrustedCommitsBase.id_at.Goals as goal

pub invariant_of-self-clause-right : goal.invariant_of-self-clause-right
invariant_of-self-clause-right g c = c.read_id.ensures.parts

pub invariant_of-self-clause-of : goal.invariant_of-self-clause-of
invariant_of-self-clause-of g c = λ tree is.
    let known = g.T.Folder.tree c.args.self.now.folder.now in
    seen-more known c.args.self.now.parts.now c.read_id.new.parts c.read_id.ensures.sees c.args.self.now.of tree
    (sym c.read_id.ensures.tree ∙ is)

pub invariant_of-self-in-OutOfMemory-1-clause-right : goal.invariant_of-self-in-OutOfMemory-1-clause-right
invariant_of-self-in-OutOfMemory-1-clause-right g c = c.read_id.ensures.parts

pub invariant_of-self-in-OutOfMemory-1-clause-of : goal.invariant_of-self-in-OutOfMemory-1-clause-of
invariant_of-self-in-OutOfMemory-1-clause-of g c = λ tree is.
    let known = g.T.Folder.tree c.args.self.now.folder.now in
    seen-more known c.args.self.now.parts.now c.read_id.new.parts c.read_id.ensures.sees c.args.self.now.of tree
    (sym c.read_id.ensures.tree ∙ is)

pub invariant_of-self-in-Ok-1-clause-right : goal.invariant_of-self-in-Ok-1-clause-right
invariant_of-self-in-Ok-1-clause-right g c = c.read_id.ensures.parts

pub invariant_of-self-in-Ok-1-clause-of : goal.invariant_of-self-in-Ok-1-clause-of
invariant_of-self-in-Ok-1-clause-of g c = λ tree is.
    let known = g.T.Folder.tree c.args.self.now.folder.now in
    seen-more known c.args.self.now.parts.now c.read_id.new.parts c.read_id.ensures.sees c.args.self.now.of tree
    (sym c.read_id.ensures.tree ∙ is)

pub returns-else-self-2-clause-id : goal.returns-else-self-2-clause-id
returns-else-self-2-clause-id g c =
    let old = c.args.self.now in
    let known = g.T.Folder.tree old.folder.now in
    found-of-shown known old.parts.now c.read_id.new.parts old.failures old.folder.ghost_name old.parts.ghost_name
    (λ id layers. slice_get (graph_ids layers) c.args.pos.0 ≡ Some id) c.read_id.result
    c.read_id.ensures.sees.same (seen-more known old.parts.now c.read_id.new.parts c.read_id.ensures.sees old.of)
    c.read_id.ensures.id
