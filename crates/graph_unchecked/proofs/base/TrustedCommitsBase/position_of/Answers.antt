-- More is read of the same files, and what is found is so of their layers.
use Rattle.std.proofs.Common.{sym, ◌∙◌}
use Rattle.gix_hash_core.specs.Oid.{oid_bytes}
use Rattle.gix_commitgraph.specs.GraphLookup.{FoundIn, position_number}
use Rattle.graph_parts.proofs.TreeLemmas.{seen-more}
use Rattle.graph_unchecked.proofs.BaseLemmas.{found-of-shown}
use Rattle.graph_unchecked.proofs.base.TrustedCommitsBase.position_of.Goals as goal

pub invariant_of-self-clause-right : goal.invariant_of-self-clause-right
invariant_of-self-clause-right g c = c.find.ensures.parts

pub invariant_of-self-clause-of : goal.invariant_of-self-clause-of
invariant_of-self-clause-of g c = λ tree is.
    let known = g.T.Folder.tree c.args.self.now.folder.now in
    seen-more known c.args.self.now.parts.now c.find.new.parts c.find.ensures.sees c.args.self.now.of tree
    (sym c.find.ensures.tree ∙ is)

pub invariant_of-self-in-OutOfMemory-1-clause-right : goal.invariant_of-self-in-OutOfMemory-1-clause-right
invariant_of-self-in-OutOfMemory-1-clause-right g c = c.find.ensures.parts

pub invariant_of-self-in-OutOfMemory-1-clause-of : goal.invariant_of-self-in-OutOfMemory-1-clause-of
invariant_of-self-in-OutOfMemory-1-clause-of g c = λ tree is.
    let known = g.T.Folder.tree c.args.self.now.folder.now in
    seen-more known c.args.self.now.parts.now c.find.new.parts c.find.ensures.sees c.args.self.now.of tree
    (sym c.find.ensures.tree ∙ is)

pub invariant_of-self-in-Ok-1-clause-right : goal.invariant_of-self-in-Ok-1-clause-right
invariant_of-self-in-Ok-1-clause-right g c = c.find.ensures.parts

pub invariant_of-self-in-Ok-1-clause-of : goal.invariant_of-self-in-Ok-1-clause-of
invariant_of-self-in-Ok-1-clause-of g c = λ tree is.
    let known = g.T.Folder.tree c.args.self.now.folder.now in
    seen-more known c.args.self.now.parts.now c.find.new.parts c.find.ensures.sees c.args.self.now.of tree
    (sym c.find.ensures.tree ∙ is)

pub returns-else-self-2-clause-found : goal.returns-else-self-2-clause-found
returns-else-self-2-clause-found g c =
    let old = c.args.self.now in
    let known = g.T.Folder.tree old.folder.now in
    found-of-shown known old.parts.now c.find.new.parts old.failures old.folder.ghost_name old.parts.ghost_name
    (λ answer layers. FoundIn layers (oid_bytes c.args.id) (position_number answer)) c.find.result
    c.find.ensures.sees.same (seen-more known old.parts.now c.find.new.parts c.find.ensures.sees old.of)
    c.find.ensures.found
