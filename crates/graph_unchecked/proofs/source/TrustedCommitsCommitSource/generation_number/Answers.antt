-- More is read of the same files.
use Rattle.std.proofs.Common.{sym, ◌∙◌}
use Rattle.graph_unchecked.proofs.source.TrustedCommitsCommitSource.generation_number.Goals as goal

pub invariant_of-self-clause-right : goal.invariant_of-self-clause-right
invariant_of-self-clause-right g c = c.read_number.ensures.reads.right

pub invariant_of-self-clause-of : goal.invariant_of-self-clause-of
invariant_of-self-clause-of g c = λ tree is.
    c.read_number.ensures.reads.of c.args.self.now.of tree (sym c.read_number.ensures.tree ∙ is)

pub invariant_of-self-in-Ok-1-clause-right : goal.invariant_of-self-in-Ok-1-clause-right
invariant_of-self-in-Ok-1-clause-right g c = c.read_number.ensures.reads.right

pub invariant_of-self-in-Ok-1-clause-of : goal.invariant_of-self-in-Ok-1-clause-of
invariant_of-self-in-Ok-1-clause-of g c = λ tree is.
    c.read_number.ensures.reads.of c.args.self.now.of tree (sym c.read_number.ensures.tree ∙ is)

pub invariant_of-self-in-OutOfMemory-1-clause-right : goal.invariant_of-self-in-OutOfMemory-1-clause-right
invariant_of-self-in-OutOfMemory-1-clause-right g c = c.read_number.ensures.reads.right

pub invariant_of-self-in-OutOfMemory-1-clause-of : goal.invariant_of-self-in-OutOfMemory-1-clause-of
invariant_of-self-in-OutOfMemory-1-clause-of g c = λ tree is.
    c.read_number.ensures.reads.of c.args.self.now.of tree (sym c.read_number.ensures.tree ∙ is)
