-- More is read of the same files.
use Rattle.std.proofs.Common.{sym, ◌∙◌}
use Rattle.graph_unchecked.proofs.dates.PartDatesRanksTrustedCommits.rank.Goals as goal

pub invariant_of-commits-clause-right : goal.invariant_of-commits-clause-right
invariant_of-commits-clause-right g c = c.read_date.ensures.reads.right

pub invariant_of-commits-clause-of : goal.invariant_of-commits-clause-of
invariant_of-commits-clause-of g c = λ tree is.
    c.read_date.ensures.reads.of c.args.commits.now.of tree (sym c.read_date.ensures.tree ∙ is)

pub invariant_of-commits-in-Ok-1-clause-right : goal.invariant_of-commits-in-Ok-1-clause-right
invariant_of-commits-in-Ok-1-clause-right g c = c.read_date.ensures.reads.right

pub invariant_of-commits-in-Ok-1-clause-of : goal.invariant_of-commits-in-Ok-1-clause-of
invariant_of-commits-in-Ok-1-clause-of g c = λ tree is.
    c.read_date.ensures.reads.of c.args.commits.now.of tree (sym c.read_date.ensures.tree ∙ is)

pub invariant_of-commits-in-OutOfMemory-1-clause-right : goal.invariant_of-commits-in-OutOfMemory-1-clause-right
invariant_of-commits-in-OutOfMemory-1-clause-right g c = c.read_date.ensures.reads.right

pub invariant_of-commits-in-OutOfMemory-1-clause-of : goal.invariant_of-commits-in-OutOfMemory-1-clause-of
invariant_of-commits-in-OutOfMemory-1-clause-of g c = λ tree is.
    c.read_date.ensures.reads.of c.args.commits.now.of tree (sym c.read_date.ensures.tree ∙ is)
