-- More is read of the same files.
use Rattle.std.proofs.Common.{sym, ◌∙◌}
use Rattle.graph_parts.specs.PartFiles.{commits_in_all}
use Rattle.graph_parts.specs.Shown.{files_of}
use Rattle.graph_parts.specs.Spots.{LiesInFile}
use Rattle.graph_unchecked.specs.PartSource.{IsWordOf}
use Rattle.graph_unchecked.proofs.SourceLemmas.{fields-again}
use Rattle.graph_unchecked.proofs.source.TrustedCommitsCommitSource.parent_fields.Goals as goal

pub invariant_of-self-clause-right : goal.invariant_of-self-clause-right
invariant_of-self-clause-right g c = c.read_fields.ensures.reads.right

pub invariant_of-self-clause-of : goal.invariant_of-self-clause-of
invariant_of-self-clause-of g c = λ tree is.
    c.read_fields.ensures.reads.of c.args.self.now.of tree (sym c.read_fields.ensures.tree ∙ is)

pub invariant_of-self-in-Ok-1-clause-right : goal.invariant_of-self-in-Ok-1-clause-right
invariant_of-self-in-Ok-1-clause-right g c = c.read_fields.ensures.reads.right

pub invariant_of-self-in-Ok-1-clause-of : goal.invariant_of-self-in-Ok-1-clause-of
invariant_of-self-in-Ok-1-clause-of g c = λ tree is.
    c.read_fields.ensures.reads.of c.args.self.now.of tree (sym c.read_fields.ensures.tree ∙ is)

pub invariant_of-self-in-OutOfMemory-1-clause-right : goal.invariant_of-self-in-OutOfMemory-1-clause-right
invariant_of-self-in-OutOfMemory-1-clause-right g c = c.read_fields.ensures.reads.right

pub invariant_of-self-in-OutOfMemory-1-clause-of : goal.invariant_of-self-in-OutOfMemory-1-clause-of
invariant_of-self-in-OutOfMemory-1-clause-of g c = λ tree is.
    c.read_fields.ensures.reads.of c.args.self.now.of tree (sym c.read_fields.ensures.tree ∙ is)

pub returns-else-self-eq0-2-clause-fields : goal.returns-else-self-eq0-2-clause-fields
returns-else-self-eq0-2-clause-fields g c =
    let files = files_of c.args.self.now.parts.now in
    fields-again (g.T.Folder.tree c.args.self.now.folder.now) _ c.read_fields.ensures.tree c.read_fields.new.parts
    (commits_in_all files) (IsWordOf files) (LiesInFile files) c.args.pos.0 c.read_fields.result c.read_fields.ensures.fields
