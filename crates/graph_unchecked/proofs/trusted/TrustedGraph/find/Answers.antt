-- The parts stay those of the graph, and what is answered is so of it.
use Rattle.std.proofs.Common.{sym, subst}
use Rattle.gix_hash_core.specs.Oid.{oid_bytes}
use Rattle.graph_parts.specs.Shown.{AreGraphParts}
use Rattle.graph_unchecked.specs.Trusted.{IsCommitFound, IsTrustedAt}
use Rattle.graph_unchecked.proofs.SourceLemmas.{reads_on}
use Rattle.graph_unchecked.proofs.TrustedLemmas.{answer-seen, of-read}
use Rattle.graph_unchecked.proofs.trusted.TrustedGraph.find.Goals as goal

pub found_commit-requires : goal.found_commit-requires
found_commit-requires g c = record { parts = subst AreGraphParts (sym c.self.view_is) c.requires.1.right }

pub returns-clause-graph : goal.returns-clause-graph
returns-clause-graph g c = λ path of.
    let known = g.T.Folder.tree c.args.folder.now in
    let old = c.self.inside.parts in
    let new = c.found_commit.new.parts in
    of-read known path old new (reads_on known old new c.found_commit.ensures.parts c.found_commit.ensures.sees)
    (subst (IsTrustedAt known path) (sym c.self.view_is) of)

pub returns-clause-answer : goal.returns-clause-answer
returns-clause-answer g c = λ path of.
    let known = g.T.Folder.tree c.args.folder.now in
    answer-seen known path c.self.inside.parts c.found_commit.new.parts (IsCommitFound (oid_bytes c.args.id))
    c.found_commit.result
    c.found_commit.ensures.sees c.found_commit.ensures.found
    (subst (IsTrustedAt known path) (sym c.self.view_is) of)
