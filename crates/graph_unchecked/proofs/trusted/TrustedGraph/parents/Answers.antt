-- The parts stay those of the graph, and what is answered is so of it.
use Rattle.std.proofs.Common.{sym, subst}
use Rattle.gix_hash_core.specs.Oid.{oid_bytes}
use Rattle.graph_parts.specs.Shown.{AreGraphParts}
use Rattle.graph_unchecked.specs.Trusted.{AreParentsFound, IsTrustedAt}
use Rattle.graph_unchecked.proofs.SourceLemmas.{reads_on}
use Rattle.graph_unchecked.proofs.TrustedLemmas.{answer-seen, of-read}
use Rattle.graph_unchecked.proofs.trusted.TrustedGraph.parents.Goals as goal

pub found_parents-requires : goal.found_parents-requires
found_parents-requires g c = record { parts = subst AreGraphParts (sym c.self.view_is) c.requires.1.right }

pub returns-clause-graph : goal.returns-clause-graph
returns-clause-graph g c = λ path of.
    let known = g.T.Folder.tree c.args.folder.now in
    let old = c.self.inside.parts in
    let new = c.found_parents.new.parts in
    of-read known path old new (reads_on known old new c.found_parents.ensures.parts c.found_parents.ensures.sees)
    (subst (IsTrustedAt known path) (sym c.self.view_is) of)

pub returns-clause-answer : goal.returns-clause-answer
returns-clause-answer g c = λ path of.
    let known = g.T.Folder.tree c.args.folder.now in
    answer-seen known path c.self.inside.parts c.found_parents.new.parts (AreParentsFound (oid_bytes c.args.id))
    c.found_parents.result
    c.found_parents.ensures.sees c.found_parents.ensures.found
    (subst (IsTrustedAt known path) (sym c.self.view_is) of)
