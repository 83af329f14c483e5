-- The parts stay those of the graph, and what is answered is so of it.
use Rattle.std.proofs.Common.{◌∷◌, sym, subst}
use Rattle.gix_hash_core.specs.Oid.{oid_bytes}
use Rattle.graph_parts.specs.OfTree.{AreOfTree}
use Rattle.graph_parts.specs.Shown.{AreGraphParts}
use Rattle.graph_unchecked.specs.Trusted.{IsTrustedAt}
use Rattle.graph_unchecked.specs.Unchecked.{IsComparedUnchecked, IsFoundAmong}
use Rattle.graph_unchecked.proofs.TrustedLemmas.{answer-at, of-read}
use Rattle.graph_unchecked.proofs.trusted.TrustedGraph.compare.Goals as goal

pub compared_among-requires-clause-parts : goal.compared_among-requires-clause-parts
compared_among-requires-clause-parts g c = subst AreGraphParts (sym c.self.view_is) c.requires.1.right

pub compared_among-requires-clause-of : goal.compared_among-requires-clause-of
compared_among-requires-clause-of g c =
    subst (AreOfTree (g.T.Folder.tree c.args.folder.now)) (sym c.self.view_is) c.requires.1.of

pub returns-clause-graph : goal.returns-clause-graph
returns-clause-graph g c = λ path of.
    let known = g.T.Folder.tree c.args.folder.now in
    of-read known path c.self.inside.parts _ c.compared_among.ensures.reads
    (subst (IsTrustedAt known path) (sym c.self.view_is) of)

pub returns-clause-answer : goal.returns-clause-answer
returns-clause-answer g c = λ path of.
    let known = g.T.Folder.tree c.args.folder.now in
    answer-at known path c.self.inside.parts
    (IsFoundAmong IsComparedUnchecked (oid_bytes c.args.first ∷ c.args.others.now))
    c.compared_among.result c.compared_among.ensures.told
    (subst (IsTrustedAt known path) (sym c.self.view_is) of)
