-- The parts stay those of the graph, and what is answered is so of it.
use Rattle.std.proofs.Common.{sym, subst}
use Rattle.gix_hash_core.specs.Oid.{oid_bytes}
use Rattle.graph_parts.specs.OfTree.{AreOfTree}
use Rattle.graph_parts.specs.Shown.{AreGraphParts}
use Rattle.graph_unchecked.specs.Trusted.{IsTrustedAt}
use Rattle.graph_unchecked.specs.Unchecked.{IsFoundBetween, IsWalkUnchecked}
use Rattle.graph_unchecked.proofs.TrustedLemmas.{answer-at, of-read}
use Rattle.graph_unchecked.proofs.trusted.TrustedGraph.ancestor_walk.Goals as goal

pub walk_between_ids-requires-clause-parts : goal.walk_between_ids-requires-clause-parts
walk_between_ids-requires-clause-parts g c = subst AreGraphParts (sym c.self.view_is) c.requires.1.right

pub walk_between_ids-requires-clause-of : goal.walk_between_ids-requires-clause-of
walk_between_ids-requires-clause-of g c =
    subst (AreOfTree (g.T.Folder.tree c.args.folder.now)) (sym c.self.view_is) c.requires.1.of

pub returns-clause-graph : goal.returns-clause-graph
returns-clause-graph g c = λ path of.
    let known = g.T.Folder.tree c.args.folder.now in
    of-read known path c.self.inside.parts _ c.walk_between_ids.ensures.reads
    (subst (IsTrustedAt known path) (sym c.self.view_is) of)

pub returns-clause-answer : goal.returns-clause-answer
returns-clause-answer g c = λ path of.
    let known = g.T.Folder.tree c.args.folder.now in
    answer-at known path c.self.inside.parts
    (IsFoundBetween IsWalkUnchecked (oid_bytes c.args.first) (oid_bytes c.args.second))
    c.walk_between_ids.result c.walk_between_ids.ensures.told
    (subst (IsTrustedAt known path) (sym c.self.view_is) of)
