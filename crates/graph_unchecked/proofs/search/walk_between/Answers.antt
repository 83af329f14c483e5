-- The layers that were shown are shown still, and the source tells of them.
use Rattle.std.proofs.Common.{◌≡◌, Ok, Option, rules, sym, ap, subst, ◌∙◌}
use Rattle.graph_folder.specs.Tree.{Tree}
use Rattle.graph_parts.specs.Shown.{Shows, files_of}
use Rattle.graph_unchecked.specs.PartSource.{KnownParts}
use Rattle.graph_unchecked.proofs.FailureLemmas.{count-after, stopped-walking}
use Rattle.graph_unchecked.proofs.SearchLemmas.{reads-after, steps-unchecked, tells-after}
use Rattle.graph_unchecked.proofs.search.walk_between.Goals as goal

pub unless_failed-requires : goal.unless_failed-requires
unless_failed-requires g c = stopped-walking _ _ c.ancestor_walk-found.result c.ancestor_walk-found.ensures.refused

pub returns-in_err-reached-clause-reads : goal.returns-in_err-reached-clause-reads
returns-in_err-reached-clause-reads g c =
    let new = c.ancestor_walk-found.new.commits in
    reads-after (g.T.Folder.tree c.args.folder.now) (g.T.Folder.tree new.folder.now)
    (ap (λ (k : KnownParts). k.tree) c.ancestor_walk-found.ensures.known)
    c.args.parts.now new.parts.now _ new.right
    (ap (λ (k : KnownParts). k.files) c.ancestor_walk-found.ensures.known)
    new.of c.ancestor_walk-found.ensures.kept (search rules)

pub returns-clause-reads : goal.returns-clause-reads
returns-clause-reads g c =
    let new = c.ancestor_walk-found.new.commits in
    reads-after (g.T.Folder.tree c.args.folder.now) (g.T.Folder.tree new.folder.now)
    (ap (λ (k : KnownParts). k.tree) c.ancestor_walk-found.ensures.known)
    c.args.parts.now new.parts.now _ new.right
    (ap (λ (k : KnownParts). k.files) c.ancestor_walk-found.ensures.known)
    new.of c.ancestor_walk-found.ensures.kept (search rules)

pub returns-clause-walk : goal.returns-clause-walk
returns-clause-walk g c = λ tree is layers shows graph.
    let new = c.ancestor_walk-found.new.commits in
    let known = g.T.Folder.tree new.folder.now in
    let same : known ≡ g.T.Folder.tree c.args.folder.now =
    ap (λ (k : KnownParts). k.tree) c.ancestor_walk-found.ensures.known in
    let files : files_of new.parts.now ≡ files_of c.args.parts.now =
    ap (λ (k : KnownParts). k.files) c.ancestor_walk-found.ensures.known in
    steps-unchecked known new.parts.now layers
    (tells-after known tree (same ∙ is) c.args.parts.now new.parts.now layers files new.of
    (subst (λ (k : Option Tree). Shows k c.args.parts.now layers) (sym same) shows) graph)
    c.args.first.0 c.args.second.0 c.in_ok-reached.reached
    (rw c.in_ok-reached.ensures.answer at c.ancestor_walk-found.ensures.answer)
    (rw c.in_ok-reached.ensures.answer at c.ancestor_walk-found.ensures.right)

pub returns-clause-failures : goal.returns-clause-failures
returns-clause-failures g c =
    count-after _ _ _ _ (Ok c.in_ok-reached.reached)
    (ap (λ (k : KnownParts). k.failures) c.ancestor_walk-found.ensures.known ∙ c.failures-failures.ensures)
    c.in_ok-reached.ensures.failures (search rules)
