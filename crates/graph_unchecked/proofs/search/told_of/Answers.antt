-- The layers that were shown are shown still, and the source tells of them.
use Rattle.std.proofs.Common.{◌≡◌, Option, rules, sym, ap, subst, ◌∙◌}
use Rattle.graph_folder.specs.Tree.{Tree}
use Rattle.graph_parts.specs.Shown.{Shows, files_of}
use Rattle.graph_unchecked.specs.PartSource.{KnownParts}
use Rattle.graph_unchecked.specs.Unchecked.{IsToldUnchecked}
use Rattle.graph_unchecked.proofs.FailureLemmas.{count-after, found-so, stopped-telling}
use Rattle.graph_unchecked.proofs.SearchLemmas.{reads-after, tells-after, told-answered}
use Rattle.graph_unchecked.proofs.search.told_of.Goals as goal

pub unless_failed-requires : goal.unless_failed-requires
unless_failed-requires g c = stopped-telling _ _ c.is_ancestor-told.result c.is_ancestor-told.ensures.refused

pub returns-clause-reads : goal.returns-clause-reads
returns-clause-reads g c =
    let new = c.is_ancestor-told.new.commits in
    reads-after (g.T.Folder.tree c.args.folder.now) (g.T.Folder.tree new.folder.now)
    (ap (λ (k : KnownParts). k.tree) c.is_ancestor-told.ensures.known)
    c.args.parts.now new.parts.now _ new.right
    (ap (λ (k : KnownParts). k.files) c.is_ancestor-told.ensures.known)
    new.of c.is_ancestor-told.ensures.kept (search rules)

pub returns-clause-told : goal.returns-clause-told
returns-clause-told g c = λ tree is layers shows graph.
    let new = c.is_ancestor-told.new.commits in
    let old = c.args.parts.now in
    let known = g.T.Folder.tree new.folder.now in
    let same : known ≡ g.T.Folder.tree c.args.folder.now =
    ap (λ (k : KnownParts). k.tree) c.is_ancestor-told.ensures.known in
    let files : files_of new.parts.now ≡ files_of old =
    ap (λ (k : KnownParts). k.files) c.is_ancestor-told.ensures.known in
    let tells = tells-after known tree (same ∙ is) old new.parts.now layers files new.of
    (subst (λ (k : Option Tree). Shows k old layers) (sym same) shows) graph in
    found-so c.is_ancestor-told.result c.unless_failed.result (IsToldUnchecked layers c.args.first.0 c.args.second.0)
    c.unless_failed.ensures.answer
    (told-answered known new.parts.now layers tells c.args.first.0 c.args.second.0 c.is_ancestor-told.result
    c.is_ancestor-told.ensures.yes c.is_ancestor-told.ensures.no)

pub returns-clause-failures : goal.returns-clause-failures
returns-clause-failures g c =
    count-after _ _ _ _ c.unless_failed.result
    (ap (λ (k : KnownParts). k.failures) c.is_ancestor-told.ensures.known ∙ c.failures-failures.ensures)
    c.unless_failed.ensures.failures (search rules)
