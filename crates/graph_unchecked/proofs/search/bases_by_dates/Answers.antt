-- The layers that were shown are shown still, and the source tells of them.
use Rattle.std.proofs.Common.{◌≡◌, Option, arith, rules, sym, ap, subst, ◌∙◌}
use Rattle.std.proofs.lemmas.Slice.Zip.{AllZip-long}
use Rattle.graph_folder.specs.Tree.{Tree}
use Rattle.commit_search.specs.Positions.{numbers_of}
use Rattle.graph_parts.specs.PartFiles.{commits_in_all}
use Rattle.graph_parts.specs.Shown.{Shows, files_of}
use Rattle.graph_parts.specs.ShownLayer.{ShowsLayer}
use Rattle.graph_parts.proofs.GraphPartLemmas.{count-files, shows-total}
use Rattle.graph_unchecked.specs.PartSearches.{AreBasesUnchecked}
use Rattle.graph_unchecked.specs.PartSource.{KnownParts}
use Rattle.graph_unchecked.proofs.FailureLemmas.{count-after, found-so, stopped-comparing}
use Rattle.graph_unchecked.proofs.SearchLemmas.{bases-by-dates, reads-after, tells-after}
use Rattle.graph_unchecked.proofs.search.bases_by_dates.Goals as goal

pub unless_failed-requires : goal.unless_failed-requires
unless_failed-requires g c = stopped-comparing c.compare_by-compared.result c.compare_by-compared.ensures.refused

pub returns-clause-reads : goal.returns-clause-reads
returns-clause-reads g c =
    let new = c.compare_by-compared.new.commits in
    reads-after (g.T.Folder.tree c.args.folder.now) (g.T.Folder.tree new.folder.now)
    (ap (λ (k : KnownParts). k.tree) c.compare_by-compared.ensures.known)
    c.args.parts.now new.parts.now _ new.right
    (ap (λ (k : KnownParts). k.files) c.compare_by-compared.ensures.known)
    new.of c.compare_by-compared.ensures.kept (search rules)

pub returns-clause-compared : goal.returns-clause-compared
returns-clause-compared g c = λ tree is layers shows graph.
    let new = c.compare_by-compared.new.commits in
    let old = c.args.parts.now in
    let known = g.T.Folder.tree new.folder.now in
    let same : known ≡ g.T.Folder.tree c.args.folder.now = ap (λ (k : KnownParts). k.tree) c.compare_by-compared.ensures.known in
    let files : files_of new.parts.now ≡ files_of old = ap (λ (k : KnownParts). k.files) c.compare_by-compared.ensures.known in
    let tells = tells-after known tree (same ∙ is) old new.parts.now layers files new.of
    (subst (λ (k : Option Tree). Shows k old layers) (sym same) shows) graph in
    found-so c.compare_by-compared.result c.unless_failed.result
    (AreBasesUnchecked layers c.args.first.0 (numbers_of c.args.others.now)) c.unless_failed.ensures.answer
    (bases-by-dates known new.parts.now layers tells
    c.args.first.0 (numbers_of c.args.others.now) (commits_in_all (files_of old))
    (count-files old.layers.items
    ∙ shows-total (g.T.Folder.tree c.args.folder.now) old.layers.items layers shows c.requires.parts.each)
    (c.requires.dates layers shows)
    (omega (
      arith,
      AllZip-long (ShowsLayer (g.T.Folder.tree c.args.folder.now)) old.layers.items layers shows,
      old.layers.ok,
    ))
    c.corrected_dates_fall_along_parents.ensures
    c.compare_by-compared.result c.compare_by-compared.ensures.within c.compare_by-compared.ensures.visits
    c.compare_by-compared.ensures.common c.compare_by-compared.ensures.exact)

pub returns-clause-failures : goal.returns-clause-failures
returns-clause-failures g c =
    count-after _ _ _ _ c.unless_failed.result
    (ap (λ (k : KnownParts). k.failures) c.compare_by-compared.ensures.known ∙ c.failures-failures.ensures)
    c.unless_failed.ensures.failures (search rules)
