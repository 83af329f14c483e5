-- The layers that were shown are shown still, and the source tells of them.
use Rattle.std.proofs.Common.{◌≡◌, Ok, Option, rules, sym, ap, subst, ◌∙◌}
use Rattle.graph_folder.specs.Tree.{Tree}
use Rattle.commit_search.specs.Positions.{numbers_of}
use Rattle.graph_parts.specs.PartFiles.{commits_in_all}
use Rattle.graph_parts.specs.Shown.{Shows, files_of}
use Rattle.graph_parts.proofs.GraphPartLemmas.{count-files, shows-total}
use Rattle.graph_unchecked.specs.PartSearches.{AreBasesUnchecked}
use Rattle.graph_unchecked.specs.PartSource.{KnownParts}
use Rattle.graph_unchecked.proofs.FailureLemmas.{found-so, stopped-comparing}
use Rattle.graph_unchecked.proofs.SearchLemmas.{bases-unchecked, reads-after, tells-after}
use Rattle.graph_unchecked.proofs.search.bases_by_generations.Goals as goal

pub unless_failed-requires : goal.unless_failed-requires
unless_failed-requires g c = stopped-comparing c.compare-compared.result c.compare-compared.ensures.refused

pub returns-in-Ok-clause-reads : goal.returns-in-Ok-clause-reads
returns-in-Ok-clause-reads g c =
    let new = c.compare-compared.new.commits in
    reads-after (g.T.Folder.tree c.args.folder.now) (g.T.Folder.tree new.folder.now)
    (ap (λ (k : KnownParts). k.tree) c.compare-compared.ensures.known)
    c.args.parts.now new.parts.now _ new.right
    (ap (λ (k : KnownParts). k.files) c.compare-compared.ensures.known)
    new.of c.compare-compared.ensures.kept (search rules)

pub returns-in-Err-NotByParts-clause-reads : goal.returns-in-Err-NotByParts-clause-reads
returns-in-Err-NotByParts-clause-reads g c =
    let new = c.compare-compared.new.commits in
    reads-after (g.T.Folder.tree c.args.folder.now) (g.T.Folder.tree new.folder.now)
    (ap (λ (k : KnownParts). k.tree) c.compare-compared.ensures.known)
    c.args.parts.now new.parts.now _ new.right
    (ap (λ (k : KnownParts). k.files) c.compare-compared.ensures.known)
    new.of c.compare-compared.ensures.kept (search rules)

pub returns-in-Err-clause-reads : goal.returns-in-Err-clause-reads
returns-in-Err-clause-reads g c =
    let new = c.compare-compared.new.commits in
    reads-after (g.T.Folder.tree c.args.folder.now) (g.T.Folder.tree new.folder.now)
    (ap (λ (k : KnownParts). k.tree) c.compare-compared.ensures.known)
    c.args.parts.now new.parts.now _ new.right
    (ap (λ (k : KnownParts). k.files) c.compare-compared.ensures.known)
    new.of c.compare-compared.ensures.kept (search rules)

pub returns-in-Ok-clause-compared : goal.returns-in-Ok-clause-compared
returns-in-Ok-clause-compared g c = λ tree is layers shows graph.
    let new = c.compare-compared.new.commits in
    let old = c.args.parts.now in
    let known = g.T.Folder.tree new.folder.now in
    let same : known ≡ g.T.Folder.tree c.args.folder.now = ap (λ (k : KnownParts). k.tree) c.compare-compared.ensures.known in
    let files : files_of new.parts.now ≡ files_of old = ap (λ (k : KnownParts). k.files) c.compare-compared.ensures.known in
    let tells = tells-after known tree (same ∙ is) old new.parts.now layers files new.of
    (subst (λ (k : Option Tree). Shows k old layers) (sym same) shows) graph in
    found-so c.compare-compared.result (Ok c.in-Ok.comparison)
    (AreBasesUnchecked layers c.args.first.0 (numbers_of c.args.others.now)) (rw c.in-Ok.is at c.unless_failed.ensures.answer)
    (bases-unchecked known new.parts.now layers tells
    c.args.first.0 (numbers_of c.args.others.now) (commits_in_all (files_of old))
    (count-files old.layers.items
    ∙ shows-total (g.T.Folder.tree c.args.folder.now) old.layers.items layers shows c.requires.parts.each)
    c.compare-compared.result c.compare-compared.ensures.within c.compare-compared.ensures.visits
    c.compare-compared.ensures.common c.compare-compared.ensures.exact)
