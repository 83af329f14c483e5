-- The ids are read of the same layers after the search.
use Rattle.std.proofs.Common.{Option, sym, subst, ◌∙◌}
use Rattle.graph_folder.specs.Tree.{Tree}
use Rattle.commit_search.specs.Positions.{numbers_of}
use Rattle.graph_parts.specs.Shown.{SeesMore, Shows}
use Rattle.graph_unchecked.proofs.SearchLemmas.{bases-with-ids, shows-after}
use Rattle.graph_unchecked.proofs.SourceLemmas.{reads_on}
use Rattle.graph_unchecked.proofs.TrustedLemmas.{reads-then}
use Rattle.graph_unchecked.proofs.search.compared.Goals as goal

pub returns-in_err-base_ids-clause-reads : goal.returns-in_err-base_ids-clause-reads
returns-in_err-base_ids-clause-reads g c =
    let known = g.T.Folder.tree c.args.folder.now in
    let mid = c.bases_of.new.parts in
    let new = c.read_ids.new.parts in
    reads-then known c.args.parts.now mid new c.bases_of.ensures.reads
    (reads_on known mid new c.read_ids.ensures.parts
    (subst (λ (k : Option Tree). SeesMore k mid new) c.bases_of.ensures.tree c.read_ids.ensures.sees))

pub returns-clause-reads : goal.returns-clause-reads
returns-clause-reads g c =
    let known = g.T.Folder.tree c.args.folder.now in
    let mid = c.bases_of.new.parts in
    let new = c.read_ids.new.parts in
    reads-then known c.args.parts.now mid new c.bases_of.ensures.reads
    (reads_on known mid new c.read_ids.ensures.parts
    (subst (λ (k : Option Tree). SeesMore k mid new) c.bases_of.ensures.tree c.read_ids.ensures.sees))

pub returns-clause-compared : goal.returns-clause-compared
returns-clause-compared g c = λ tree is layers shows graph.
    let known = g.T.Folder.tree c.args.folder.now in
    let mid = c.bases_of.new.parts in
    let first = c.bases_of.ensures.tree in
    let there = shows-after known tree is c.args.parts.now mid layers c.bases_of.ensures.reads.same
    (c.bases_of.ensures.reads.of c.requires.of) shows in
    let seen = c.read_ids.ensures.sees.told tree (first ∙ is) layers
    (subst (λ (k : Option Tree). Shows k mid layers) (sym first) there) in
    bases-with-ids layers c.args.first.0 (numbers_of c.args.others.now) c.in_ok-comparison.comparison
    c.in_ok-base_ids.base_ids (c.in_ok-comparison.ensures.compared tree is layers shows graph)
    (rw c.deref.ensures.value at c.in_ok-base_ids.ensures.ids layers seen)
