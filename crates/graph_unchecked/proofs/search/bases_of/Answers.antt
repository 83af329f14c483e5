-- The search by dates goes over the same layers as the one before it.
use Rattle.std.proofs.Common.{◌<◌, All, IsTrue, Option, ℕ, rules, sym, subst, ◌∙◌}
use Rattle.graph_folder.specs.Tree.{Tree}
use Rattle.graph_format.specs.declared.Position.{Position}
use Rattle.graph_parts.specs.OfTree.{AreOfTree}
use Rattle.graph_parts.specs.Shown.{Shows}
use Rattle.graph_unchecked.specs.PartSource.{ReadsOn}
use Rattle.graph_unchecked.proofs.SearchLemmas.{shows-after}
use Rattle.graph_unchecked.proofs.SourceLemmas.{same-count}
use Rattle.graph_unchecked.proofs.TrustedLemmas.{reads-then}
use Rattle.graph_unchecked.proofs.search.bases_of.Goals as goal

pub returns-in-Some-clause-compared : goal.returns-in-Some-clause-compared
returns-in-Some-clause-compared g c = λ tree is layers shows graph.
    rw c.in-Some.is at (c.in_ok-found.ensures.compared tree is layers shows graph)

pub bases_by_dates-requires-clause-of : goal.bases_by_dates-requires-clause-of
bases_by_dates-requires-clause-of g c =
    subst (λ (k : Option Tree). AreOfTree k c.bases_by_generations.new.parts) (sym c.bases_by_generations.ensures.tree)
    (c.bases_by_generations.ensures.reads.of c.requires.of)

pub bases_by_dates-requires-clause-dates : goal.bases_by_dates-requires-clause-dates
bases_by_dates-requires-clause-dates g c = λ layers shows.
    let yes : IsTrue c.has_dates-in-None-1.result = search rules in
    c.has_dates-in-None-1.ensures yes (g.T.Folder.tree c.bases_by_generations.new.folder) layers shows

pub bases_by_dates-requires-clause-first : goal.bases_by_dates-requires-clause-first
bases_by_dates-requires-clause-first g c =
    rw (same-count (g.T.Folder.tree c.args.folder.now) c.args.parts.now c.bases_by_generations.new.parts
    c.bases_by_generations.ensures.reads) c.requires.first

pub bases_by_dates-requires-clause-others : goal.bases_by_dates-requires-clause-others
bases_by_dates-requires-clause-others g c =
    subst (λ (n : ℕ). All (λ (other : Position). other.0 < n) c.args.others.now)
    (sym (same-count (g.T.Folder.tree c.args.folder.now) c.args.parts.now c.bases_by_generations.new.parts
    c.bases_by_generations.ensures.reads))
    c.requires.others

pub returns-in-None-clause-reads : goal.returns-in-None-clause-reads
returns-in-None-clause-reads g c =
    let known = g.T.Folder.tree c.args.folder.now in
    let mid = c.bases_by_generations.new.parts in
    let new = c.bases_by_dates.new.parts in
    reads-then known c.args.parts.now mid new c.bases_by_generations.ensures.reads
    (subst (λ (k : Option Tree). ReadsOn k mid new) c.bases_by_generations.ensures.tree c.bases_by_dates.ensures.reads)

pub returns-in-None-clause-compared : goal.returns-in-None-clause-compared
returns-in-None-clause-compared g c = λ tree is layers shows graph.
    let mid = c.bases_by_generations.new.parts in
    let same = c.bases_by_generations.ensures.tree in
    let there = shows-after (g.T.Folder.tree c.args.folder.now) tree is c.args.parts.now mid layers
    c.bases_by_generations.ensures.reads.same (c.bases_by_generations.ensures.reads.of c.requires.of) shows in
    c.bases_by_dates.ensures.compared tree (same ∙ is) layers (subst (λ (k : Option Tree). Shows k mid layers) (sym same) there)
    graph
