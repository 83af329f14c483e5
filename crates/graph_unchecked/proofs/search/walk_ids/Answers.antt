-- The ids are read of the same layers after the search.
use Rattle.std.proofs.Common.{Option, sym, subst, ◌∙◌}
use Rattle.graph_folder.specs.Tree.{Tree}
use Rattle.graph_parts.specs.Shown.{SeesMore, Shows}
use Rattle.graph_unchecked.proofs.SearchLemmas.{no-walk, shows-after, walk-of-ids}
use Rattle.graph_unchecked.proofs.SourceLemmas.{reads_on}
use Rattle.graph_unchecked.proofs.TrustedLemmas.{reads-then}
use Rattle.graph_unchecked.proofs.search.walk_ids.Goals as goal

pub returns-in_err-ids-in-Some-clause-reads : goal.returns-in_err-ids-in-Some-clause-reads
returns-in_err-ids-in-Some-clause-reads g c =
    let known = g.T.Folder.tree c.args.folder.now in
    let mid = c.walk_between.new.parts in
    let new = c.read_ids.new.parts in
    reads-then known c.args.parts.now mid new c.walk_between.ensures.reads
    (reads_on known mid new c.read_ids.ensures.parts
    (subst (λ (k : Option Tree). SeesMore k mid new) c.walk_between.ensures.tree c.read_ids.ensures.sees))

pub returns-in_ok-ids-in-Some-clause-reads : goal.returns-in_ok-ids-in-Some-clause-reads
returns-in_ok-ids-in-Some-clause-reads g c =
    let known = g.T.Folder.tree c.args.folder.now in
    let mid = c.walk_between.new.parts in
    let new = c.read_ids.new.parts in
    reads-then known c.args.parts.now mid new c.walk_between.ensures.reads
    (reads_on known mid new c.read_ids.ensures.parts
    (subst (λ (k : Option Tree). SeesMore k mid new) c.walk_between.ensures.tree c.read_ids.ensures.sees))

pub returns-in_ok-ids-in-Some-clause-walk : goal.returns-in_ok-ids-in-Some-clause-walk
returns-in_ok-ids-in-Some-clause-walk g c = λ tree is layers shows graph.
    let mid = c.walk_between.new.parts in
    let first = c.walk_between.ensures.tree in
    let there = shows-after (g.T.Folder.tree c.args.folder.now) tree is c.args.parts.now mid layers
    c.walk_between.ensures.reads.same (c.walk_between.ensures.reads.of c.requires.of) shows in
    let seen = c.read_ids.ensures.sees.told tree (first ∙ is) layers
    (subst (λ (k : Option Tree). Shows k mid layers) (sym first) there) in
    walk-of-ids layers c.args.first.0 c.args.second.0 c.in-Some.walk c.in_ok-ids-in-Some.ids
    (rw c.in-Some.is at c.in_ok-found.ensures.walk tree is layers shows graph)
    (rw c.deref.ensures.value at c.in_ok-ids-in-Some.ensures.ids layers seen)

pub returns-in-None-clause-walk : goal.returns-in-None-clause-walk
returns-in-None-clause-walk g c = λ tree is layers shows graph.
    no-walk layers c.args.first.0 c.args.second.0
    (rw c.in-None.is at c.in_ok-found.ensures.walk tree is layers shows graph)
