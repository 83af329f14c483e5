-- What is answered is so of the layers that were shown.
use Rattle.std.proofs.Common.{Option, sym, subst, ◌∙◌}
use Rattle.gix_hash_core.specs.Oid.{oid_bytes}
use Rattle.graph_folder.specs.Tree.{Tree}
use Rattle.graph_parts.specs.OfTree.{AreOfTree}
use Rattle.graph_parts.specs.Shown.{Shows}
use Rattle.graph_parts.proofs.TreeLemmas.{seen-more}
use Rattle.graph_unchecked.specs.PartSource.{ReadsOn}
use Rattle.graph_unchecked.specs.Unchecked.{IsWalkUnchecked}
use Rattle.graph_unchecked.proofs.SourceLemmas.{reads_on}
use Rattle.graph_unchecked.proofs.TrustedLemmas.{both-found, reads-then}
use Rattle.graph_unchecked.proofs.search.walk_between_ids.Goals as goal

pub walk_ids-requires-clause-of : goal.walk_ids-requires-clause-of
walk_ids-requires-clause-of g c =
    subst (λ (k : Option Tree). AreOfTree k c.find_both.new.parts) (sym c.find_both.ensures.tree)
    (seen-more (g.T.Folder.tree c.args.folder.now) c.args.parts.now c.find_both.new.parts c.find_both.ensures.sees
    c.requires.of)

pub returns-in_err-found-clause-reads : goal.returns-in_err-found-clause-reads
returns-in_err-found-clause-reads g c =
    reads_on (g.T.Folder.tree c.args.folder.now) c.args.parts.now c.find_both.new.parts c.find_both.ensures.parts
    c.find_both.ensures.sees

pub returns-in-Unknown-clause-reads : goal.returns-in-Unknown-clause-reads
returns-in-Unknown-clause-reads g c =
    reads_on (g.T.Folder.tree c.args.folder.now) c.args.parts.now c.find_both.new.parts c.find_both.ensures.parts
    c.find_both.ensures.sees

pub returns-in-Unknown-clause-told : goal.returns-in-Unknown-clause-told
returns-in-Unknown-clause-told g c = λ tree is layers shows graph.
    (rw c.in-Unknown.is at c.in_ok-found.ensures.found) layers (c.find_both.ensures.sees.told tree is layers shows)

pub returns-in_err-walk-in-Known-clause-reads : goal.returns-in_err-walk-in-Known-clause-reads
returns-in_err-walk-in-Known-clause-reads g c =
    let known = g.T.Folder.tree c.args.folder.now in
    let old = c.args.parts.now in
    let mid = c.find_both.new.parts in
    let new = c.walk_ids.new.parts in
    reads-then known old mid new (reads_on known old mid c.find_both.ensures.parts c.find_both.ensures.sees)
    (subst (λ (k : Option Tree). ReadsOn k mid new) c.find_both.ensures.tree c.walk_ids.ensures.reads)

pub returns-in_ok-walk-in-Known-clause-reads : goal.returns-in_ok-walk-in-Known-clause-reads
returns-in_ok-walk-in-Known-clause-reads g c =
    let known = g.T.Folder.tree c.args.folder.now in
    let old = c.args.parts.now in
    let mid = c.find_both.new.parts in
    let new = c.walk_ids.new.parts in
    reads-then known old mid new (reads_on known old mid c.find_both.ensures.parts c.find_both.ensures.sees)
    (subst (λ (k : Option Tree). ReadsOn k mid new) c.find_both.ensures.tree c.walk_ids.ensures.reads)

pub returns-in_ok-walk-in-Known-clause-told : goal.returns-in_ok-walk-in-Known-clause-told
returns-in_ok-walk-in-Known-clause-told g c = λ tree is layers shows graph.
    let mid = c.find_both.new.parts in
    let same = c.find_both.ensures.tree in
    let there = c.find_both.ensures.sees.told tree is layers shows in
    both-found IsWalkUnchecked (oid_bytes c.args.first) (oid_bytes c.args.second)
    (c.in-Known.first, c.in-Known.second) c.in_ok-walk-in-Known.walk layers
    ((rw c.in-Known.is at c.in_ok-found.ensures.found) layers there)
    (c.in_ok-walk-in-Known.ensures.walk tree (same ∙ is) layers
    (subst (λ (k : Option Tree). Shows k mid layers) (sym same) there) graph)
