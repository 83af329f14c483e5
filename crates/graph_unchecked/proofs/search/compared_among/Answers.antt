-- What is answered is so of the layers that were shown.
use Rattle.std.proofs.Common.{◌∷◌, Option, sym, subst, ◌∙◌}
use Rattle.gix_hash_core.specs.Oid.{oid_bytes}
use Rattle.graph_folder.specs.Tree.{Tree}
use Rattle.graph_parts.specs.OfTree.{AreOfTree}
use Rattle.graph_parts.specs.Shown.{Shows}
use Rattle.graph_parts.proofs.TreeLemmas.{seen-more}
use Rattle.graph_unchecked.specs.PartSource.{ReadsOn}
use Rattle.graph_unchecked.specs.Unchecked.{IsComparedUnchecked}
use Rattle.graph_unchecked.proofs.SourceLemmas.{reads_on}
use Rattle.graph_unchecked.proofs.TrustedLemmas.{all-found, reads-then}
use Rattle.graph_unchecked.proofs.search.compared_among.Goals as goal

pub compared-requires-clause-of : goal.compared-requires-clause-of
compared-requires-clause-of g c =
    subst (λ (k : Option Tree). AreOfTree k c.find_all.new.parts) (sym c.find_all.ensures.tree)
    (seen-more (g.T.Folder.tree c.args.folder.now) c.args.parts.now c.find_all.new.parts c.find_all.ensures.sees
    c.requires.of)

pub returns-in_err-found-clause-reads : goal.returns-in_err-found-clause-reads
returns-in_err-found-clause-reads g c =
    reads_on (g.T.Folder.tree c.args.folder.now) c.args.parts.now c.find_all.new.parts c.find_all.ensures.parts
    c.find_all.ensures.sees

pub returns-in-Unknown-clause-reads : goal.returns-in-Unknown-clause-reads
returns-in-Unknown-clause-reads g c =
    reads_on (g.T.Folder.tree c.args.folder.now) c.args.parts.now c.find_all.new.parts c.find_all.ensures.parts
    c.find_all.ensures.sees

pub returns-in-Unknown-clause-told : goal.returns-in-Unknown-clause-told
returns-in-Unknown-clause-told g c = λ tree is layers shows graph.
    (rw c.in-Unknown.is at c.in_ok-found.ensures.found) layers (c.find_all.ensures.sees.told tree is layers shows)

pub returns-in_err-comparison-in-Known-clause-reads : goal.returns-in_err-comparison-in-Known-clause-reads
returns-in_err-comparison-in-Known-clause-reads g c =
    let known = g.T.Folder.tree c.args.folder.now in
    let old = c.args.parts.now in
    let mid = c.find_all.new.parts in
    let new = c.compared.new.parts in
    reads-then known old mid new (reads_on known old mid c.find_all.ensures.parts c.find_all.ensures.sees)
    (subst (λ (k : Option Tree). ReadsOn k mid new) c.find_all.ensures.tree c.compared.ensures.reads)

pub returns-in_ok-comparison-in-Known-clause-reads : goal.returns-in_ok-comparison-in-Known-clause-reads
returns-in_ok-comparison-in-Known-clause-reads g c =
    let known = g.T.Folder.tree c.args.folder.now in
    let old = c.args.parts.now in
    let mid = c.find_all.new.parts in
    let new = c.compared.new.parts in
    reads-then known old mid new (reads_on known old mid c.find_all.ensures.parts c.find_all.ensures.sees)
    (subst (λ (k : Option Tree). ReadsOn k mid new) c.find_all.ensures.tree c.compared.ensures.reads)

pub returns-in_ok-comparison-in-Known-clause-told : goal.returns-in_ok-comparison-in-Known-clause-told
returns-in_ok-comparison-in-Known-clause-told g c = λ tree is layers shows graph.
    let mid = c.find_all.new.parts in
    let same = c.find_all.ensures.tree in
    let there = c.find_all.ensures.sees.told tree is layers shows in
    all-found IsComparedUnchecked (oid_bytes c.args.first ∷ c.args.others.now)
    (c.in-Known.first, c.in-Known.others) c.in_ok-comparison-in-Known.comparison layers
    ((rw c.in-Known.is at c.in_ok-found.ensures.found) layers there)
    ((rw c.deref.ensures.value at c.in_ok-comparison-in-Known.ensures.compared) tree (same ∙ is) layers
    (subst (λ (k : Option Tree). Shows k mid layers) (sym same) there) graph)
