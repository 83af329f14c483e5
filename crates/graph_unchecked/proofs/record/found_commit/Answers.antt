-- What is stored is so of the layers that are shown.
use Rattle.std.proofs.Common.{◌<◌, Option, sym, subst, arith}
use Rattle.graph_folder.specs.Tree.{Tree}
use Rattle.graph_parts.specs.Shown.{SeesMore, Shows, commits_of_parts}
use Rattle.graph_parts.proofs.GraphPartLemmas.{same-commits, sees-then}
use Rattle.graph_unchecked.proofs.record.found_commit.Goals as goal

pub commit_at-requires-clause-pos : goal.commit_at-requires-clause-pos
commit_at-requires-clause-pos g c =
    let within : c.in-Some.pos.0 < commits_of_parts c.args.parts.now = rw c.in-Some.is at c.in_ok-pos.ensures.within in
    omega (arith, within, same-commits _ c.args.parts.now c.find.new.parts c.find.ensures.sees)

pub returns-in_err-stored-clause-sees : goal.returns-in_err-stored-clause-sees
returns-in_err-stored-clause-sees g c =
    let mid = c.find.new.parts in
    let new = c.commit_at.new.self in
    sees-then (g.T.Folder.tree c.args.folder.now) c.args.parts.now mid new c.find.ensures.sees
    (subst (λ (k : Option Tree). SeesMore k mid new) c.find.ensures.tree c.commit_at.ensures.sees)

pub returns-in-Some-stored-clause-sees : goal.returns-in-Some-stored-clause-sees
returns-in-Some-stored-clause-sees g c =
    let mid = c.find.new.parts in
    let new = c.commit_at.new.self in
    sees-then (g.T.Folder.tree c.args.folder.now) c.args.parts.now mid new c.find.ensures.sees
    (subst (λ (k : Option Tree). SeesMore k mid new) c.find.ensures.tree c.commit_at.ensures.sees)

pub returns-in-None-clause-sees : goal.returns-in-None-clause-sees
returns-in-None-clause-sees g c =
    let mid = c.find.new.parts in
    let new = c.commit_at.new.self in
    sees-then (g.T.Folder.tree c.args.folder.now) c.args.parts.now mid new c.find.ensures.sees
    (subst (λ (k : Option Tree). SeesMore k mid new) c.find.ensures.tree c.commit_at.ensures.sees)

pub returns-in-Some-stored-clause-found : goal.returns-in-Some-stored-clause-found
returns-in-Some-stored-clause-found g c = λ layers shows graph.
    let mid = c.find.new.parts in
    let new = c.commit_at.new.self in
    let first = c.find.ensures.tree in
    let more = subst (λ (k : Option Tree). SeesMore k mid new) first c.commit_at.ensures.sees in (
      (rw c.in-Some.is at c.in_ok-pos.ensures.found) layers (more.kept layers shows),
      (rw c.in-Some-stored.is at c.in_ok-stored.ensures.stores) layers
          (subst (λ (k : Option Tree). Shows k new layers) (sym first) shows),
    )
