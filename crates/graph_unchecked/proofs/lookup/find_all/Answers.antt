-- What is found is so of the layers that are shown.
use Rattle.std.proofs.Common.{◌<◌, Option, sym, subst, arith}
use Rattle.gix_hash_core.specs.Oid.{oid_bytes}
use Rattle.graph_folder.specs.Tree.{Tree}
use Rattle.graph_parts.specs.Shown.{SeesMore, Shows, commits_of_parts}
use Rattle.graph_parts.proofs.GraphPartLemmas.{same-commits, sees-then}
use Rattle.graph_unchecked.proofs.PartLookupLemmas.{all-of-others, none-of-first, some-of-others, within-as}
use Rattle.graph_unchecked.proofs.lookup.find_all.Goals as goal

pub returns-in_default-clause-found : goal.returns-in_default-clause-found
returns-in_default-clause-found g c = λ layers shows.
    none-of-first layers (oid_bytes c.args.first) c.args.others.now
    ((rw c.in_default.is at c.in_ok-first.ensures.found) layers shows)

pub returns-in_err-found-clause-sees : goal.returns-in_err-found-clause-sees
returns-in_err-found-clause-sees g c =
    let mid = c.find.new.parts in
    let new = c.find_others.new.parts in
    sees-then (g.T.Folder.tree c.args.folder.now) c.args.parts.now mid new c.find.ensures.sees
    (subst (λ (k : Option Tree). SeesMore k mid new) c.find.ensures.tree c.find_others.ensures.sees)

pub returns-in-Unknown-clause-sees : goal.returns-in-Unknown-clause-sees
returns-in-Unknown-clause-sees g c =
    let mid = c.find.new.parts in
    let new = c.find_others.new.parts in
    sees-then (g.T.Folder.tree c.args.folder.now) c.args.parts.now mid new c.find.ensures.sees
    (subst (λ (k : Option Tree). SeesMore k mid new) c.find.ensures.tree c.find_others.ensures.sees)

pub returns-in-Unknown-clause-found : goal.returns-in-Unknown-clause-found
returns-in-Unknown-clause-found g c = λ layers shows.
    let mid = c.find.new.parts in
    let new = c.find_others.new.parts in
    let first = c.find.ensures.tree in
    let more = subst (λ (k : Option Tree). SeesMore k mid new) first c.find_others.ensures.sees in
    some-of-others layers (oid_bytes c.args.first) c.in-Some.first.0 c.args.others.now c.in-Unknown.number
    ((rw c.in-Some.is at c.in_ok-first.ensures.found) layers (more.kept layers shows))
    ((rw c.in-Unknown.is at c.in_ok-found.ensures.found) layers
    (subst (λ (k : Option Tree). Shows k new layers) (sym first) shows))

pub returns-in-Known-clause-sees : goal.returns-in-Known-clause-sees
returns-in-Known-clause-sees g c =
    let mid = c.find.new.parts in
    let new = c.find_others.new.parts in
    sees-then (g.T.Folder.tree c.args.folder.now) c.args.parts.now mid new c.find.ensures.sees
    (subst (λ (k : Option Tree). SeesMore k mid new) c.find.ensures.tree c.find_others.ensures.sees)

pub returns-in-Known-clause-within : goal.returns-in-Known-clause-within
returns-in-Known-clause-within g c =
    let old = c.args.parts.now in
    let mid = c.find.new.parts in
    let new = c.find_others.new.parts in
    let one : c.in-Some.first.0 < commits_of_parts old = rw c.in-Some.is at c.in_ok-first.ensures.within in
    let same = same-commits _ old mid c.find.ensures.sees in
    let more = same-commits _ mid new c.find_others.ensures.sees in (
      omega (arith, one, same, more),
      within-as (commits_of_parts mid) (commits_of_parts new) c.in-Known.others.items (sym more)
          (rw c.in-Known.is at c.in_ok-found.ensures.within),
    )

pub returns-in-Known-clause-found : goal.returns-in-Known-clause-found
returns-in-Known-clause-found g c = λ layers shows.
    let mid = c.find.new.parts in
    let new = c.find_others.new.parts in
    let first = c.find.ensures.tree in
    let more = subst (λ (k : Option Tree). SeesMore k mid new) first c.find_others.ensures.sees in
    all-of-others layers (oid_bytes c.args.first) c.in-Some.first c.args.others.now c.in-Known.others
    ((rw c.in-Some.is at c.in_ok-first.ensures.found) layers (more.kept layers shows))
    ((rw c.in-Known.is at c.in_ok-found.ensures.found) layers
    (subst (λ (k : Option Tree). Shows k new layers) (sym first) shows))
