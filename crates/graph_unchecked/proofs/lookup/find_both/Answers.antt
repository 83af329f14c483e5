-- What is found is so of the layers that are shown.
use Rattle.std.proofs.Common.{◌<◌, [], ◌∷◌, Option, refl, sym, subst, arith}
use Rattle.gix_hash_core.specs.Oid.{oid_bytes}
use Rattle.answers.specs.FoundOf.{OfTwo}
use Rattle.answers.proofs.FoundLemmas.{first_missing, second_missing}
use Rattle.graph_folder.specs.Tree.{Tree}
use Rattle.gix_commitgraph.specs.GraphLookup.{FoundIn}
use Rattle.graph_parts.specs.Shown.{SeesMore, Shows, commits_of_parts}
use Rattle.graph_parts.proofs.GraphPartLemmas.{same-commits, sees-then}
use Rattle.graph_unchecked.specs.PartLookups.{AreBoth}
use Rattle.graph_unchecked.proofs.lookup.find_both.Goals as goal

pub returns-in_default-clause-found : goal.returns-in_default-clause-found
returns-in_default-clause-found g c = λ layers shows.
    first_missing (FoundIn layers) (OfTwo (AreBoth layers)) (oid_bytes c.args.first) (oid_bytes c.args.second ∷ [])
    ((rw c.in_default.is at c.in_ok-first.ensures.found) layers shows)

pub returns-in_err-second-clause-sees : goal.returns-in_err-second-clause-sees
returns-in_err-second-clause-sees g c =
    let mid = c.find.new.parts in
    let new = c.find-2.new.parts in
    sees-then (g.T.Folder.tree c.args.folder.now) c.args.parts.now mid new c.find.ensures.sees
    (subst (λ (k : Option Tree). SeesMore k mid new) c.find.ensures.tree c.find-2.ensures.sees)

pub returns-in_default-2-clause-sees : goal.returns-in_default-2-clause-sees
returns-in_default-2-clause-sees g c =
    let mid = c.find.new.parts in
    let new = c.find-2.new.parts in
    sees-then (g.T.Folder.tree c.args.folder.now) c.args.parts.now mid new c.find.ensures.sees
    (subst (λ (k : Option Tree). SeesMore k mid new) c.find.ensures.tree c.find-2.ensures.sees)

pub returns-in_default-2-clause-found : goal.returns-in_default-2-clause-found
returns-in_default-2-clause-found g c = λ layers shows.
    let mid = c.find.new.parts in
    let new = c.find-2.new.parts in
    let first = c.find.ensures.tree in
    let more = subst (λ (k : Option Tree). SeesMore k mid new) first c.find-2.ensures.sees in
    second_missing (FoundIn layers) (OfTwo (AreBoth layers)) (oid_bytes c.args.first) (oid_bytes c.args.second) []
    c.in-Some.first.0 ((rw c.in-Some.is at c.in_ok-first.ensures.found) layers (more.kept layers shows))
    ((rw c.in_default-2.is at c.in_ok-second.ensures.found) layers
    (subst (λ (k : Option Tree). Shows k new layers) (sym first) shows))

pub returns-clause-sees : goal.returns-clause-sees
returns-clause-sees g c =
    let mid = c.find.new.parts in
    let new = c.find-2.new.parts in
    sees-then (g.T.Folder.tree c.args.folder.now) c.args.parts.now mid new c.find.ensures.sees
    (subst (λ (k : Option Tree). SeesMore k mid new) c.find.ensures.tree c.find-2.ensures.sees)

pub returns-clause-within : goal.returns-clause-within
returns-clause-within g c =
    let old = c.args.parts.now in
    let mid = c.find.new.parts in
    let new = c.find-2.new.parts in
    let one : c.in-Some.first.0 < commits_of_parts old = rw c.in-Some.is at c.in_ok-first.ensures.within in
    let two : c.in-Some-2.second.0 < commits_of_parts mid = rw c.in-Some-2.is at c.in_ok-second.ensures.within in
    let same = same-commits _ old mid c.find.ensures.sees in
    let more = same-commits _ mid new c.find-2.ensures.sees in (omega (arith, one, same, more), omega (arith, two, more))

pub returns-clause-found : goal.returns-clause-found
returns-clause-found g c = λ layers shows.
    let mid = c.find.new.parts in
    let new = c.find-2.new.parts in
    let first = c.find.ensures.tree in
    let more = subst (λ (k : Option Tree). SeesMore k mid new) first c.find-2.ensures.sees in (
      c.in-Some.first.0 ∷ c.in-Some-2.second.0 ∷ [],
      (
        (rw c.in-Some.is at c.in_ok-first.ensures.found) layers (more.kept layers shows),
        (
          (rw c.in-Some-2.is at c.in_ok-second.ensures.found) layers
              (subst (λ (k : Option Tree). Shows k new layers) (sym first) shows),
          tt,
        ),
      ),
      (refl, refl),
    )
