use Rattle.std.proofs.Common.{[], ◌∷◌, None, Some, refl}
use Rattle.gix_hash_core.specs.Oid.{oid_bytes}
use Rattle.answers.specs.FoundOf.{OfTwo}
use Rattle.answers.proofs.FoundLemmas.{first_missing, second_missing}
use Rattle.newer_commits.specs.FindingOnTop.{Finds}
use Rattle.newer_answers.specs.FoundOnTop.{AreTwoPlaces}
use Rattle.newer_answers.proofs.PlaceOnTopLemmas.{finds_as}
use Rattle.newer_answers.proofs.lookup.find_both.Goals as goal

pub returns-in_default-clause-found : goal.returns-in_default-clause-found
returns-in_default-clause-found g c =
    first_missing (Finds (g.S.Base.finds (g.S.Base.facts c.args.commits.now.base)) c.args.commits.now.commits)
    (OfTwo AreTwoPlaces) (oid_bytes c.args.first) (oid_bytes c.args.second ∷ [])
    (rw c.in_default.is at c.in_ok-first.ensures.found)

pub returns-in_default-2-clause-found : goal.returns-in_default-2-clause-found
returns-in_default-2-clause-found g c =
    let facts = g.S.Base.facts in
    let base = c.args.commits.now.base in
    let mid = c.position_of.new.self in
    let same = g.met.S.Base.follow mid.base base c.position_of.ensures.known in
    second_missing (Finds (g.S.Base.finds (facts base)) c.args.commits.now.commits) (OfTwo AreTwoPlaces)
    (oid_bytes c.args.first) (oid_bytes c.args.second) [] c.in-Some.first.0
    (rw c.in-Some.is at c.in_ok-first.ensures.found)
    (finds_as g.S.Base.finds (facts base) (facts mid.base) c.args.commits.now.commits mid.commits (oid_bytes c.args.second)
    None same c.position_of.ensures.commits (rw c.in_default-2.is at c.in_ok-second.ensures.found))

pub returns-clause-found : goal.returns-clause-found
returns-clause-found g c =
    let facts = g.S.Base.facts in
    let base = c.args.commits.now.base in
    let mid = c.position_of.new.self in
    let same = g.met.S.Base.follow mid.base base c.position_of.ensures.known in (
      c.in-Some.first.0 ∷ c.in-Some-2.second.0 ∷ [],
      (
        rw c.in-Some.is at c.in_ok-first.ensures.found,
        (
          finds_as g.S.Base.finds (facts base) (facts mid.base) c.args.commits.now.commits mid.commits
              (oid_bytes c.args.second) (Some c.in-Some-2.second.0) same c.position_of.ensures.commits
              (rw c.in-Some-2.is at c.in_ok-second.ensures.found),
          tt,
        ),
      ),
      (refl, refl),
    )
