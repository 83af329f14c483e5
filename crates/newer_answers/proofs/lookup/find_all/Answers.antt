use Rattle.gix_hash_core.specs.Oid.{oid_bytes}
use Rattle.answers.specs.FoundOf.{OfFirst}
use Rattle.answers.specs.declared.answer.Answer.TheVariants.{Known, Unknown}
use Rattle.answers.proofs.FoundLemmas.{first_missing}
use Rattle.newer_commits.specs.FindingOnTop.{Finds}
use Rattle.newer_answers.specs.FoundOnTop.{AreAllPlaces}
use Rattle.newer_answers.proofs.PlaceOnTopLemmas.{others_found, others_missing, others_as}
use Rattle.newer_answers.proofs.lookup.find_all.Goals as goal

pub returns-in_default-clause-found : goal.returns-in_default-clause-found
returns-in_default-clause-found g c =
    first_missing (Finds (g.S.Base.finds (g.S.Base.facts c.args.commits.now.base)) c.args.commits.now.commits)
    (OfFirst AreAllPlaces) (oid_bytes c.args.first) c.args.others.now
    (rw c.in_default.is at c.in_ok-first.ensures.found)

pub returns-in-Unknown-clause-found : goal.returns-in-Unknown-clause-found
returns-in-Unknown-clause-found g c =
    let facts = g.S.Base.facts in
    let base = c.args.commits.now.base in
    let top = c.args.commits.now.commits in
    let mid = c.position_of.new.self in
    let same = g.met.S.Base.follow mid.base base c.position_of.ensures.known in
    others_missing (Finds (g.S.Base.finds (facts base)) top) (oid_bytes c.args.first) c.in-Some.first.0 c.args.others.now
    c.in-Unknown.number (rw c.in-Some.is at c.in_ok-first.ensures.found)
    (others_as g.S.Base.finds (facts base) (facts mid.base) top mid.commits c.args.others.now (Unknown c.in-Unknown.number) same
    c.position_of.ensures.commits (rw c.in-Unknown.is at c.in_ok-found.ensures.found))

pub returns-in-Known-clause-found : goal.returns-in-Known-clause-found
returns-in-Known-clause-found g c =
    let facts = g.S.Base.facts in
    let base = c.args.commits.now.base in
    let top = c.args.commits.now.commits in
    let mid = c.position_of.new.self in
    let same = g.met.S.Base.follow mid.base base c.position_of.ensures.known in
    others_found (Finds (g.S.Base.finds (facts base)) top) (oid_bytes c.args.first) c.in-Some.first c.args.others.now
    c.in-Known.others (rw c.in-Some.is at c.in_ok-first.ensures.found)
    (others_as g.S.Base.finds (facts base) (facts mid.base) top mid.commits c.args.others.now (Known c.in-Known.others) same
    c.position_of.ensures.commits (rw c.in-Known.is at c.in_ok-found.ensures.found))
