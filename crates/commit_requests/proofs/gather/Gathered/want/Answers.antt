use Rattle.std.proofs.Common.{inl, inr}
use Rattle.commit_requests.proofs.GatherLemmas.{wants_not, wants_one}
use Rattle.commit_requests.proofs.ListSteps.{contains_from_get}
use Rattle.commit_requests.proofs.gather.Gathered.want.Goals as goal

pub returns-in-Some-clause-wanted : goal.returns-in-Some-clause-wanted
returns-in-Some-clause-wanted g c =
    let newer = c.args.newer.now in
    let asked = c.args.requests.now.asked in
    wants_not (g.S.Base.finds (g.S.Base.facts newer.base)) newer.commits asked c.args.self.now.wanted.items c.args.id
    (inr (contains_from_get asked c.in-Some.field-0 c.args.id c.in-Some.ensures))

pub returns-in-Ok-Some-clause-wanted : goal.returns-in-Ok-Some-clause-wanted
returns-in-Ok-Some-clause-wanted g c =
    let newer = c.args.newer.now in
    let found = rw c.in-Ok-Some.field-0-is at c.in-Ok-Some.ensures.found in
    wants_not (g.S.Base.finds (g.S.Base.facts newer.base)) newer.commits c.args.requests.now.asked c.args.self.now.wanted.items
    c.args.id (inl (c.in-Ok-Some.field-0-0.0, rw c.as_oid.ensures at found))

pub returns-in-Ok-clause-wanted : goal.returns-in-Ok-clause-wanted
returns-in-Ok-clause-wanted g c =
    let newer = c.args.newer.now in
    let found = rw c.in-Ok-None.field-0-is at c.in-Ok-None.ensures.found in
    rw c.in-Ok.ensures.items
    (wants_one (g.S.Base.finds (g.S.Base.facts newer.base)) newer.commits c.args.requests.now.asked c.args.self.now.wanted.items
    c.args.id (rw c.as_oid.ensures at found))
