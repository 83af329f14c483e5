use Rattle.commit_requests.proofs.TurnLemmas.{lacking_refused, never_told}
use Rattle.commit_requests.proofs.add.add_one.Goals as goal

pub returns-in-Some-clause-refused : goal.returns-in-Some-clause-refused
returns-in-Some-clause-refused g c =
    let old = c.args.newer.now in
    lacking_refused old.kind (g.S.Base.finds (g.S.Base.facts old.base))
    (g.S.CommitSource.may_fail (g.S.CommitSource.known old.base)) old.commits c.args.contents.now c.in-Err.error
    c.in-Some.id c.in-Some.ensures c.in-Err.ensures.refused

pub unreachable-requires : goal.unreachable-requires
unreachable-requires g c =
    let old = c.args.newer.now in
    never_told old.kind (g.S.Base.finds (g.S.Base.facts old.base)) (g.S.CommitSource.may_fail (g.S.CommitSource.known old.base))
    old.commits c.args.contents.now c.in-Err.error c.requires.readable c.in_default.ensures c.in-Err.ensures.refused
    c.in-Unreadable.is
