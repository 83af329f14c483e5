use Rattle.commit_search.specs.Positions.{numbers_of}
use Rattle.newer_answers.proofs.OnTopLemmas.{leads_less}
use Rattle.newer_answers.proofs.PlaceOnTopLemmas.{ids_as}
use Rattle.newer_answers.proofs.walk.walk_between.Goals as goal

pub returns-in_ok-ids-in-Some-clause-walk : goal.returns-in_ok-ids-in-Some-clause-walk
returns-in_ok-ids-in-Some-clause-walk g c =
    let facts = g.S.Base.facts in
    let says = g.S.CommitSource.says in
    let old = c.args.commits.now in
    let mid = c.steps_between.new.commits in
    let walk = numbers_of c.in-Some.walk.items in
    let same = g.met.S.Base.follow mid.base old.base c.steps_between.ensures.known in (
      walk,
      leads_less (says mid.base) (says c.ids_of.new.commits.base) old.commits c.args.from.0 c.args.to.0 walk
          c.ids_of.ensures.kept (rw c.in-Some.is at c.in_ok-found.ensures.walk),
      ids_as g.S.Base.has_id (facts old.base) (facts mid.base) old.commits mid.commits walk c.in_ok-ids-in-Some.ids.items
          same c.steps_between.ensures.commits (rw c.deref.ensures.value at c.in_ok-ids-in-Some.ensures.ids),
    )
