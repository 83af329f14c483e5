use Rattle.commit_search.specs.Positions.{numbers_of}
use Rattle.newer_answers.proofs.OnTopLemmas.{bases_less}
use Rattle.newer_answers.proofs.PlaceOnTopLemmas.{ids_as}
use Rattle.newer_answers.proofs.bases.compare_at.Goals as goal

pub returns-clause-compared : goal.returns-clause-compared
returns-clause-compared g c =
    let facts = g.S.Base.facts in
    let says = g.S.CommitSource.says in
    let old = c.args.commits.now in
    let mid = c.bases_of.new.commits in
    let found = c.in_ok-comparison.comparison in
    let same = g.met.S.Base.follow mid.base old.base c.bases_of.ensures.known in (
      bases_less (says mid.base) (says c.ids_of.new.commits.base) old.commits c.args.ranks c.args.first.0
          (numbers_of c.args.others.now) found c.ids_of.ensures.kept c.in_ok-comparison.ensures.compared,
      ids_as g.S.Base.has_id (facts old.base) (facts mid.base) old.commits mid.commits (numbers_of found.bases.positions.items)
          c.in_ok-base_ids.base_ids.items same c.bases_of.ensures.commits
          (rw c.deref.ensures.value at c.in_ok-base_ids.ensures.ids),
    )
