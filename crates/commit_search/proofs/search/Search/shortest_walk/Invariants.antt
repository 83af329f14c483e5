use Rattle.std.proofs.Common.{◌≡◌, ◌-◌, ◌≤◌}
use Rattle.commit_search.specs.Search.{AreAhead}
use Rattle.commit_search.specs.Source.{Told}
use Rattle.commit_search.proofs.QueryLemmas.{IsQuerying}
use Rattle.commit_search.proofs.search.Search.shortest_walk.Given as goal

abbrev pub invariant-loop-visits : goal.invariant-loop-visits
invariant-loop-visits g l =
    let source = g.S.CommitSource in
    let k = source.known l.fn.commits in
    let says = source.says l.commits in
    record {
      known : source.known l.commits ≡ k;
      kept : (t : Told) → says t → source.says l.fn.commits t;
      ahead : AreAhead (source.count k) (source.is_listed k) (source.lies k) says l.self l.ahead;
      query : IsQuerying (source.count k) says l.fn.from.0 l.to.0 l.self l.visits;
      within : l.visits ≤ l.most;
    }

abbrev pub decreases-loop-visits : goal.decreases-loop-visits
decreases-loop-visits g l = g.S.CommitSource.count (g.S.CommitSource.known l.fn.commits) - l.visits
