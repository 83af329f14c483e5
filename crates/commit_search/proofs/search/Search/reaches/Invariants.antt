use Rattle.std.proofs.Common.{◌≡◌, ◌+◌, ◌-◌, ◌<◌, ◌≤◌, length}
use Rattle.commit_search.specs.Queue.{commit_in}
use Rattle.commit_search.specs.Search.{queued_by, IsSearching, AreRead}
use Rattle.commit_search.specs.Source.{Told}
use Rattle.commit_search.proofs.DescentLemmas.{ArePlaces, AreShallow, IsDescent}
use Rattle.commit_search.proofs.search.Search.reaches.Given as goal

abbrev pub invariant-loop-place : goal.invariant-loop-place
invariant-loop-place g l =
    let k = g.S.CommitSource.known l.fn.commits in
    let says = g.S.CommitSource.says l.commits in
    record {
      known : g.S.CommitSource.known l.commits ≡ k;
      kept : (t : Told) → says t → g.S.CommitSource.says l.fn.commits t;
      search : IsSearching (g.S.CommitSource.count k) says l.self;
      read : AreRead says l.self;
      least : l.self.least ≡ l.fn.least;
      some : 0 < length (queued_by l.self);
      first : commit_in (queued_by l.self) 0 ≡ l.fn.from.0;
      places : ArePlaces (queued_by l.self) l.stack.items;
      counted : l.visits + length l.stack.items ≡ length (queued_by l.self);
      within : l.visits ≤ l.most;
      shallow : AreShallow (queued_by l.self) l.visits;
      descent : (t : Told) → says t → IsDescent t.history l.self.least l.to.0 (queued_by l.self) l.stack.items;
    }

abbrev pub decreases-loop-place : goal.decreases-loop-place
decreases-loop-place g l =
    (g.S.CommitSource.count (g.S.CommitSource.known l.fn.commits) + length l.stack.items) - length (queued_by l.self)
