use Rattle.std.proofs.Common.{◌≡◌, ◌≢◌, ◌⊎◌, ℕ, ◌-◌, ◌<◌, ◌≤◌, Some, None}
use Rattle.commit_search.specs.Marks.{IsMarked, marked_at, bound_at}
use Rattle.commit_search.specs.Queue.{commit_in}
use Rattle.commit_search.specs.Search.{queued_by, IsSearching, IsListRead, GoesOn}
use Rattle.commit_search.specs.Source.{Told, IsListTrue}
use Rattle.commit_search.proofs.search.Search.visit_list.Given as goal

-- The words from the index up to the next one were gone over.
abbrev pub invariant-loop-pos : goal.invariant-loop-pos
invariant-loop-pos g l =
    let k = g.S.CommitSource.known l.fn.commits in
    let says = g.S.CommitSource.says l.commits in
    record {
      known : g.S.CommitSource.known l.commits ≡ k;
      kept : (t : Told) → says t → g.S.CommitSource.says l.fn.commits t;
      search : IsSearching (g.S.CommitSource.count k) says l.self;
      goes_on : GoesOn l.fn.self l.self l.place;
      room : l.count ≤ bound_at l.self.words l.layer;
      within : l.next < l.count;
      listed : g.S.CommitSource.is_listed k (commit_in (queued_by l.fn.self) l.place) l.next;
      told : (t : Told) → says t → IsListTrue t (commit_in (queued_by l.fn.self) l.place) l.layer l.next;
      others : (t : Told) (i : ℕ) → says t → i ≢ l.layer → IsListRead t l.self i None;
      read : (t : Told) → says t → IsListRead t l.self l.layer (Some l.next);
      begun : IsMarked (marked_at l.self.words l.layer) l.index ⊎ (l.index ≡ l.next);
    }

abbrev pub decreases-loop-pos : goal.decreases-loop-pos
decreases-loop-pos g l = l.count - l.next
