use Rattle.std.proofs.Common.{◌≡◌, ◌≢◌, ◌⊎◌, ℕ, ◌-◌, ◌<◌, ◌≤◌, length}
use Rattle.commit_search.specs.Source.{Told, IsListTrue}
use Rattle.graph_bases.specs.Paint.{Grows}
use Rattle.graph_bases.specs.Painting.{PassesPaint, PassesOn, IsPassed}
use Rattle.graph_bases.specs.Trails.{trail_at, trail_in}
use Rattle.graph_bases.proofs.PassLemmas.{IsPassedTo}
use Rattle.graph_bases.proofs.painting.Painting.visit_list.Given as goal

-- The words from the index up to the next one were passed.
abbrev pub invariant-loop-commit : goal.invariant-loop-commit
invariant-loop-commit g l =
    let k = g.S.CommitSource.known l.fn.commits in
    let says = g.S.CommitSource.says l.commits in
    record {
      known : g.S.CommitSource.known l.commits ≡ k;
      kept : (t : Told) → says t → g.S.CommitSource.says l.fn.commits t;
      first : l.self.first ≡ l.fn.self.first;
      others : l.self.others.now ≡ l.fn.self.others.now;
      passes : PassesPaint (g.S.CommitSource.count k) says (g.R.Ranks.ranking l.ranks) l.self l.commit.0 l.paint;
      on : PassesOn l.fn.self l.self;
      room : l.count ≤ length (trail_in l.self.coats.trails.layers.items l.layer);
      within : l.next < l.count;
      listed : g.S.CommitSource.is_listed k l.commit.0 l.next;
      told : (t : Told) → says t → IsListTrue t l.commit.0 l.layer l.next;
      apart : (t : Told) (i : ℕ) → says t → i ≢ l.layer
          → IsPassed l.self.coats.all (t.lists i) (trail_in l.self.coats.trails.layers.items i);
      here : (t : Told) → says t → IsPassedTo l.self.coats.all (t.lists l.layer)
          (trail_in l.self.coats.trails.layers.items l.layer) l.next l.passed;
      begun : Grows l.passed (trail_at (trail_in l.self.coats.trails.layers.items l.layer) l.index) ⊎ (l.index ≡ l.next);
    }

abbrev pub decreases-loop-commit : goal.decreases-loop-commit
decreases-loop-commit g l = l.count - l.next
