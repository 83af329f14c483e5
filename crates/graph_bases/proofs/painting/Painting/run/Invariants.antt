use Rattle.std.proofs.Common.{◌≡◌, ℕ, heap_items}
use Rattle.commit_search.specs.Source.{Told}
use Rattle.commit_search.specs.Positions.{numbers_of}
use Rattle.graph_bases.specs.Painting.{IsPainting, IsPaintingOf, ArePassed, IsSpread, IsLevel, work}
use Rattle.commit_search.specs.Ranks.{FallsAlongParents}
use Rattle.graph_bases.proofs.painting.Painting.run.Given as goal

abbrev pub invariant-loop-next : goal.invariant-loop-next
invariant-loop-next g l =
    let k = g.S.CommitSource.known l.fn.commits in
    let says = g.S.CommitSource.says l.commits in
    let ranking = g.R.Ranks.ranking l.ranks in
    record {
      known : g.S.CommitSource.known l.commits ≡ k;
      kept : (t : Told) → says t → g.S.CommitSource.says l.fn.commits t;
      first : l.self.first ≡ l.fn.self.first;
      others : l.self.others.now ≡ l.fn.self.others.now;
      painting : IsPainting (g.S.CommitSource.count k) l.self;
      told : (t : Told) → says t → IsPaintingOf t.history (ranking t) l.self;
      lists : ArePassed says l.self;
      spread : (t : Told) → says t
          → IsSpread t.history l.fn.self.first.0 (numbers_of l.fn.self.others.now) l.self.coats.all;
      level : (t : Told) → says t → FallsAlongParents t.history (ranking t)
          → (level : ℕ) × IsLevel (ranking t) l.self.coats.all (heap_items l.self.queue) level;
    }

abbrev pub decreases-loop-next : goal.decreases-loop-next
decreases-loop-next g l = work l.self.coats.all (heap_items l.self.queue)
