use Rattle.std.proofs.Common.{◌≡◌, heap_items}
use Rattle.commit_search.specs.Source.{Told}
use Rattle.commit_search.specs.Positions.{numbers_of}
use Rattle.graph_bases.specs.Painting.{IsPainting, IsPaintingOf, ArePassed, IsLevel}
use Rattle.commit_search.specs.Ranks.{FallsAlongParents}
use Rattle.graph_bases.proofs.CoatLemmas.{IsBegun}
use Rattle.graph_bases.proofs.painting.paint_from.Given as goal

-- the others so far are painted
abbrev pub invariant-loop-other : goal.invariant-loop-other
invariant-loop-other g l =
    let k = g.S.CommitSource.known l.fn.commits in
    let says = g.S.CommitSource.says l.commits in
    let ranking = g.R.Ranks.ranking l.ranks in
    record {
      known : g.S.CommitSource.known l.commits ≡ k;
      kept : (t : Told) → says t → g.S.CommitSource.says l.fn.commits t;
      first : l.painting.first ≡ l.fn.first;
      others : l.painting.others.now ≡ l.fn.others;
      painting : IsPainting (g.S.CommitSource.count k) l.painting;
      told : (t : Told) → says t → IsPaintingOf t.history (ranking t) l.painting;
      lists : ArePassed says l.painting;
      begun : (t : Told) → says t
          → IsBegun t.history l.fn.first.0 (numbers_of l.fn.others) l.other-index l.painting.coats.all;
      level : (t : Told) → says t → FallsAlongParents t.history (ranking t)
          → IsLevel (ranking t) l.painting.coats.all (heap_items l.painting.queue) (ranking t).cap;
    }
