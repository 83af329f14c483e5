use Rattle.std.proofs.Common.{◌≡◌, ◌+◌, ◌<◌, count_by, false, length, sym, ap, ◌∙◌, subst, lt_of_le_of_lt}
use Rattle.std.proofs.Common.{heap_items, arith}
use Rattle.std.proofs.lemmas.List.Sums.{count_by-le-length}
use Rattle.commit_search.specs.Positions.{numbers_of}
use Rattle.graph_bases.specs.declared.paint.Coat.{Coat}
use Rattle.graph_bases.specs.Bases.{AreBelowCap}
use Rattle.graph_bases.specs.Paint.{is_painted, is_fresh, is_visited, paint_at, Grows, IsSo}
use Rattle.graph_bases.proofs.EdgeLemmas.{next_queued, painted_below_cap, visiting_taken}
use Rattle.graph_bases.proofs.CoatLemmas.{IsNext, coat_with, none_fresh, stops, stops_empty, next_within, next_inside, taken_by}
use Rattle.graph_bases.proofs.CoatLemmas.{next_rank, rest_ranked, taken_paint, taken_spread, taken_level}
use Rattle.graph_bases.proofs.CoatLemmas.{candidates_same}
use Rattle.graph_bases.proofs.PaintLemmas.{grows_refl}
use Rattle.graph_bases.proofs.PassLemmas.{passed_kept}
use Rattle.graph_bases.proofs.VisitCountLemmas.{count_taken}
use Rattle.graph_bases.proofs.painting.Painting.run.Goals as goal
use Rattle.graph_bases.proofs.painting.Painting.run.Given.{Over}
use Rattle.graph_bases.proofs.painting.Painting.run.Goals.{In-Some}
use Rattle.graph_bases.proofs.painting.Painting.run.Goals.{else-self-eq0-via-then-self-eq0+else-is_below_cap}
use Rattle.graph_bases.proofs.painting.Painting.run.Goals.{else-self-eq0-via-else-self-eq0}

-- what the queue gives next
next : (g : Over) (c : In-Some g)
    → IsNext (g.S.CommitSource.count (g.S.CommitSource.known c.args.commits.now)) c.loop-next.self.coats.all
    (heap_items c.loop-next.self.queue) (heap_items c.pop.new.self) c.in-Some.next
next g c =
    let i = c.loop-next.invariant in
    let waiting = i.painting.waiting in
    record {
      coats_len = i.painting.coats_len;
      waiting = waiting;
      moved = c.in-Some.ensures.permutation;
      order = (c.in-Some.ensures.heap_order waiting.order).0;
      greatest = c.in-Some.ensures.below_top waiting.order;
    }

pub at-known-requires : goal.at-known-requires
at-known-requires g c = next_inside (next g (goal.at.at-known-requires g c).In-Some)

pub set-requires-clause-within : goal.set-requires-clause-within
set-requires-clause-within g c = next_inside (next g (goal.at.set-requires-clause-within g c).In-Some)

pub set-requires-clause-few : goal.set-requires-clause-few
set-requires-clause-few g c =
    omega (arith, c.loop-next.invariant.painting.few, c.loop-next.invariant.painting.coats_len)

pub visit-requires-clause-lists : goal.visit-requires-clause-lists
visit-requires-clause-lists g c =
    let s = c.loop-next.self in
    let coats = s.coats.all in
    let now = c.set.new.self.all in
    let i = c.loop-next.invariant in
    let first = next g (goal.at.visit-requires-clause-lists g c).In-Some in
    let is_coat = ap (λ (m : Coat). coat_with m.paint false) c.at-known.ensures in
    let after = taken_by first is_coat c.in_ok-set.ensures.coats (next_queued first) in
    λ t said l.
    rw c.set.ensures.trails
    (passed_kept coats _ _ now (λ q. subst (Grows (paint_at coats q)) (sym (after.same q)) (grows_refl (paint_at coats q)))
    (i.lists t said l))

pub visit-requires-clause-passes : goal.visit-requires-clause-passes
visit-requires-clause-passes g c =
    let s = c.loop-next.self in
    let a = s.first.0 in
    let bs = numbers_of s.others.now in
    let coats = s.coats.all in
    let now = c.set.new.self.all in
    let i = c.loop-next.invariant in
    let p = c.in-Some.next.1 in
    let first = next g (goal.at.visit-requires-clause-passes g c).In-Some in
    let inside = next_inside first in
    let queued = next_queued first in
    let new = coat_with c.at-known.result.paint false in
    let is_coat = ap (λ (m : Coat). coat_with m.paint false) c.at-known.ensures in
    let after = taken_by first is_coat c.in_ok-set.ensures.coats queued in
    let few = count_by-le-length is_visited coats in
    rw i.known
    (record {
      painting = record {
        few = i.painting.few;
        coats_len = after.len ∙ i.painting.coats_len;
        counted = c.in_ok-set.ensures.counted;
        waiting = after.waiting;
        candidates = candidates_same coats now s.candidates.items after.same i.painting.candidates;
        visits =
            (let old = i.painting.visits.least in
            count_taken coats now p s.visits c.saturating_add-self.result new inside is_coat c.in_ok-set.ensures.coats queued
            (omega (arith, c.saturating_add-self.ensures))
            (omega (arith, c.saturating_add-self.ensures, old, few, i.painting.few, i.painting.coats_len)) i.painting.visits);
      };
      within = next_within first;
      same = λ settled. after.same p ∙ sym (ap (λ (m : Coat). m.paint) c.at-known.ensures);
      told = λ t said.
          (let h = t.history in
          let k = g.R.Ranks.ranking c.args.ranks.now t in
          let of = i.told t said in
          let spread = rw (← i.first, ← i.others) at (i.spread t said) in
          record {
            painting = record {
              paint = taken_paint after h a bs of.paint;
              ranked = rest_ranked first k of.ranked;
              visiting = λ along below.
                  (let old = of.visiting along below in
                  let cap = painted_below_cap of.paint along below p (old.painted p queued) in
                  let number = next_rank first k of.ranked in
                  let is_cap = c.cap-cap.ensures t in
                  let some : 0 < count_by is_fresh coats =
                  elim c.else-self-eq0.branch [
                    | else-self-eq0-via-then-self-eq0+else-is_below_cap w ↦
                        absurd (omega (arith, w.if-is_below_cap.false, cap, number, is_cap))
                    | else-self-eq0-via-else-self-eq0 w ↦ omega (arith, w.if-self-eq0.false, i.painting.counted.fresh)
                  ] in
                  let visits : c.saturating_add-self.result ≡ s.visits + 1 =
                  omega (arith, c.saturating_add-self.ensures, old.count, few, i.painting.few, i.painting.coats_len) in
                  rw visits (visiting_taken first of.ranked is_coat c.in_ok-set.ensures.coats after queued some old));
            };
            so = subst (IsSo h a bs p) (sym (ap (λ (m : Coat). m.paint) c.at-known.ensures)) (of.paint.each p);
            spread = taken_spread after h a bs spread;
            in_order = λ along.
                (let level = i.level t said along in
                let painted = λ (below : AreBelowCap k a bs). (of.visiting along below).painted p queued in
                record {
                  uncapped = λ below. painted_below_cap of.paint along below p (painted below);
                  painted = λ below. ap (λ (m : Coat). is_painted m.paint) c.at-known.ensures ∙ painted below;
                  own = λ below. after.here;
                  level = taken_level first k of.ranked level.1 after;
                });
          });
    })

pub loop-next-smaller : goal.loop-next-smaller
loop-next-smaller g c =
    let first = next g (goal.at.loop-next-smaller g c).In-Some in
    let is_coat = ap (λ (m : Coat). coat_with m.paint false) c.at-known.ensures in
    lt_of_le_of_lt c.in_ok-visit.ensures.work (taken_by first is_coat c.in_ok-set.ensures.coats (next_queued first)).work

pub loop-next-preserved : goal.loop-next-preserved
loop-next-preserved g c =
    let i = c.loop-next.invariant in
    let e = c.in_ok-visit.ensures in
    record {
      known = c.visit.ensures.known ∙ i.known;
      kept = λ t said. i.kept t (c.visit.ensures.kept t said);
      first = c.visit.ensures.first ∙ i.first;
      others = c.visit.ensures.others ∙ i.others;
      painting = rw i.known at e.painting;
      told = e.told;
      lists = e.lists;
      spread = λ t said. rw (i.first, i.others) at (e.spread t said);
      level = λ t said right. (_, e.level t said right);
    }

pub returns-then-is_below_cap-clause-done : goal.returns-then-is_below_cap-clause-done
returns-then-is_below_cap-clause-done g c = λ t said right.
    let s = c.loop-next.self in
    let coats = s.coats.all in
    let i = c.loop-next.invariant in
    let k = g.R.Ranks.ranking c.args.ranks.now t in
    let is_cap = c.cap-cap.ensures t in
    let below : c.in-Some.next.0 < k.cap = omega arith in
    let stale =
    none_fresh _ coats (heap_items s.queue) i.painting.waiting i.painting.coats_len
    (sym i.painting.counted.fresh ∙ c.if-self-eq0.true) in
    let level = i.level t said right in
    stops (next g (goal.at.returns-then-is_below_cap-clause-done g c).In-Some) k (i.told t said).ranked level.1 stale below

pub returns-then-is_below_cap-clause-paint : goal.returns-then-is_below_cap-clause-paint
returns-then-is_below_cap-clause-paint g c = λ t said.
    let i = c.loop-next.invariant in
    rw (i.first, i.others) at (i.told t said).paint

pub returns-then-is_below_cap-clause-visiting : goal.returns-then-is_below_cap-clause-visiting
returns-then-is_below_cap-clause-visiting g c = λ t said.
    let i = c.loop-next.invariant in
    rw (i.first, i.others) at (i.told t said).visiting

pub returns-clause-paint : goal.returns-clause-paint
returns-clause-paint g c = λ t said.
    let i = c.loop-next.invariant in
    rw (i.first, i.others) at (i.told t said).paint

pub returns-clause-visiting : goal.returns-clause-visiting
returns-clause-visiting g c = λ t said.
    let i = c.loop-next.invariant in
    rw (i.first, i.others) at (i.told t said).visiting

pub returns-clause-done : goal.returns-clause-done
returns-clause-done g c = λ t said right.
    let l = c.loop-next in
    let i = l.invariant in
    let level = i.level t said right in
    let empty : length (heap_items l.self.queue) ≡ 0 = omega (arith, c.in_default.ensures.none) in
    let k = g.R.Ranks.ranking c.args.ranks.now t in
    stops_empty k _ l.self.coats.all (heap_items l.self.queue) level.0 i.painting.waiting level.1 empty
