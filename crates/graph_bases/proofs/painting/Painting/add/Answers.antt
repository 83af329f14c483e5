use Rattle.std.proofs.Common.{◌<◌, true, length, set, sym, ap, ◌∙◌, heap_items, arith}
use Rattle.commit_search.specs.Positions.{numbers_of}
use Rattle.graph_bases.specs.Paint.{coat_at, joined, covers}
use Rattle.graph_bases.specs.declared.paint.Coat.{Coat}
use Rattle.graph_bases.specs.declared.paint.Coats.{Coats}
use Rattle.graph_bases.specs.declared.paint.Paint.{Paint}
use Rattle.graph_bases.proofs.CoatLemmas.{coat_with, added_by, added_paint, added_level}
use Rattle.graph_bases.proofs.EdgeLemmas.{visiting_added}
use Rattle.graph_bases.proofs.VisitCountLemmas.{count_added}
use Rattle.graph_bases.proofs.painting.Painting.add.Goals as goal

pub set-requires-clause-few : goal.set-requires-clause-few
set-requires-clause-few g c =
    let same = c.add_candidate.ensures.coats ∙ c.enqueue.ensures.coats in
    omega (
      arith,
      c.requires.painting.few,
      c.requires.painting.coats_len,
      ap (λ (m : Coats _). length m.all) same,
    )

pub set-requires-clause-old : goal.set-requires-clause-old
set-requires-clause-old g c =
    c.at-known.ensures
    ∙ ap (λ (ms : Coats _). coat_at ms.all c.args.commit.0) (sym (c.add_candidate.ensures.coats ∙ c.enqueue.ensures.coats))

pub returns : goal.returns
returns g c =
    let s = c.args.self.now in
    let r = c.requires in
    let a = s.first.0 in
    let bs = numbers_of s.others.now in
    let coats = s.coats.all in
    let x = c.args.paint in
    let p = c.args.commit.0 in
    let new = coat_with c.join-paint.result true in
    let known = c.at-known.ensures in
    let is_new = ap (λ (y : Paint). coat_with y true) (c.join-paint.ensures ∙ ap (λ (m : Coat). joined m.paint x) known) in
    let same = c.add_candidate.ensures.coats ∙ c.enqueue.ensures.coats in
    let is_after = c.in_ok-set.ensures.coats ∙ ap (λ (ms : Coats _). set ms.all p new) same in
    let uncovered = ap (λ (m : Coat). covers m.paint x) (sym known) ∙ sym c.covers.ensures ∙ c.if-covers.false in
    let visits = c.add_candidate.ensures.visits ∙ c.enqueue.ensures.visits in
    let first = c.add_candidate.ensures.first ∙ c.enqueue.ensures.first in
    let others = c.add_candidate.ensures.others ∙ c.enqueue.ensures.others in
    let inside : p < length coats = omega (arith, r.within, r.painting.coats_len) in
    let joins = c.in_ok-enqueue.ensures.joins in
    let after =
    added_by _ coats (heap_items s.queue) (heap_items c.enqueue.new.self.queue) p x r.painting.coats_len r.painting.waiting
    r.within joins new is_new c.set.new.self.all is_after c.in_ok-enqueue.ensures.len s.candidates.items
    r.painting.candidates uncovered in
    record {
      known = c.enqueue.ensures.known;
      kept = c.enqueue.ensures.kept;
      first = first;
      others = others;
      trails = c.set.ensures.trails ∙ ap (λ (ms : Coats _). ms.trails) same;
      painting = record {
        few = r.painting.few;
        coats_len = after.len ∙ r.painting.coats_len;
        counted = c.in_ok-set.ensures.counted;
        waiting = rw c.add_candidate.ensures.queue after.waiting;
        candidates =
            rw (c.in_ok-add_candidate.ensures.candidates, c.enqueue.ensures.candidates, c.join-paint.ensures, known)
            after.candidates;
        visits =
            rw visits
            (count_added coats c.set.new.self.all p x s.visits new inside is_new is_after uncovered r.painting.visits);
      };
      told = λ t said.
          (let may = r.told t (c.enqueue.ensures.kept t said) in
          let ranked = c.in_ok-enqueue.ensures.ranked t said in
          record {
            paint = rw (first, others) (added_paint after t.history a bs may.painting.paint may.so);
            ranked = rw c.add_candidate.ensures.queue (ranked.ranked may.painting.ranked);
            visiting =
                rw (first, others, visits)
                (λ right below.
                visiting_added t.history a bs coats c.set.new.self.all p x s.visits new inside is_new is_after after.here
                after.adds.others (may.waits right below) (may.edge right below) uncovered
                (may.painting.visiting right below));
          });
      adds = after.adds;
      level = λ t level said.
          rw c.add_candidate.ensures.queue (added_level after (c.in_ok-enqueue.ensures.ranked t said) level);
      work = rw c.add_candidate.ensures.queue after.work;
      failed = tt;
    }

pub returns-then-covers-clause-told : goal.returns-then-covers-clause-told
returns-then-covers-clause-told g c = λ t said.
    let was = (c.requires.told t said).painting in
    record { paint = was.paint; ranked = was.ranked; visiting = was.visiting }
