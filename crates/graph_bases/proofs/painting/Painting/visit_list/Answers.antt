use Rattle.std.proofs.Common.{◌≡◌, ◌≢◌, ℕ, true, length, refl, sym, ap, ◌∙◌, subst, inl, inr, ⊎_elim, arith}
use Rattle.commit_search.specs.Source.{Told}
use Rattle.graph_bases.specs.Paint.{covers, paint_at, Grows}
use Rattle.graph_bases.specs.Painting.{IsPassed}
use Rattle.graph_bases.specs.Trails.{trail_at, trail_in}
use Rattle.graph_bases.specs.declared.paint.Paint.{Paint}
use Rattle.graph_bases.specs.declared.trails.Trails.{Trails}
use Rattle.commit_search.proofs.EdgeListLemmas.{word_is_parent, list_goes_on}
use Rattle.graph_bases.proofs.PaintLemmas.{grows_refl, covers_grows}
use Rattle.graph_bases.proofs.PassLemmas.{passed_kept, passed_same, named_heard, passed_begins, passed_stops, passed_next}
use Rattle.graph_bases.proofs.PassLemmas.{PassesNext, passed_last, begun_after, passes_with, passes_kept, are_passed_from}
use Rattle.graph_bases.proofs.PassLemmas.{passes_on_trans}
use Rattle.graph_bases.proofs.painting.Painting.visit_list.Goals as goal
use Rattle.graph_bases.proofs.painting.Painting.visit_list.Given.{Over}
use Rattle.graph_bases.proofs.painting.Painting.visit_list.Goals.{In_ok-add, After-loop-commit}

pub loop-commit-init : goal.loop-commit-init
loop-commit-init g c =
    let s = c.args.self.now in
    let r = c.requires in
    let same : (t : Told) (i : ℕ) → g.S.CommitSource.says c.args.commits.now t
    → IsPassed s.coats.all (t.lists i) (trail_in c.grow_to.new.self.layers.items i) = λ t i said.
    passed_same s.coats.all (t.lists i) (trail_in s.coats.trails.layers.items i)
    (trail_in c.grow_to.new.self.layers.items i) (c.grow_to.ensures.same i) (r.lists t said i) in
    record {
      known = refl;
      kept = λ t said. said;
      first = refl;
      others = refl;
      passes = passes_with _ _ _ s c.grow_to.new.self c.args.commit.0 c.args.paint r.passes;
      on = record { grows = λ q. grows_refl _; work = omega arith };
      room = c.in_ok-grow_to.ensures.room;
      within = c.words_of-count.ensures.there;
      listed = r.listed;
      told = λ t said. r.told t said _ c.layer_of-layer.ensures;
      apart = λ t i said apart. same t i said;
      here = λ t said. passed_begins (same t c.layer_of-layer.result said);
      begun = inr refl;
    }

pub listed_parent-requires-clause-lies : goal.listed_parent-requires-clause-lies
listed_parent-requires-clause-lies g c = rw c.loop-commit.invariant.known c.layer_of-layer.ensures

pub listed_parent-requires-clause-listed : goal.listed_parent-requires-clause-listed
listed_parent-requires-clause-listed g c = rw c.loop-commit.invariant.known c.loop-commit.invariant.listed

pub pass-requires-clause-passes : goal.pass-requires-clause-passes
pass-requires-clause-passes g c =
    rw (c.listed_parent.ensures.known, c.loop-commit.invariant.known)
    (passes_kept _ _ _ _ c.loop-commit.self c.args.commit.0 c.args.paint c.listed_parent.ensures.kept
    c.loop-commit.invariant.passes)

pub pass-requires-clause-within : goal.pass-requires-clause-within
pass-requires-clause-within g c = rw (c.parent_of.ensures, c.listed_parent.ensures.known) c.in_ok-word.ensures.word.commit

pub pass-requires-clause-parent : goal.pass-requires-clause-parent
pass-requires-clause-parent g c = λ t said.
    let l = c.loop-commit in
    let inv = l.invariant in
    let was = c.listed_parent.ensures.kept t said in
    let read = c.in_ok-word.ensures.word in
    let len = (inv.passes.told t was).painting.paint.coats_len in
    rw c.parent_of.ensures
    (word_is_parent t c.args.commit.0 c.layer_of-layer.result l.next _ (read.told t said) (inv.told t was)
    (omega (arith, len, inv.passes.painting.coats_len, rw inv.known at read.commit)))

-- Once the word that is next was passed:
module _ (g : Over) (c : In_ok-add g) where
  -- what the source says now, it said before
  before : (t : Told) → g.S.CommitSource.says c.pass.new.commits t → g.S.CommitSource.says c.loop-commit.commits t
  before t said = c.listed_parent.ensures.kept t (c.pass.ensures.kept t said)

  passes : (t : Told) → g.S.CommitSource.says c.pass.new.commits t
      → PassesNext c.loop-commit.self.coats.all c.pass.new.self.coats.all (t.lists c.layer_of-layer.result)
      (trail_in c.loop-commit.self.coats.trails.layers.items c.layer_of-layer.result)
      (trail_in c.add.new.self.layers.items c.layer_of-layer.result) c.loop-commit.next c.passed-passed.result c.in_ok-word.word
  unfolding before
  passes t said =
      let l = c.loop-commit in
      let same = ap (λ (w : Trails). trail_in w.layers.items c.layer_of-layer.result) c.pass.ensures.trails in
      record {
        are = l.invariant.here t (before t said);
        grows = c.in_ok-pass.ensures.on.grows;
        says = sym (c.in_ok-word.ensures.word.told t (c.pass.ensures.kept t said)).says;
        hears = rw (sym c.parent_of.ensures, c.passed-passed.ensures) c.in_ok-pass.ensures.heard;
        here = rw same at c.in_ok-add.ensures.here;
        there = rw same at c.in_ok-add.ensures.there;
      }

  -- the word of the index was passed with the paint
  begun_next : Grows c.passed-passed.result
      (trail_at (trail_in c.add.new.self.layers.items c.layer_of-layer.result) c.args.index)
  begun_next =
      let same = ap (λ (w : Trails). trail_in w.layers.items c.layer_of-layer.result) c.pass.ensures.trails in
      begun_after (trail_in c.loop-commit.self.coats.trails.layers.items c.layer_of-layer.result)
      (trail_in c.add.new.self.layers.items c.layer_of-layer.result) c.loop-commit.next c.passed-passed.result
      (rw same at c.in_ok-add.ensures.here) (rw same at c.in_ok-add.ensures.there) c.args.index
      c.loop-commit.invariant.begun

  -- the lists of the other layers
  others_passed : (t : Told) (i : ℕ) → g.S.CommitSource.says c.pass.new.commits t → i ≢ c.layer_of-layer.result
      → IsPassed c.pass.new.self.coats.all (t.lists i) (trail_in c.add.new.self.layers.items i)
  others_passed t i said apart =
      rw (c.in_ok-add.ensures.others i apart, c.pass.ensures.trails)
      (passed_kept c.loop-commit.self.coats.all _ _ c.pass.new.self.coats.all c.in_ok-pass.ensures.on.grows
      (c.loop-commit.invariant.apart t i (before t said) apart))

pub loop-commit-preserved : goal.loop-commit-preserved
loop-commit-preserved g c =
    let in_ok = (goal.at.loop-commit-preserved g c).In_ok-add in
    let s = c.args.self.now in
    let l = c.loop-commit in
    let inv = l.invariant in
    let e = c.in_ok-pass.ensures in
    let after = c.pass.new.self in
    let e_passes = rw (c.listed_parent.ensures.known, inv.known) at e.passes in
    let next = rw (c.in-Internal.is, inv.known, ← c.words_of-count.ensures.words) at c.in_ok-word.ensures.word.next in
    record {
      known = c.pass.ensures.known ∙ c.listed_parent.ensures.known ∙ inv.known;
      kept = λ t said. inv.kept t (c.listed_parent.ensures.kept t (c.pass.ensures.kept t said));
      first = c.pass.ensures.first ∙ inv.first;
      others = c.pass.ensures.others ∙ inv.others;
      passes = passes_with _ _ _ after c.add.new.self c.args.commit.0 c.args.paint e_passes;
      on = (let both = passes_on_trans s l.self after inv.on e.on in record { grows = both.grows; work = both.work });
      room = omega (
        arith,
        inv.room,
        c.add.ensures.bounds c.layer_of-layer.result,
        ap (λ (w : Trails). length (trail_in w.layers.items c.layer_of-layer.result)) c.pass.ensures.trails,
      );
      within = next.0;
      listed = next.1;
      told = λ t said.
          (let read = c.in_ok-word.ensures.word.told t (c.pass.ensures.kept t said) in
          list_goes_on t c.args.commit.0 c.layer_of-layer.result l.next c.in_ok-word.word read
          (inv.told t (c.listed_parent.ensures.kept t (c.pass.ensures.kept t said))) c.in-Internal.field-0 c.in-Internal.is);
      apart = others_passed g in_ok;
      here = λ t said. passed_next (passes g in_ok t said);
      begun = inl (begun_next g in_ok);
    }

pub returns-in-Last-clause-passes : goal.returns-in-Last-clause-passes
returns-in-Last-clause-passes g c =
    passes_with _ _ _ c.pass.new.self c.add.new.self c.args.commit.0 c.args.paint
    (rw (c.listed_parent.ensures.known, c.loop-commit.invariant.known) at c.in_ok-pass.ensures.passes)

pub returns-in-Last-clause-lists : goal.returns-in-Last-clause-lists
returns-in-Last-clause-lists g c = λ t said.
    let in_ok = (goal.at.returns-in-Last-clause-lists g c).In_ok-add in
    are_passed_from c.pass.new.self.coats.all t.lists c.add.new.self.layers.items c.layer_of-layer.result
    (λ i apart. others_passed g in_ok t i said apart) (passed_last (passes g in_ok t said) c.in-Last.field-0 c.in-Last.is)

pub returns-in-Last-clause-on : goal.returns-in-Last-clause-on
returns-in-Last-clause-on g c =
    let both =
    passes_on_trans c.args.self.now c.loop-commit.self c.pass.new.self c.loop-commit.invariant.on c.in_ok-pass.ensures.on in
    record { grows = both.grows; work = both.work }

pub returns-in-Last-clause-named : goal.returns-in-Last-clause-named
returns-in-Last-clause-named g c = λ t q said contained.
    let in_ok = (goal.at.returns-in-Last-clause-named g c).In_ok-add in
    let one = passes g in_ok t said in
    let heard =
    named_heard _ _ _ (passed_last one c.in-Last.field-0 c.in-Last.is) c.passed-passed.result c.args.index
    (begun_next g in_ok) q (contained c.layer_of-layer.result c.layer_of-layer.ensures) in
    subst (λ (y : Paint). Grows y (paint_at c.pass.new.self.coats.all q)) c.passed-passed.ensures heard

-- the word that is next was passed with as much
covered : (g : Over) (c : After-loop-commit g)
    → covers (trail_at (trail_in c.loop-commit.self.coats.trails.layers.items c.layer_of-layer.result) c.loop-commit.next)
    c.passed-passed.result ≡ true
covered g c =
    ap (λ (p : Paint). covers p c.passed-passed.result) (sym c.at.ensures) ∙ sym c.covers.ensures ∙ c.loop-commit-test.false

pub returns-clause-lists : goal.returns-clause-lists
returns-clause-lists g c = λ t said.
    let l = c.loop-commit in
    are_passed_from l.self.coats.all t.lists l.self.coats.trails.layers.items c.layer_of-layer.result
    (λ i apart. l.invariant.apart t i said apart) (passed_stops (l.invariant.here t said) (covered g c))

pub returns-clause-named : goal.returns-clause-named
returns-clause-named g c = λ t q said contained.
    let l = c.loop-commit in
    let x = c.passed-passed.result in
    let trail = trail_in l.self.coats.trails.layers.items c.layer_of-layer.result in
    let as_much = covered g c in
    let heard =
    named_heard _ _ _ (passed_stops (l.invariant.here t said) as_much) x c.args.index
    (⊎_elim
    (λ (was : Grows x (trail_at trail c.args.index)). was)
    (λ (at : c.args.index ≡ l.next).
    subst (λ (v : ℕ). Grows x (trail_at trail v)) (sym at) (covers_grows (trail_at trail l.next) x as_much))
    l.invariant.begun) q (contained c.layer_of-layer.result c.layer_of-layer.ensures) in
    subst (λ (y : Paint). Grows y (paint_at l.self.coats.all q)) c.passed-passed.ensures heard
