use Rattle.std.proofs.Common.{inl, inr, refl, sym, ap, ◌≡◌, ◌<◌, length, get_or, ◌∙◌, heap_items, arith}
use Rattle.std.proofs.lemmas.Bool.{false≢true}
use Rattle.std.proofs.lemmas.List.{length-map}
use Rattle.graph_format.specs.declared.Position.{Position}
use Rattle.commit_search.specs.Source.{Told}
use Rattle.commit_search.specs.Positions.{numbers_of}
use Rattle.graph_bases.specs.Paint.{is_painted}
use Rattle.graph_bases.specs.declared.paint.Coat.{Coat}
use Rattle.commit_search.specs.Ranks.{FallsAlongParents}
use Rattle.graph_bases.proofs.CoatLemmas.{so_first, so_other, bare_level, begun_first, begun_more, begun_all}
use Rattle.graph_bases.proofs.CoatLemmas.{number_at, number_contained}
use Rattle.graph_bases.proofs.EdgeLemmas.{painted_queued, at_most_once}
use Rattle.graph_bases.proofs.PassLemmas.{passed_kept}
use Rattle.graph_bases.proofs.BaseLemmas.{HasEnded, painted_is_exact, capped_visited}
use Rattle.graph_bases.proofs.VisitCountLemmas.{visits_told, visits_bound}
use Rattle.graph_bases.proofs.painting.paint_from.Goals as goal
use Rattle.graph_bases.proofs.painting.paint_from.Given.{Over}
use Rattle.graph_bases.proofs.painting.paint_from.Goals.{In-loop-other, In_ok-run}

pub new-painting-requires-clause-idle : goal.new-painting-requires-clause-idle
new-painting-requires-clause-idle g c =
    let e = c.requires.idle in
    record { coats_len = refl; bare = e.bare; trails = e.trails; counted = e.counted }

pub new-painting-requires-clause-few : goal.new-painting-requires-clause-few
new-painting-requires-clause-few g c = omega (arith, c.requires.idle.coats_len, c.num_commits-commits.ensures.count)

pub add-requires-clause-painting : goal.add-requires-clause-painting
add-requires-clause-painting g c = rw c.requires.idle.coats_len at c.new-painting.ensures.painting

pub add-requires-clause-told : goal.add-requires-clause-told
add-requires-clause-told g c = λ t said.
    let p = c.new-painting.ensures in
    let s = c.new-painting.result in
    let len : length t.history ≡ length c.args.coats.all =
    c.num_commits-commits.ensures.told t said ∙ c.num_commits-commits.ensures.count ∙ sym c.requires.idle.coats_len in
    let within : c.args.first.0 < length t.history = omega (arith, len, c.requires.idle.coats_len, c.requires.first) in
    record {
      painting = p.told t.history (g.R.Ranks.ranking c.args.ranks.now t) len;
      so = rw p.first (so_first t.history c.args.first.0 (numbers_of s.others.now) within);
      waits = λ right below painted.
          absurd (false≢true (sym (ap (λ (m : Coat). is_painted m.paint) (p.bare c.args.first.0)) ∙ painted));
      edge = λ right below live. inl (inl (sym (ap (λ (f : Position). f.0) p.first)));
    }

pub loop-other-init : goal.loop-other-init
loop-other-init g c =
    let p = c.new-painting.ensures in
    let s = c.new-painting.result in
    record {
      known = c.add.ensures.known;
      kept = c.add.ensures.kept;
      first = c.add.ensures.first ∙ p.first;
      others = c.add.ensures.others ∙ p.others;
      painting = c.in_ok-add.ensures.painting;
      told = c.in_ok-add.ensures.told;
      lists = λ t said l.
          rw c.add.ensures.trails
          (passed_kept s.coats.all _ _ c.add.new.self.coats.all c.in_ok-add.ensures.adds.grows (p.lists t l));
      begun = λ t said.
          begun_first t.history s.coats.all (heap_items s.queue) p.bare p.empty c.args.first.0
          (numbers_of c.args.others.now) c.add.new.self.coats.all c.in_ok-add.ensures.adds;
      level = λ t said along.
          (let len : length t.history ≡ length c.args.coats.all =
          c.num_commits-commits.ensures.told t (c.add.ensures.kept t said) ∙ c.num_commits-commits.ensures.count
          ∙ sym c.requires.idle.coats_len in
          let within : c.args.first.0 < length t.history = omega (arith, len, c.requires.idle.coats_len, c.requires.first) in
          let k = g.R.Ranks.ranking c.args.ranks.now t in
          c.in_ok-add.ensures.level t k.cap said (along.capped c.args.first.0 within)
          (bare_level t.history s.coats.all (heap_items s.queue) p.bare p.empty k k.cap));
    }

-- the other that is next is a commit of what the source tells
within : (g : Over) (c : In-loop-other g) (t : Told) → g.S.CommitSource.says c.loop-other.commits t
    → (get_or c.args.others.now c.loop-other.other-index (record { 0 = 0 })).0 < length t.history
within g c t said =
    let i = c.loop-other.invariant in
    let len = (i.told t said).paint.coats_len in
    omega (
      arith,
      len,
      i.painting.coats_len,
      c.requires.others c.loop-other.other-index (record { 0 = 0 }) c.loop-other-test.true,
    )

pub add-requires-in-loop-other-clause-within : goal.add-requires-in-loop-other-clause-within
add-requires-in-loop-other-clause-within g c =
    rw c.loop-other.invariant.known
    (c.requires.others c.loop-other.other-index (record { 0 = 0 }) c.loop-other-test.true)

pub add-requires-in-loop-other-clause-told : goal.add-requires-in-loop-other-clause-told
add-requires-in-loop-other-clause-told g c = λ t said.
    let l = c.loop-other in
    let i = l.invariant in
    let h = t.history in
    let other = get_or c.args.others.now l.other-index (record { 0 = 0 }) in
    let start = number_contained c.args.others.now l.other-index c.loop-other-test.true in
    record {
      painting = i.told t said;
      so = rw (i.first, i.others)
          (so_other h c.args.first.0 (numbers_of c.args.others.now) _ start
          (within g (goal.at.add-requires-in-loop-other-clause-told g c).In-loop-other t said));
      waits = rw (i.first, i.others)
          (λ right below painted.
          let k = g.R.Ranks.ranking c.args.ranks.now t in
          painted_queued k l.painting.coats.all (heap_items l.painting.queue) k.cap other.0
          (i.level t said right) (below other.0 (inr start)) painted);
      edge = rw (i.first, i.others) (λ right below live. inl (inr start));
    }

pub loop-other-preserved : goal.loop-other-preserved
loop-other-preserved g c =
    let l = c.loop-other in
    let i = l.invariant in
    let other = get_or c.args.others.now l.other-index (record { 0 = 0 }) in
    let add = c.add-in-loop-other.ensures in
    record {
      known = add.known ∙ i.known;
      kept = λ t said. i.kept t (add.kept t said);
      first = add.first ∙ i.first;
      others = add.others ∙ i.others;
      painting = rw i.known at c.in_ok-add-2.ensures.painting;
      told = c.in_ok-add-2.ensures.told;
      lists = λ t said k.
          rw add.trails
          (passed_kept l.painting.coats.all _ _ c.add-in-loop-other.new.self.coats.all
          c.in_ok-add-2.ensures.adds.grows (i.lists t (add.kept t said) k));
      begun = λ t said.
          begun_more t.history c.args.first.0 (numbers_of c.args.others.now) l.other-index other.0 l.painting.coats.all
          c.add-in-loop-other.new.self.coats.all (i.begun t (add.kept t said))
          (number_at c.args.others.now l.other-index) c.in_ok-add-2.ensures.adds;
      level = λ t said along.
          (let before = add.kept t said in
          let low = along.capped other.0 (within g (goal.at.loop-other-preserved g c).In-loop-other t before) in
          c.in_ok-add-2.ensures.level t (g.R.Ranks.ranking c.args.ranks.now t).cap said low (i.level t before along));
    }

pub run-requires-clause-spread : goal.run-requires-clause-spread
run-requires-clause-spread g c = λ t said.
    let l = c.loop-other in
    let i = l.invariant in
    rw (i.first, i.others)
    (begun_all t.history c.args.first.0 (numbers_of c.args.others.now) l.other-index l.painting.coats.all
    (i.begun t said)
    (omega (arith, c.loop-other-test.false, c.loop-other.auto, length-map c.args.others.now (λ (p : Position). p.0))))

pub run-requires-clause-level : goal.run-requires-clause-level
run-requires-clause-level g c = λ t said along.
    ((g.R.Ranks.ranking c.args.ranks.now t).cap, c.loop-other.invariant.level t said along)

-- all is painted
ended : (g : Over) (c : In_ok-run g) (t : Told) → g.S.CommitSource.says c.run.new.commits t
    → FallsAlongParents t.history (g.R.Ranks.ranking c.args.ranks.now t)
    → HasEnded t.history (g.R.Ranks.ranking c.args.ranks.now t) c.args.first.0 (numbers_of c.args.others.now)
    c.run.new.self.coats.all
ended g c t said along =
    let i = c.loop-other.invariant in
    let e = c.in_ok-run.ensures in
    record {
      paint = rw (i.first, i.others) at (e.paint t said);
      spread = rw (i.first, i.others) at (e.spread t said);
      done = e.done t said along;
      along = along;
    }

pub returns-clause-paint : goal.returns-clause-paint
returns-clause-paint g c = λ t said.
    let i = c.loop-other.invariant in
    rw (i.first, i.others) at (c.in_ok-run.ensures.paint t said)

pub returns-clause-most : goal.returns-clause-most
returns-clause-most g c =
    let len = rw c.loop-other.invariant.known at c.in_ok-run.ensures.len in
    omega (arith, visits_bound c.run.new.self.coats.all c.run.new.self.visits c.in_ok-run.ensures.count, len)

pub returns-clause-painted : goal.returns-clause-painted
returns-clause-painted g c = λ t said right.
    painted_is_exact (ended g (goal.at.returns-clause-painted g c).In_ok-run t said right)

pub returns-clause-visits : goal.returns-clause-visits
returns-clause-visits g c = λ t said right.
    let end = ended g (goal.at.returns-clause-visits g c).In_ok-run t said right in
    let painted = painted_is_exact end in
    let i = c.loop-other.invariant in
    let visiting = rw (i.first, i.others) at (c.in_ok-run.ensures.visiting t said right) in
    visits_told painted end.paint end.done c.in_ok-run.ensures.count (capped_visited end)
    (λ below. at_most_once painted end.paint (visiting below))
