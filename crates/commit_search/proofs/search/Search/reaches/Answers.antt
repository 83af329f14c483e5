use Rattle.std.proofs.Common.{◌≡◌, ◌⊎◌, ◌+◌, ◌≤◌, ◌<◌, ℕ, List, length, Contains, refl, sym, ap, ◌∙◌, inl, inr}
use Rattle.std.proofs.Common.{subst₂, ⊎_elim, eqb-true, eq-eqb, arith}
use Rattle.std.proofs.lemmas.Bool.{false≢true}
use Rattle.std.proofs.lemmas.List.{length_push}
use Rattle.graph_walks.specs.History.{generation_at}
use Rattle.commit_search.specs.WalkAnswer.{IsAbove, LeadsWithin}
use Rattle.commit_search.specs.Marks.{Marked}
use Rattle.commit_search.specs.Queue.{commit_in}
use Rattle.commit_search.specs.Search.{queued_by}
use Rattle.commit_search.proofs.DescentLemmas.{places_begin, descent_begins, taken_within, places_go_on}
use Rattle.commit_search.proofs.DescentLemmas.{descent_goes_on, descent_ends, descent_has_all, shallow_begins, shallow_goes_on}
use Rattle.commit_search.proofs.QueueLemmas.{commit_extends}
use Rattle.commit_search.proofs.QueryLemmas.{each_at_or_above}
use Rattle.commit_search.proofs.SearchLemmas.{searching_begins, nothing_read, queue_told}
use Rattle.commit_search.proofs.ShortestWalkLemmas.{queued_is_led_to}
use Rattle.commit_search.proofs.VisitLemmas.{length-queued, all_visited}
use Rattle.commit_search.proofs.search.Search.reaches.Goals as goal

pub loop-place-init : goal.loop-place-init
loop-place-init g c =
    let s = c.begin.new.self in
    let e = c.in_ok-begin.ensures in
    let stack = c.push_places.new.stack.items in
    let one = ap (λ (xs : List Marked). length xs) e.first in
    let count = c.num_commits.ensures.count in
    let only = λ (i : ℕ) (there : Contains stack i).
    ⊎_elim
    (λ (was : Contains c.clear.new.self.items i). absurd (omega (arith, was.1, ap length c.clear.ensures.items)))
    (λ (lt : i < 1). lt)
    (c.in_ok-push_places.ensures.only i there) in
    let first = c.in_ok-push_places.ensures.new 0 (omega arith) (omega arith) in
    let search =
    searching_begins (g.S.CommitSource.count (g.S.CommitSource.known c.args.commits.now)) c.args.from.0
    (g.S.CommitSource.says c.args.commits.now) s (omega (arith, count)) (omega (arith, count, e.room))
    (λ t said. c.num_commits.ensures.told t said ∙ count) e.first c.requires.from
    (λ t said. omega (arith, c.requires.above t said, c.begin.ensures.least)) in
    record {
      known = refl;
      kept = λ t said. said;
      search = record { few = search.few; room = search.room; counted = search.counted; queue = search.queue };
      read = nothing_read (g.S.CommitSource.says c.args.commits.now) s c.begin.ensures.words;
      least = c.begin.ensures.least;
      some = omega (arith, one);
      first = ap (λ (xs : List Marked). commit_in xs 0) e.first;
      places = places_begin (queued_by s) stack one only first;
      counted = omega (arith, one, c.in_ok-push_places.ensures.len, ap length c.clear.ensures.items);
      within = omega arith;
      shallow = shallow_begins (queued_by s) one;
      descent = λ t said. descent_begins (queued_by s) stack one only first t.history s.least c.args.to.0;
    }

pub commit_at-requires : goal.commit_at-requires
commit_at-requires g c =
    let l = c.loop-place in
    taken_within (queued_by l.self) l.stack.items c.pop.new.self.items c.in-Some.place c.in-Some.ensures.items
    l.invariant.places

pub returns-then-eq-clause-visits : goal.returns-then-eq-clause-visits
returns-then-eq-clause-visits g c =
    let inv = c.loop-place.invariant in
    omega (arith, inv.counted, length-queued _ _ _ (queued_by c.loop-place.self) inv.search.queue)

pub returns-then-eq-clause-once : goal.returns-then-eq-clause-once
returns-then-eq-clause-once g c = λ t said.
    let inv = c.loop-place.invariant in
    each_at_or_above t.history c.loop-place.self.least c.args.from.0 c.args.to.0 (queued_by c.loop-place.self) c.loop-place.visits
    (queue_told _ _ c.loop-place.self t said inv.search) inv.first
    (omega (arith, inv.least, c.requires.least t (inv.kept t said))) (omega (arith, inv.counted))

pub returns-then-eq-clause-yes : goal.returns-then-eq-clause-yes
returns-then-eq-clause-yes g c = λ t said found.
    let l = c.loop-place in
    let inv = l.invariant in
    let at = sym c.commit_at.ensures ∙ eqb-true c.commit_at.result.0 c.args.to.0 (sym c.if-eq.ensures) in
    let lt =
    taken_within (queued_by l.self) l.stack.items c.pop.new.self.items c.in-Some.place c.in-Some.ensures.items inv.places in
    let led =
    queued_is_led_to t.history l.self.least (queued_by l.self) (queue_told _ _ l.self t said inv.search) c.in-Some.place l.visits
    lt (λ d depth. inv.shallow c.in-Some.place d lt depth) in
    subst₂ (λ (p q : ℕ). LeadsWithin t.history p q l.visits) inv.first at led

pub returns-then-visits-most-clause-fewer : goal.returns-then-visits-most-clause-fewer
returns-then-visits-most-clause-fewer g c =
    let l = c.loop-place in
    let inv = l.invariant in
    omega (
      arith,
      c.if-visits-most.true,
      inv.counted,
      length-queued _ _ _ (queued_by l.self) inv.search.queue,
      ap length c.in-Some.ensures.items,
      length_push c.pop.new.self.items c.in-Some.place,
    )

pub returns-then-visits-most-clause-more : goal.returns-then-visits-most-clause-more
returns-then-visits-most-clause-more g c = λ t said.
    let l = c.loop-place in
    let inv = l.invariant in
    each_at_or_above t.history l.self.least c.args.from.0 c.args.to.0 (queued_by l.self) (c.args.most + 1)
    (queue_told _ _ l.self t said inv.search) inv.first
    (omega (arith, inv.least, c.requires.least t (inv.kept t said)))
    (omega (
      arith,
      c.if-visits-most.true,
      inv.counted,
      ap length c.in-Some.ensures.items,
      length_push c.pop.new.self.items c.in-Some.place,
    ))

pub overflow_cast-reached : goal.overflow_cast-reached
overflow_cast-reached g c =
    let l = c.loop-place in
    let inv = l.invariant in
    let few = inv.search.few in
    omega (arith, length-queued _ _ _ (queued_by l.self) inv.search.queue, few, c.len-reached.ensures)

pub visit-requires-clause-search : goal.visit-requires-clause-search
visit-requires-clause-search g c =
    let search = rw (← c.loop-place.invariant.known) at c.loop-place.invariant.search in
    record { few = search.few; room = search.room; counted = search.counted; queue = search.queue }

pub visit-requires-clause-read : goal.visit-requires-clause-read
visit-requires-clause-read g c = c.loop-place.invariant.read

pub visit-requires-clause-place : goal.visit-requires-clause-place
visit-requires-clause-place g c =
    let l = c.loop-place in
    taken_within (queued_by l.self) l.stack.items c.pop.new.self.items c.in-Some.place c.in-Some.ensures.items
    l.invariant.places

pub overflow_add-visits : goal.overflow_add-visits
overflow_add-visits g c =
    let l = c.loop-place in
    let inv = l.invariant in
    let few = inv.search.few in
    omega (
      arith,
      few,
      inv.counted,
      length-queued _ _ _ (queued_by l.self) inv.search.queue,
      ap length c.in-Some.ensures.items,
      length_push c.pop.new.self.items c.in-Some.place,
    )

pub overflow_cast-end : goal.overflow_cast-end
overflow_cast-end g c =
    let s = c.visit.new.self in
    let search = c.in_ok-visit.ensures.search in
    let few = search.few in
    omega (arith, length-queued _ _ _ (queued_by s) search.queue, few, c.len-end.ensures)

pub push_places-requires-in-Some : goal.push_places-requires-in-Some
push_places-requires-in-Some g c =
    omega (arith, c.in_ok-visit.ensures.goes_on.extends.longer, c.len-reached.ensures, c.len-end.ensures)

pub loop-place-smaller : goal.loop-place-smaller
loop-place-smaller g c =
    let l = c.loop-place in
    let s = c.visit.new.self in
    let e = c.in_ok-visit.ensures in
    let search = rw c.loop-place.invariant.known at e.search in
    omega (
      arith,
      length-queued _ _ _ (queued_by s) search.queue,
      e.goes_on.extends.longer,
      c.len-reached.ensures,
      c.len-end.ensures,
      c.in_ok-push_places-2.ensures.len,
      ap length c.in-Some.ensures.items,
      length_push c.pop.new.self.items c.in-Some.place,
    )

pub loop-place-preserved : goal.loop-place-preserved
loop-place-preserved g c =
    let l = c.loop-place in
    let inv = l.invariant in
    let s = c.visit.new.self in
    let e = c.in_ok-visit.ensures in
    let on = e.goes_on in
    let pushed = c.in_ok-push_places-2.ensures in
    let search = rw inv.known at e.search in
    let other =
    λ (at : commit_in (queued_by l.self) c.in-Some.place ≡ c.args.to.0). false≢true (c.if-eq.ensures
    ∙ eq-eqb _ _ (c.commit_at.ensures ∙ at)) in
    let only : (i : ℕ) → Contains c.push_places-in-Some.new.stack.items i
    → Contains c.pop.new.self.items i ⊎ (i < length (queued_by s)) = λ i there.
    ⊎_elim
    (λ (left : Contains c.pop.new.self.items i). inl left)
    (λ (lt : i < c.len-end.result). inr (omega (arith, lt, c.len-end.ensures)))
    (pushed.only i there) in
    record {
      known = c.visit.ensures.known ∙ inv.known;
      kept = λ t said. inv.kept t (c.visit.ensures.kept t said);
      search = record { few = search.few; room = search.room; counted = search.counted; queue = search.queue };
      read = e.read;
      least = on.least ∙ inv.least;
      some = omega (arith, inv.some, on.extends.longer);
      first = commit_extends (queued_by l.self) (queued_by s) c.in-Some.place 0 on.extends inv.some ∙ inv.first;
      places = places_go_on (queued_by l.self) (queued_by s) l.stack.items c.pop.new.self.items
          c.push_places-in-Some.new.stack.items c.in-Some.place c.in-Some.ensures.items inv.places on.extends only;
      counted = omega (
        arith,
        inv.counted,
        on.extends.longer,
        c.len-reached.ensures,
        c.len-end.ensures,
        pushed.len,
        ap length c.in-Some.ensures.items,
        length_push c.pop.new.self.items c.in-Some.place,
      );
      within = omega (arith, c.if-visits-most.false);
      shallow = shallow_goes_on (queued_by l.self) (queued_by s) c.in-Some.place on.extends inv.search.queue.earlier l.visits
          (taken_within (queued_by l.self) l.stack.items c.pop.new.self.items c.in-Some.place c.in-Some.ensures.items inv.places)
          inv.shallow;
      descent = λ t said. rw on.least
          (descent_goes_on t.history l.self.least c.args.to.0 (queued_by l.self) (queued_by s)
          l.stack.items c.pop.new.self.items c.push_places-in-Some.new.stack.items c.in-Some.place c.in-Some.ensures.items
          (inv.descent t (c.visit.ensures.kept t said)) on.extends (e.parents t said) other
          pushed.old
          (λ i from lt. pushed.new i (omega (arith, from, c.len-reached.ensures)) (omega (arith, lt, c.len-end.ensures))));
    }

pub returns-clause-visits : goal.returns-clause-visits
returns-clause-visits g c =
    let inv = c.loop-place.invariant in
    omega (arith, inv.counted, length-queued _ _ _ (queued_by c.loop-place.self) inv.search.queue)

pub returns-clause-once : goal.returns-clause-once
returns-clause-once g c = λ t said.
    let inv = c.loop-place.invariant in
    each_at_or_above t.history c.loop-place.self.least c.args.from.0 c.args.to.0 (queued_by c.loop-place.self) c.loop-place.visits
    (queue_told _ _ c.loop-place.self t said inv.search) inv.first
    (omega (arith, inv.least, c.requires.least t (inv.kept t said))) (omega (arith, inv.counted))

pub returns-clause-no : goal.returns-clause-no
returns-clause-no g c = λ t said right reaches.
    let l = c.loop-place in
    let inv = l.invariant in
    let never_rises = right in
    let high : l.self.least ≤ generation_at t.history c.args.to.0 =
    omega (arith, inv.least, c.requires.least t (inv.kept t said)) in
    let empty : length l.stack.items ≡ 0 = omega (arith, c.in_default.ensures.cases.0) in
    absurd (descent_ends t.history l.self.least c.args.from.0 c.args.to.0 (queued_by l.self) l.stack.items
    (queue_told _ _ l.self t said inv.search) never_rises inv.some inv.first (inv.descent t said) empty high reaches)

pub returns-clause-above : goal.returns-clause-above
returns-clause-above g c = λ t said right no.
    let l = c.loop-place in
    let inv = l.invariant in
    let never_rises = right in
    let least : l.self.least ≡ generation_at t.history c.args.to.0 =
    omega (arith, inv.least, c.requires.least t (inv.kept t said)) in
    let empty : length l.stack.items ≡ 0 = omega (arith, c.in_default.ensures.cases.0) in
    let queue = queue_told _ _ l.self t said inv.search in
    all_visited _ _ _ (queued_by l.self) queue (IsAbove t.history c.args.from.0 c.args.to.0) l.visits
    (omega (arith, inv.counted, empty)) (λ p above.
    descent_has_all t.history l.self.least c.args.from.0 c.args.to.0 (queued_by l.self) l.stack.items queue never_rises inv.some
    inv.first (inv.descent t said) empty p (let high = above.1 in omega (arith, least)) above.0)
