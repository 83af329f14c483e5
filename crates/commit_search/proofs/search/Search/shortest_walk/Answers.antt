use Rattle.std.proofs.Common.{◌≡◌, ℕ, ◌+◌, ◌<◌, ◌≤◌, length, refl, sym, ◌∙◌, eqb-true, eq-eqb, subst₂, arith}
use Rattle.std.proofs.lemmas.Bool.{false≢true}
use Rattle.std.proofs.lemmas.List.{length-map}
use Rattle.graph_format.specs.declared.Position.{Position}
use Rattle.graph_walks.specs.Walks.{IsWalkBetween}
use Rattle.commit_search.specs.Positions.{numbers_of}
use Rattle.commit_search.specs.Queue.{commit_in}
use Rattle.commit_search.specs.Search.{queued_by}
use Rattle.commit_search.proofs.AheadLemmas.{nothing_ahead, ahead_extends}
use Rattle.commit_search.proofs.KnownAnswerLemmas.{led_somewhere}
use Rattle.commit_search.proofs.SearchLemmas.{searching_begins, searching_kept, nothing_read}
use Rattle.commit_search.proofs.ShortestWalkLemmas.{depth_within}
use Rattle.commit_search.proofs.QueryLemmas.{queued_within, query_told, query_begins, query_goes_on, walk_is_shortest}
use Rattle.commit_search.proofs.QueryLemmas.{all_at_or_above, not_reached, all_were_visited}
use Rattle.commit_search.proofs.search.Search.shortest_walk.Goals as goal

pub loop-visits-init : goal.loop-visits-init
loop-visits-init g c =
    let source = g.S.CommitSource in
    let s = c.begin.new.self in
    let e = c.in_ok-begin.ensures in
    let count = c.num_commits.ensures.count in
    let says = source.says c.args.commits.now in
    let search =
    searching_begins (source.count (source.known c.args.commits.now)) c.args.from.0 says s (omega (arith, count))
    (omega (arith, count, e.room)) (λ t said. c.num_commits.ensures.told t said ∙ count) e.first c.requires.from
    (λ t said. omega (arith, c.requires.above t said, c.begin.ensures.least)) in
    record {
      known = refl;
      kept = λ t said. said;
      ahead = nothing_ahead _ _ _ says s c.new-ahead.result c.new-ahead.ensures.fields c.new-ahead.ensures.numbers;
      query = query_begins (source.count (source.known c.args.commits.now)) says c.args.from.0 c.args.to.0 s search
          (nothing_read says s c.begin.ensures.words) e.first
          (λ t said. c.begin.ensures.least ∙ c.requires.least t said);
      within = omega arith;
    }

pub overflow_add-visits : goal.overflow_add-visits
overflow_add-visits g c =
    let l = c.loop-visits in
    let bound = queued_within _ _ _ _ l.self l.visits l.invariant.query in
    omega (arith, bound, l.invariant.query.search.few, c.loop-visits-test.true, c.len.ensures)

pub loop-visits-smaller : goal.loop-visits-smaller
loop-visits-smaller g c =
    let l = c.loop-visits in
    let bound = queued_within _ _ _ _ l.self l.visits l.invariant.query in
    omega (arith, bound, c.loop-visits-test.true, c.len.ensures)

pub walk_to-requires-clause-earlier : goal.walk_to-requires-clause-earlier
walk_to-requires-clause-earlier g c = c.loop-visits.invariant.query.search.queue.earlier

pub fields_at-requires-clause-search : goal.fields_at-requires-clause-search
fields_at-requires-clause-search g c = rw c.loop-visits.invariant.known c.loop-visits.invariant.query.search

pub fields_at-requires-clause-ahead : goal.fields_at-requires-clause-ahead
fields_at-requires-clause-ahead g c = rw c.loop-visits.invariant.known c.loop-visits.invariant.ahead

pub visit_known-requires-clause-search : goal.visit_known-requires-clause-search
visit_known-requires-clause-search g c =
    rw (c.fields_at.ensures.known, c.loop-visits.invariant.known)
    (searching_kept _ _ _ c.fields_at.ensures.kept c.loop-visits.self c.loop-visits.invariant.query.search)

pub visit_known-requires-clause-read : goal.visit_known-requires-clause-read
visit_known-requires-clause-read g c = λ t said. c.loop-visits.invariant.query.read t (c.fields_at.ensures.kept t said)

pub visit_known-requires-clause-fields : goal.visit_known-requires-clause-fields
visit_known-requires-clause-fields g c = rw c.fields_at.ensures.known c.in_ok-fields.ensures.fields

pub loop-visits-preserved : goal.loop-visits-preserved
loop-visits-preserved g c =
    let l = c.loop-visits in
    let inv = l.invariant in
    let visit = c.in_ok-visit_known.ensures in
    let here : l.visits < length (queued_by l.self) = omega (arith, c.loop-visits-test.true, c.len.ensures) in
    let other =
    λ (at : commit_in (queued_by l.self) l.visits ≡ c.args.to.0). false≢true (c.if-eq.ensures
    ∙ eq-eqb _ _ (c.commit_at.ensures ∙ at)) in
    let known = c.fields_at.ensures.known ∙ inv.known in
    record {
      known = c.visit_known.ensures.known ∙ known;
      kept = λ t said. inv.kept t (c.fields_at.ensures.kept t (c.visit_known.ensures.kept t said));
      ahead = ahead_extends _ _ _ _ _ c.visit_known.ensures.kept l.self c.visit_known.new.self l.visits c.fields_at.new.ahead
          visit.goes_on (rw inv.known at c.in_ok-fields.ensures.ahead);
      query =
          query_goes_on _ _ c.args.from.0 c.args.to.0 l.self l.visits inv.query _
          (λ t said. c.fields_at.ensures.kept t (c.visit_known.ensures.kept t said))
          c.visit_known.new.self here other visit.goes_on (rw (c.fields_at.ensures.known, inv.known) at visit.search) visit.read
          visit.parents;
      within = omega (arith, c.if-visits-most.false);
    }

pub returns-then-eq-clause-answer : goal.returns-then-eq-clause-answer
returns-then-eq-clause-answer g c = λ t said.
    let l = c.loop-visits in
    let s = l.self in
    let query = query_told _ _ _ _ s l.visits l.invariant.query t said in
    let at = sym c.commit_at.ensures ∙ eqb-true c.commit_at.result.0 c.args.to.0 (sym c.if-eq.ensures) in
    let here : l.visits < length (queued_by s) = omega (arith, c.loop-visits-test.true, c.len.ensures) in
    record {
      walk = subst₂ (λ (p q : ℕ). IsWalkBetween t.history p q (numbers_of c.in_ok-walk.walk.items)) query.first at
          (c.in_ok-walk.ensures.walk t.history s.least query.kept);
      visits = all_at_or_above t.history c.args.from.0 c.args.to.0 s l.visits query (l.visits + 1) (omega (arith, here));
    }

pub returns-then-eq-clause-right : goal.returns-then-eq-clause-right
returns-then-eq-clause-right g c = λ t said right.
    let l = c.loop-visits in
    let s = l.self in
    let query = query_told _ _ _ _ s l.visits l.invariant.query t said in
    let h = t.history in
    let never_rises = right in
    let walk = c.in_ok-walk.ensures in
    let at = sym c.commit_at.ensures ∙ eqb-true c.commit_at.result.0 c.args.to.0 (sym c.if-eq.ensures) in
    let here : l.visits < length (queued_by s) = omega (arith, c.loop-visits-test.true, c.len.ensures) in
    let steps =
    depth_within h s.least (queued_by s) query.kept walk.steps.0 l.visits here walk.steps.1 in
    record {
      walk = walk_is_shortest h c.args.from.0 c.args.to.0 s l.visits query never_rises walk.steps.0
          (numbers_of c.in_ok-walk.walk.items) here at (walk.walk h s.least query.kept) walk.steps.1
          (length-map c.in_ok-walk.walk.items (λ (x : Position). x.0) ∙ walk.steps.2);
      none = tt;
      visits = all_at_or_above h c.args.from.0 c.args.to.0 s l.visits query (l.visits + 1) (omega (arith, here));
      walk_visits = omega (arith, steps, walk.steps.2);
      none_visits = tt;
      no_visits = λ apart low below.
          absurd (led_somewhere h c.args.from.0 c.args.to.0 (c.requires.allowed t (l.invariant.kept t said)) low below);
    }

pub returns-clause-answer : goal.returns-clause-answer
returns-clause-answer g c = λ t said.
    let l = c.loop-visits in
    let query = query_told _ _ _ _ l.self l.visits l.invariant.query t said in
    record {
      walk = tt;
      visits = all_at_or_above t.history c.args.from.0 c.args.to.0 l.self l.visits query l.visits l.invariant.query.taken;
    }

pub returns-clause-right : goal.returns-clause-right
returns-clause-right g c = λ t said right.
    let l = c.loop-visits in
    let h = t.history in
    let query = query_told _ _ _ _ l.self l.visits l.invariant.query t said in
    let never_rises = right in
    let all : length (queued_by l.self) ≤ l.visits = omega (arith, c.loop-visits-test.false, c.len.ensures) in
    record {
      walk = tt;
      none = not_reached h c.args.from.0 c.args.to.0 l.self l.visits query never_rises all;
      visits = all_at_or_above h c.args.from.0 c.args.to.0 l.self l.visits query l.visits l.invariant.query.taken;
      walk_visits = tt;
      none_visits = all_were_visited h c.args.from.0 c.args.to.0 l.self l.visits query never_rises all;
      no_visits = λ apart low below.
          absurd (led_somewhere h c.args.from.0 c.args.to.0 (c.requires.allowed t (l.invariant.kept t said)) low below);
    }

pub returns-then-eq-clause-visits : goal.returns-then-eq-clause-visits
returns-then-eq-clause-visits g c =
    let l = c.loop-visits in
    omega (
      arith,
      queued_within _ _ _ _ l.self l.visits l.invariant.query,
      c.loop-visits-test.true,
      c.len.ensures,
    )

pub returns-clause-visits : goal.returns-clause-visits
returns-clause-visits g c =
    let l = c.loop-visits in
    omega (arith, queued_within _ _ _ _ l.self l.visits l.invariant.query, l.invariant.query.taken)

pub returns-then-visits-most-clause-fewer : goal.returns-then-visits-most-clause-fewer
returns-then-visits-most-clause-fewer g c =
    let l = c.loop-visits in
    omega (
      arith,
      c.if-visits-most.true,
      queued_within _ _ _ _ l.self l.visits l.invariant.query,
      c.loop-visits-test.true,
      c.len.ensures,
    )

pub returns-then-visits-most-clause-more : goal.returns-then-visits-most-clause-more
returns-then-visits-most-clause-more g c = λ t said.
    let l = c.loop-visits in
    let query = query_told _ _ _ _ l.self l.visits l.invariant.query t said in
    all_at_or_above t.history c.args.from.0 c.args.to.0 l.self l.visits query (c.args.most + 1)
    (omega (arith, c.if-visits-most.true, c.loop-visits-test.true, c.len.ensures))
