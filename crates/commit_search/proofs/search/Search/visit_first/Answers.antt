use Rattle.std.proofs.Common.{ap, subst, arith}
use Rattle.graph_walks.specs.History.{generation_at}
use Rattle.commit_search.specs.Queue.{IsQueued}
use Rattle.commit_search.specs.Search.{queued_by}
use Rattle.commit_search.proofs.SearchLemmas.{are_read_extends, enqueued_searches, enqueued_goes_on, enqueued_is_queued}
use Rattle.commit_search.proofs.search.Search.visit_first.Goals as goal

pub enqueue_known-requires : goal.enqueue_known-requires
enqueue_known-requires g c =
    let within = rw c.in-GraphPosition.is at c.requires.field.within in
    omega (arith, within, c.requires.search.room)

pub returns-in_ok-enqueue_known-in-GraphPosition-clause-search : goal.returns-in_ok-enqueue_known-in-GraphPosition-clause-search
returns-in_ok-enqueue_known-in-GraphPosition-clause-search g c =
    enqueued_searches _ _ _ _ _ _ _ c.requires.search c.requires.place
    (rw c.in-GraphPosition.is at c.requires.field.within)
    (λ t said. rw c.in-GraphPosition.is at (c.requires.field.told t said))
    (rw c.in-GraphPosition.is at c.requires.number)
    c.in_ok-enqueue_known-in-GraphPosition.ensures.enqueued

pub returns-in_ok-enqueue_known-in-GraphPosition-clause-goes_on : goal.returns-in_ok-enqueue_known-in-GraphPosition-clause-goes_on
returns-in_ok-enqueue_known-in-GraphPosition-clause-goes_on g c =
    enqueued_goes_on _ _ _ _ _ _ _ c.requires.search c.requires.place
    (rw c.in-GraphPosition.is at c.requires.field.within)
    (λ t said. rw c.in-GraphPosition.is at (c.requires.field.told t said))
    (rw c.in-GraphPosition.is at c.requires.number)
    c.in_ok-enqueue_known-in-GraphPosition.ensures.enqueued

pub returns-in_ok-enqueue_known-in-GraphPosition-clause-read : goal.returns-in_ok-enqueue_known-in-GraphPosition-clause-read
returns-in_ok-enqueue_known-in-GraphPosition-clause-read g c =
    are_read_extends _ c.args.self.now c.enqueue_known.new.self c.args.place
    (enqueued_goes_on _ _ _ _ _ _ _ c.requires.search c.requires.place
    (rw c.in-GraphPosition.is at c.requires.field.within)
    (λ t said. rw c.in-GraphPosition.is at (c.requires.field.told t said))
    (rw c.in-GraphPosition.is at c.requires.number)
    c.in_ok-enqueue_known-in-GraphPosition.ensures.enqueued)
    c.enqueue_known.ensures.words c.requires.read

pub returns-in_ok-enqueue_known-in-GraphPosition-clause-named : goal.returns-in_ok-enqueue_known-in-GraphPosition-clause-named
returns-in_ok-enqueue_known-in-GraphPosition-clause-named g c = λ t q said names high.
    let same = rw c.in-GraphPosition.is at names in
    subst (IsQueued (queued_by c.enqueue_known.new.self)) same
    (enqueued_is_queued _ _ _ _ _ _ _ c.requires.search c.requires.place
    (rw c.in-GraphPosition.is at c.requires.field.within)
    (λ t said. rw c.in-GraphPosition.is at (c.requires.field.told t said))
    (rw c.in-GraphPosition.is at c.requires.number)
    c.in_ok-enqueue_known-in-GraphPosition.ensures.enqueued t said (omega (arith, high, ap (generation_at t.history) same)))
