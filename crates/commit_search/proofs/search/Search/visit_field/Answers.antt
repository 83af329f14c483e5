use Rattle.std.proofs.Common.{ap, subst, arith}
use Rattle.graph_walks.specs.History.{generation_at}
use Rattle.commit_search.specs.Queue.{IsQueued}
use Rattle.commit_search.specs.Search.{queued_by}
use Rattle.commit_search.proofs.SearchLemmas.{goes_on_refl, are_read_extends}
use Rattle.commit_search.proofs.search.Search.visit_field.Goals as goal

pub returns-in-None-clause-goes_on : goal.returns-in-None-clause-goes_on
returns-in-None-clause-goes_on g c = goes_on_refl c.args.self.now c.args.place

pub returns-in-None-clause-named : goal.returns-in-None-clause-named
returns-in-None-clause-named g c = λ t q said names high.
    absurd (rw c.in-None.is at names)

pub enqueue-requires-clause-commit : goal.enqueue-requires-clause-commit
enqueue-requires-clause-commit g c =
    rw c.in-GraphPosition.is at c.requires.field.within

pub enqueue-requires-clause-parent : goal.enqueue-requires-clause-parent
enqueue-requires-clause-parent g c = λ t said.
    rw c.in-GraphPosition.is at (c.requires.field.told t said)

pub returns-in_ok-enqueue-in-GraphPosition-clause-read : goal.returns-in_ok-enqueue-in-GraphPosition-clause-read
returns-in_ok-enqueue-in-GraphPosition-clause-read g c =
    are_read_extends _ c.args.self.now c.enqueue.new.self c.args.place c.in_ok-enqueue-in-GraphPosition.ensures.goes_on
    c.enqueue.ensures.words
    (λ t said. c.requires.read t (c.enqueue.ensures.kept t said))

pub returns-in_ok-enqueue-in-GraphPosition-clause-named : goal.returns-in_ok-enqueue-in-GraphPosition-clause-named
returns-in_ok-enqueue-in-GraphPosition-clause-named g c = λ t q said names high.
    let same = rw c.in-GraphPosition.is at names in
    subst (IsQueued (queued_by c.enqueue.new.self)) same
    (c.in_ok-enqueue-in-GraphPosition.ensures.queued t said (omega (arith, high, ap (generation_at t.history) same)))

pub visit_list-requires-clause-listed : goal.visit_list-requires-clause-listed
visit_list-requires-clause-listed g c =
    rw c.in-ExtraEdgeIndex.is at c.requires.field.within

pub visit_list-requires-clause-told : goal.visit_list-requires-clause-told
visit_list-requires-clause-told g c = λ t said.
    rw c.in-ExtraEdgeIndex.is at (c.requires.field.told t said)

pub returns-in_ok-visit_list-in-ExtraEdgeIndex-clause-named : goal.returns-in_ok-visit_list-in-ExtraEdgeIndex-clause-named
returns-in_ok-visit_list-in-ExtraEdgeIndex-clause-named g c = λ t q said names high.
    c.in_ok-visit_list-in-ExtraEdgeIndex.ensures.named t q said
    (rw c.in-ExtraEdgeIndex.is at names) high
