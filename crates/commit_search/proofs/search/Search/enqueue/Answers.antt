use Rattle.std.proofs.Common.{subst}
use Rattle.commit_search.specs.Queue.{IsQueued}
use Rattle.commit_search.specs.Search.{queued_by}
use Rattle.commit_search.specs.SearchState.{SearchState}
use Rattle.commit_search.proofs.SearchLemmas.{goes_on_refl, searching_kept, enqueued_searches, enqueued_goes_on}
use Rattle.commit_search.proofs.SearchLemmas.{enqueued_is_queued}
use Rattle.commit_search.proofs.search.Search.enqueue.Goals as goal

pub returns-then-is_marked-clause-goes_on : goal.returns-then-is_marked-clause-goes_on
returns-then-is_marked-clause-goes_on g c = goes_on_refl c.args.self.now c.args.child

pub returns-then-is_marked-clause-queued : goal.returns-then-is_marked-clause-queued
returns-then-is_marked-clause-queued g c = λ t said high.
    subst (λ (s : SearchState). IsQueued (queued_by s) c.args.commit.0) c.self.view_is
    (c.is_marked.ensures.0 c.if-is_marked.true)

pub returns-clause-search : goal.returns-clause-search
returns-clause-search g c =
    enqueued_searches _ _ _ _ _ _ _
    (searching_kept _ _ _ c.generation_number.ensures.kept c.args.self.now c.requires.search) c.requires.child
    c.requires.commit (λ t said. c.requires.parent t (c.generation_number.ensures.kept t said))
    c.in_ok-number.ensures.number c.in_ok-enqueue_known.ensures.enqueued

pub returns-clause-goes_on : goal.returns-clause-goes_on
returns-clause-goes_on g c =
    enqueued_goes_on _ _ _ _ _ _ _
    (searching_kept _ _ _ c.generation_number.ensures.kept c.args.self.now c.requires.search) c.requires.child
    c.requires.commit (λ t said. c.requires.parent t (c.generation_number.ensures.kept t said))
    c.in_ok-number.ensures.number c.in_ok-enqueue_known.ensures.enqueued

pub returns-clause-queued : goal.returns-clause-queued
returns-clause-queued g c =
    enqueued_is_queued _ _ _ _ _ _ _
    (searching_kept _ _ _ c.generation_number.ensures.kept c.args.self.now c.requires.search) c.requires.child
    c.requires.commit (λ t said. c.requires.parent t (c.generation_number.ensures.kept t said))
    c.in_ok-number.ensures.number c.in_ok-enqueue_known.ensures.enqueued
