use Rattle.std.proofs.Common.{◌≡◌, ◌≢◌, ℕ, List, ◌∷◌, ◌++◌, [], None, refl, sym, ap, ◌∙◌}
use Rattle.std.proofs.Common.{subst, inl, inr, ⊎_elim, arith}
use Rattle.std.proofs.lemmas.Bool.{false≢true}
use Rattle.commit_search.specs.Marks.{Marking, IsMarked, marked_at, bound_at}
use Rattle.commit_search.specs.Queue.{commit_in}
use Rattle.commit_search.specs.Search.{queued_by, IsSearching, IsListRead, GoesOn}
use Rattle.commit_search.specs.Source.{Told}
use Rattle.commit_search.proofs.ListLemmas.{read_from, read_extends, read_stops}
use Rattle.commit_search.proofs.EdgeListLemmas.{word_is_parent, list_goes_on}
use Rattle.commit_search.proofs.ListLemmas.{GoesOver, goes_over_internal, goes_over_last, word_marked, named_are_queued}
use Rattle.commit_search.proofs.QueueLemmas.{commit_extends}
use Rattle.commit_search.proofs.SearchLemmas.{goes_on_refl, goes_on_trans, goes_on_as, searching_as}
use Rattle.commit_search.proofs.SearchLemmas.{searching_kept, are_read_from}
use Rattle.commit_search.proofs.search.Search.visit_list.Goals as goal
use Rattle.commit_search.proofs.search.Search.visit_list.Given.{Over}
use Rattle.commit_search.proofs.search.Search.visit_list.Goals.{In_ok-mark_word}

pub layer_of-layer-requires : goal.layer_of-layer-requires
layer_of-layer-requires g c =
    omega (arith, c.requires.search.queue.within c.args.place c.requires.place, c.commit_at-pos.ensures)

pub words_of-count-requires-clause-listed : goal.words_of-count-requires-clause-listed
words_of-count-requires-clause-listed g c = rw c.commit_at-pos.ensures c.requires.listed

pub loop-pos-init : goal.loop-pos-init
loop-pos-init g c =
    let s = c.args.self.now in
    let r = c.requires in
    let grown = c.grow_words.ensures in
    record {
      known = refl;
      kept = λ t said. said;
      search = searching_as s c.grow_words.new.self grown.least grown.reached _ _ r.search;
      goes_on = goes_on_as s c.grow_words.new.self grown.least grown.reached s c.args.place (goes_on_refl s c.args.place);
      room = c.in_ok-grow_words.ensures.room;
      within = c.words_of-count.ensures.there;
      listed = r.listed;
      told = λ t said. r.told t said _ (rw (← c.commit_at-pos.ensures) c.layer_of-layer.ensures);
      others = λ t i said apart. rw (grown.least, grown.reached, grown.marked i) (r.read t said i);
      read = λ t said. rw (grown.least, grown.reached, grown.marked c.layer_of-layer.result)
          (read_from t.history s.least (queued_by s) (t.lists c.layer_of-layer.result)
          (marked_at s.words c.layer_of-layer.result) c.args.index (r.read t said c.layer_of-layer.result));
      begun = inr refl;
    }

pub listed_parent-requires-clause-lies : goal.listed_parent-requires-clause-lies
listed_parent-requires-clause-lies g c = rw c.loop-pos.invariant.known c.layer_of-layer.ensures

pub listed_parent-requires-clause-listed : goal.listed_parent-requires-clause-listed
listed_parent-requires-clause-listed g c =
    rw (c.loop-pos.invariant.known, c.commit_at-pos.ensures) c.loop-pos.invariant.listed

pub enqueue-requires-clause-search : goal.enqueue-requires-clause-search
enqueue-requires-clause-search g c =
    rw (c.listed_parent.ensures.known, c.loop-pos.invariant.known)
    (searching_kept _ _ _ c.listed_parent.ensures.kept c.loop-pos.self c.loop-pos.invariant.search)

pub enqueue-requires-clause-child : goal.enqueue-requires-clause-child
enqueue-requires-clause-child g c = omega (arith, c.requires.place, c.loop-pos.invariant.goes_on.extends.longer)

pub enqueue-requires-clause-commit : goal.enqueue-requires-clause-commit
enqueue-requires-clause-commit g c =
    rw (c.parent_of.ensures, c.listed_parent.ensures.known) c.in_ok-word.ensures.word.commit

pub enqueue-requires-clause-parent : goal.enqueue-requires-clause-parent
enqueue-requires-clause-parent g c = λ t said.
    let s = c.args.self.now in
    let l = c.loop-pos in
    let inv = l.invariant in
    let was = c.listed_parent.ensures.kept t said in
    let read = c.in_ok-word.ensures.word in
    rw (
      c.parent_of.ensures,
      commit_extends (queued_by s) (queued_by l.self) c.args.place c.args.place inv.goes_on.extends c.requires.place,
    )
    (word_is_parent t (commit_in (queued_by s) c.args.place) c.layer_of-layer.result l.next _ (read.told t said)
    (inv.told t was) (omega (arith, inv.search.counted t was, rw inv.known at read.commit)))

pub mark_word-requires-clause-bound : goal.mark_word-requires-clause-bound
mark_word-requires-clause-bound g c =
    let inv = c.loop-pos.invariant in
    omega (
      arith,
      inv.within,
      inv.room,
      ap (λ (w : List Marking). bound_at w c.layer_of-layer.result) c.enqueue.ensures.words,
    )

pub mark_word-requires-clause-clear : goal.mark_word-requires-clause-clear
mark_word-requires-clause-clear g c =
    rw c.enqueue.ensures.words (λ is. false≢true (sym c.loop-pos-test.true ∙ c.is_word_marked.ensures.1 is))

-- Once the word that is next was gone over:
module _ (g : Over) (c : In_ok-mark_word g) where
  -- what the source says now, it said before
  before : (t : Told) → g.S.CommitSource.says c.enqueue.new.commits t → g.S.CommitSource.says c.loop-pos.commits t
  before t said = c.listed_parent.ensures.kept t (c.enqueue.ensures.kept t said)

  over : (t : Told) → g.S.CommitSource.says c.enqueue.new.commits t
      → GoesOver t.history c.loop-pos.self.least (queued_by c.loop-pos.self)
      (queued_by c.enqueue.new.self) (t.lists c.layer_of-layer.result)
      (marked_at c.loop-pos.self.words c.layer_of-layer.result)
      (marked_at c.mark_word.new.self.words c.layer_of-layer.result)
      c.loop-pos.next c.in_ok-word.word
  unfolding before
  over t said =
      let l = c.loop-pos in
      let e = c.in_ok-enqueue.ensures in
      record {
        child = c.args.place;
        extends = e.goes_on.extends;
        read = l.invariant.read t (c.listed_parent.ensures.kept t (c.enqueue.ensures.kept t said));
        marks = c.in_ok-mark_word.ensures.marked
            ∙ ap (λ (w : List Marking).
            marked_at w c.layer_of-layer.result ++ record { number = l.next; mark = 0 } ∷ [])
            c.enqueue.ensures.words;
        says = sym (c.in_ok-word.ensures.word.told t (c.enqueue.ensures.kept t said)).says;
        parent = c.parent_of.result;
        names = c.parent_of.ensures;
        queues = e.queued t said;
      }

  -- the word of the index is marked
  begun_marked : IsMarked (marked_at c.mark_word.new.self.words c.layer_of-layer.result) c.args.index
  begun_marked =
      let l = c.loop-pos in
      word_marked (marked_at l.self.words c.layer_of-layer.result)
      (marked_at c.mark_word.new.self.words c.layer_of-layer.result) l.next
      (c.in_ok-mark_word.ensures.marked
      ∙ ap (λ (w : List Marking). marked_at w c.layer_of-layer.result ++ record { number = l.next; mark = 0 } ∷ [])
      c.enqueue.ensures.words)
      c.args.index l.invariant.begun

  -- the lists of the other layers
  others_read : (t : Told) (i : ℕ) → g.S.CommitSource.says c.enqueue.new.commits t → i ≢ c.layer_of-layer.result
      → IsListRead t c.mark_word.new.self i None
  others_read t i said apart =
      rw (
        c.mark_word.ensures.least,
        c.mark_word.ensures.reached,
        c.in_ok-enqueue.ensures.goes_on.least,
        c.in_ok-mark_word.ensures.others i apart,
        c.enqueue.ensures.words,
      )
      (read_extends _ _ _ _ _ (queued_by c.enqueue.new.self) c.args.place None c.in_ok-enqueue.ensures.goes_on.extends
      (c.loop-pos.invariant.others t i (c.listed_parent.ensures.kept t (c.enqueue.ensures.kept t said)) apart))

  search_after : IsSearching (g.S.CommitSource.count (g.S.CommitSource.known c.args.commits.now))
      (g.S.CommitSource.says c.enqueue.new.commits) c.mark_word.new.self
  search_after =
      let inv = c.loop-pos.invariant in
      let search = rw (c.listed_parent.ensures.known, inv.known) at c.in_ok-enqueue.ensures.search in
      searching_as c.enqueue.new.self c.mark_word.new.self c.mark_word.ensures.least c.mark_word.ensures.reached _ _ search

  on_after : GoesOn c.args.self.now c.mark_word.new.self c.args.place
  on_after =
      goes_on_as c.enqueue.new.self c.mark_word.new.self c.mark_word.ensures.least c.mark_word.ensures.reached c.args.self.now
      c.args.place
      (goes_on_trans c.args.self.now c.loop-pos.self c.enqueue.new.self c.args.place c.loop-pos.invariant.goes_on
      c.in_ok-enqueue.ensures.goes_on)

pub loop-pos-preserved : goal.loop-pos-preserved
loop-pos-preserved g c =
    let here = goal.at.loop-pos-preserved g c in
    let s = c.args.self.now in
    let l = c.loop-pos in
    let inv = l.invariant in
    let e = c.in_ok-enqueue.ensures in
    let next = rw (c.in-Internal.is, inv.known, c.commit_at-pos.ensures, ← c.words_of-count.ensures.words) at
    c.in_ok-word.ensures.word.next in
    record {
      known = c.enqueue.ensures.known ∙ c.listed_parent.ensures.known ∙ inv.known;
      kept = λ t said. inv.kept t (c.listed_parent.ensures.kept t (c.enqueue.ensures.kept t said));
      search = search_after g here.In_ok-mark_word;
      goes_on = on_after g here.In_ok-mark_word;
      room = omega (
        arith,
        inv.room,
        c.mark_word.ensures.bounds c.layer_of-layer.result,
        ap (λ (w : List Marking). bound_at w c.layer_of-layer.result) c.enqueue.ensures.words,
      );
      within = next.0;
      listed = next.1;
      told = λ t said.
          let read = c.in_ok-word.ensures.word.told t (c.enqueue.ensures.kept t said) in
          list_goes_on t (commit_in (queued_by s) c.args.place) c.layer_of-layer.result l.next c.in_ok-word.word read
          (inv.told t (c.listed_parent.ensures.kept t (c.enqueue.ensures.kept t said))) c.in-Internal.field-0
          c.in-Internal.is;
      others = others_read g here.In_ok-mark_word;
      read = λ t said. rw (c.mark_word.ensures.least, c.mark_word.ensures.reached, e.goes_on.least)
          (goes_over_internal (over g here.In_ok-mark_word t said));
      begun = inl (begun_marked g here.In_ok-mark_word);
    }

pub returns-in-Last-clause-search : goal.returns-in-Last-clause-search
returns-in-Last-clause-search g c = search_after g (goal.at.returns-in-Last-clause-search g c).In_ok-mark_word

pub returns-in-Last-clause-read : goal.returns-in-Last-clause-read
returns-in-Last-clause-read g c =
    let here = goal.at.returns-in-Last-clause-read g c in
    are_read_from _ c.mark_word.new.self c.layer_of-layer.result
    (others_read g here.In_ok-mark_word)
    (λ t said. rw (c.mark_word.ensures.least, c.mark_word.ensures.reached, c.in_ok-enqueue.ensures.goes_on.least)
    (goes_over_last (over g here.In_ok-mark_word t said) c.in-Last.field-0 c.in-Last.is))

pub returns-in-Last-clause-goes_on : goal.returns-in-Last-clause-goes_on
returns-in-Last-clause-goes_on g c = on_after g (goal.at.returns-in-Last-clause-goes_on g c).In_ok-mark_word

pub returns-in-Last-clause-named : goal.returns-in-Last-clause-named
returns-in-Last-clause-named g c = λ t q said contained high.
    let one = over g (goal.at.returns-in-Last-clause-named g c).In_ok-mark_word t said in
    let inv = c.loop-pos.invariant in
    rw c.mark_word.ensures.reached
    (named_are_queued _ _ _ _ _ (goes_over_last one c.in-Last.field-0 c.in-Last.is) c.args.index
    (begun_marked g (goal.at.returns-in-Last-clause-named g c).In_ok-mark_word) q
    (contained c.layer_of-layer.result (rw (← c.commit_at-pos.ensures) c.layer_of-layer.ensures))
    (omega (arith, high, inv.goes_on.least)))

pub returns-clause-search : goal.returns-clause-search
returns-clause-search g c = c.loop-pos.invariant.search

pub returns-clause-read : goal.returns-clause-read
returns-clause-read g c =
    let l = c.loop-pos in
    are_read_from _ l.self c.layer_of-layer.result l.invariant.others
    (λ t said.
    read_stops t.history l.self.least (queued_by l.self) (t.lists c.layer_of-layer.result)
    (marked_at l.self.words c.layer_of-layer.result) l.next (l.invariant.read t said)
    (c.is_word_marked.ensures.0 c.loop-pos-test.false))

pub returns-clause-named : goal.returns-clause-named
returns-clause-named g c = λ t q said contained high.
    let l = c.loop-pos in
    let inv = l.invariant in
    let list = t.lists c.layer_of-layer.result in
    let marked = marked_at l.self.words c.layer_of-layer.result in
    let at = c.is_word_marked.ensures.0 c.loop-pos-test.false in
    named_are_queued t.history l.self.least (queued_by l.self) list marked
    (read_stops t.history l.self.least (queued_by l.self) list marked l.next (inv.read t said) at) c.args.index
    (⊎_elim
    (λ (old : IsMarked marked c.args.index). old)
    (λ (here : c.args.index ≡ l.next). subst (IsMarked marked) (sym here) at)
    inv.begun) q (contained c.layer_of-layer.result (rw (← c.commit_at-pos.ensures) c.layer_of-layer.ensures))
    (omega (arith, high, inv.goes_on.least))
