-- A search that goes on.
use Rattle.std.proofs.Common.{◌≡◌, ◌≢◌, ℕ, ◌∷◌, ◌++◌, ◌^◌, [], ◌<◌, ◌≤◌, List, length, None}
use Rattle.std.proofs.Common.{refl, sym, ap, ◌∙◌, subst, ⊎_elim, arith}
use Rattle.std.proofs.lemmas.Bool.{cases_eq}
use Rattle.graph_format.specs.declared.parents.ParentEdge.{ParentEdge}
use Rattle.graph_walks.specs.History.{IsParent, generation_at}
use Rattle.commit_search.specs.SearchState.{SearchState}
use Rattle.commit_search.specs.Marks.{Marked, marked_at}
use Rattle.commit_search.specs.Queue.{IsQueue, IsQueueOf, IsQueued, Extends, QueuesParents, commit_in}
use Rattle.commit_search.specs.Search.{queued_by, MayBeOfUse, Leads, AreSoMany, IsSearching, IsEnqueued}
use Rattle.commit_search.specs.Search.{GoesOn, IsListRead, AreRead}
use Rattle.commit_search.specs.Source.{Told, FieldNames, AreFieldsTold, AreFieldsRead, IsFieldRead}
use Rattle.commit_search.proofs.ListLemmas.{read_extends}
use Rattle.commit_search.proofs.QueueLemmas.{one_is_queue, queue_push, queue_weaker, marked_new}
use Rattle.commit_search.proofs.QueueLemmas.{extends_refl, extends_trans, extends_push, commit_extends, queued_extends}

pub goes_on_refl : (s : SearchState) (c : ℕ) → GoesOn s s c
goes_on_refl s c = record { least = refl; extends = extends_refl (queued_by s) c }

pub goes_on_trans : (a b d : SearchState) (c : ℕ) → GoesOn a b c → GoesOn b d c → GoesOn a d c
goes_on_trans a b d c x y = record {
  least = y.least ∙ x.least;
  extends = extends_trans (queued_by a) (queued_by b) (queued_by d) c x.extends y.extends;
}

-- other words are marked
module _ (b d : SearchState) (least : d.least ≡ b.least) (reached : d.reached ≡ b.reached) where
  pub searching_as : (count : ℕ) (says : Told → Type 0) → IsSearching count says b → IsSearching count says d
  searching_as count says search = record {
    few = search.few;
    room = rw reached search.room;
    counted = search.counted;
    queue = rw (least, reached) search.queue;
  }

  pub goes_on_as : (a : SearchState) (c : ℕ) → GoesOn a b c → GoesOn a d c
  goes_on_as a c on = record { least = least ∙ on.least; extends = rw reached on.extends }

-- the search begins at one commit
pub searching_begins : (count from : ℕ) (says : Told → Type 0) (s : SearchState) → count < 2 ^ 32 → count ≤ s.reached.bound
    → AreSoMany count says → queued_by s ≡ record { number = from; mark = 0 } ∷ [] → from < count → MayBeOfUse says s.least from
    → IsSearching count says s
searching_begins count from says s few room counted one within keeps = record {
  few = few;
  room = room;
  counted = counted;
  queue = one_is_queue count (MayBeOfUse says s.least) (Leads says) from (queued_by s) one within keeps;
}

pub nothing_read : (says : Told → Type 0) (s : SearchState) → ((l : ℕ) → marked_at s.words l ≡ []) → AreRead says s
nothing_read says s none t said l = record {
  named = λ w is high. absurd (omega (arith, is.1, ap length (none l)));
  goes_on = λ w pos is internal. absurd (omega (arith, is.1, ap length (none l)));
}

-- the source says less
module _ (count : ℕ) (more less : Told → Type 0) (kept : (t : Told) → less t → more t) (s : SearchState) where
  pub searching_kept : IsSearching count more s → IsSearching count less s
  searching_kept search = record {
    few = search.few;
    room = search.room;
    counted = λ t said. search.counted t (kept t said);
    queue = queue_weaker count (MayBeOfUse more s.least) (MayBeOfUse less s.least) (Leads more) (Leads less) (queued_by s)
        (λ p keeps t said. keeps t (kept t said)) (λ p q leads t said. leads t (kept t said)) search.queue;
  }

  pub read_kept : AreRead more s → AreRead less s
  read_kept read t said = read t (kept t said)

-- the queue, by what the source says
pub queue_told : (count : ℕ) (says : Told → Type 0) (s : SearchState) (t : Told) → says t → IsSearching count says s
    → IsQueue t.history s.least (queued_by s)
queue_told count says s t said search = record {
  within = λ i lt. omega (arith, search.counted t said, search.queue.within i lt);
  kept = λ i lt. search.queue.kept i lt t said;
  once = search.queue.once;
  parents = λ i pos lt. search.queue.parents i pos lt t said;
  earlier = search.queue.earlier;
}

-- a parent of the commit at a place is put at the end of the queue, or need not be
module _ (count : ℕ) (says : Told → Type 0) (a b : SearchState) (p c number : ℕ) (search : IsSearching count says a)
    (child : c < length (queued_by a)) (within : p < count) (leads : Leads says (commit_in (queued_by a) c) p)
    (is : (t : Told) → says t → number ≡ generation_at t.history p) (enqueued : IsEnqueued a b p c number) where
  abbrev IsSame : Type 0
  IsSame = (queued_by b ≡ queued_by a) × (a.least ≤ number → IsQueued (queued_by a) p)

  abbrev IsNew : Type 0
  IsNew = (queued_by b ≡ queued_by a ++ record { number = p; mark = c } ∷ []) × (a.least ≤ number) × (¬ IsQueued (queued_by a) p)

  queue_after : IsQueueOf count (MayBeOfUse says a.least) (Leads says) (queued_by b)
  queue_after =
      ⊎_elim
      (λ (same : IsSame).
      subst (λ (xs : List Marked). IsQueueOf count (MayBeOfUse says a.least) (Leads says) xs) (sym same.0) search.queue)
      (λ (new : IsNew).
      subst (λ (xs : List Marked). IsQueueOf count (MayBeOfUse says a.least) (Leads says) xs) (sym new.0)
      (queue_push count (MayBeOfUse says a.least) (Leads says) (queued_by a) (record { number = p; mark = c }) search.queue child
      within leads new.2 (λ t said. omega (arith, is t said, new.1))))
      enqueued.queue

  pub enqueued_searches : IsSearching count says b
  enqueued_searches = record {
    few = search.few;
    room = omega (arith, search.room, enqueued.bound);
    counted = search.counted;
    queue = subst (λ (n : ℕ). IsQueueOf count (MayBeOfUse says n) (Leads says) (queued_by b)) (sym enqueued.least) queue_after;
  }

  pub enqueued_goes_on : GoesOn a b c
  enqueued_goes_on = record {
    least = enqueued.least;
    extends =
        ⊎_elim
        (λ (same : IsSame). subst (λ (xs : List Marked). Extends (queued_by a) xs c) (sym same.0) (extends_refl (queued_by a) c))
        (λ (new : IsNew).
        subst (λ (xs : List Marked). Extends (queued_by a) xs c) (sym new.0)
        (extends_push (queued_by a) (record { number = p; mark = c })))
        enqueued.queue;
  }

  pub enqueued_is_queued : (t : Told) → says t → a.least ≤ generation_at t.history p → IsQueued (queued_by b) p
  enqueued_is_queued t said high =
      ⊎_elim
      (λ (same : IsSame).
      subst (λ (xs : List Marked). IsQueued xs p) (sym same.0) (same.1 (omega (arith, is t said, high))))
      (λ (new : IsNew).
      subst (λ (xs : List Marked). IsQueued xs p) (sym new.0) (marked_new (queued_by a) (record { number = p; mark = c })))
      enqueued.queue

-- where no words were gone over
pub are_read_extends : (says : Told → Type 0) (a b : SearchState) (c : ℕ) → GoesOn a b c → b.words ≡ a.words → AreRead says a
    → AreRead says b
are_read_extends says a b c on words read t said l =
    rw (on.least, words)
    (read_extends t.history a.least (queued_by a) (t.lists l) (marked_at a.words l) (queued_by b) c None
    on.extends (read t said l))

-- the list of one layer, and those of the others
pub are_read_from : (says : Told → Type 0) (s : SearchState) (layer : ℕ)
    → ((t : Told) (l : ℕ) → says t → l ≢ layer → IsListRead t s l None) → ((t : Told) → says t → IsListRead t s layer None)
    → AreRead says s
are_read_from says s layer others here t said l =
    ⊎_elim
    (λ (same : l ≡ layer). subst (λ (k : ℕ). IsListRead t s k None) (sym same) (here t said))
    (λ (apart : l ≡ layer → ⊥). others t l said apart)
    (cases_eq l layer)

-- one parent field of the commit at a place is gone over, and then the other
module _ (lies : ℕ → ℕ → Type 0) (s one : SearchState) (place : ℕ) (fields : ParentEdge × ParentEdge)
    (here : place < length (queued_by s)) (on : GoesOn s one place) where
  pub second_field : (count : ℕ) (listed : ℕ → ℕ → Type 0) (more less : Told → Type 0) → ((t : Told) → less t → more t)
      → AreFieldsRead count listed lies more (commit_in (queued_by s) place) fields
      → IsFieldRead count listed lies less (commit_in (queued_by one) place) fields.1
  second_field count listed more less kept are =
      subst (λ (p : ℕ). IsFieldRead count listed lies less p fields.1)
      (sym (commit_extends (queued_by s) (queued_by one) place place on.extends here))
      (record { within = are.second; told = λ t said. (are.told t (kept t said)).second })

  pub both_queued : (t : Told) (two : SearchState)
      → AreFieldsTold t (lies (commit_in (queued_by s) place)) (commit_in (queued_by s) place) fields
      → GoesOn one two place
      → ((q : ℕ) → FieldNames t.lists (lies (commit_in (queued_by s) place)) fields.0 q → s.least ≤ generation_at t.history q
      → IsQueued (queued_by one) q)
      → ((q : ℕ) → FieldNames t.lists (lies (commit_in (queued_by one) place)) fields.1 q
      → one.least ≤ generation_at t.history q → IsQueued (queued_by two) q)
      → QueuesParents t.history s.least (queued_by two) place
  both_queued t two are goes first second q parent high =
      let both = goes_on_trans s one two place on goes in
      let same = commit_extends (queued_by s) (queued_by two) place place both.extends here in
      let is : IsParent t.history (commit_in (queued_by s) place) q =
      subst (λ (p : ℕ). IsParent t.history p q) same parent in
      ⊎_elim
      (λ (names : FieldNames t.lists (lies (commit_in (queued_by s) place)) fields.0 q).
      queued_extends (queued_by one) (queued_by two) place q goes.extends (first q names high))
      (λ (names : FieldNames t.lists (lies (commit_in (queued_by s) place)) fields.1 q).
      second q
      (subst (λ (p : ℕ). FieldNames t.lists (lies p) fields.1 q)
      (sym (commit_extends (queued_by s) (queued_by one) place place on.extends here)) names)
      (subst (λ (least : ℕ). least ≤ generation_at t.history q) (sym on.least) high))
      (are.all q is)
