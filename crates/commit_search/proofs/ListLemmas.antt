-- The words of an extra edge list, as a search goes over them.
use Rattle.std.proofs.Common.{◌≡◌, ◌⊎◌, ℕ, suc, zero, ◌+◌, ◌<◌, ◌≤◌, List, [], ◌∷◌, ◌++◌, length, get_or}
use Rattle.std.proofs.Common.{Contains}
use Rattle.std.proofs.Common.{Option, Some, None, refl, sym, ap, ◌∙◌, subst, inl, inr, ⊎_elim, arith}
use Rattle.std.proofs.lemmas.Bool.{cases_lt}
use Rattle.graph_walks.specs.History.{Node, generation_at}
use Rattle.graph_format.specs.Parents.{extra_edge_of}
use Rattle.graph_format.specs.declared.Position.{Position}
use Rattle.graph_format.specs.declared.parents.ExtraEdge.{ExtraEdge}
use Rattle.graph_format.specs.declared.parents.ExtraEdge.TheVariants as extra
use Rattle.commit_search.specs.Marks.{Marked, IsMarked}
use Rattle.commit_search.specs.EdgeLists.{named_by, named_from}
use Rattle.commit_search.specs.Queue.{IsQueued, Extends}
use Rattle.commit_search.specs.Search.{IsRead}
use Rattle.commit_search.proofs.EdgeListLemmas.{contained_cases, named_past, named_internal, named_last}
use Rattle.commit_search.proofs.QueueLemmas.{marked_new, marked_old, marked_cases, queued_extends}

module _ (h : List Node) (least : ℕ) (queued : List Marked) (list : List ℕ) (marked : List Marked) where
  pub read_extends : (after : List Marked) (c : ℕ) (next : Option ℕ) → Extends queued after c
      → IsRead h least queued list marked next → IsRead h least after list marked next
  read_extends after c next extends read = record {
    named = λ w is high. queued_extends queued after c _ extends (read.named w is high);
    goes_on = read.goes_on;
  }

  pub read_from : (next : ℕ) → IsRead h least queued list marked None → IsRead h least queued list marked (Some next)
  read_from next read = record {
    named = read.named;
    goes_on = λ w pos is internal.
        ⊎_elim
        (λ (more : IsMarked marked (w + 1)). inl more)
        (λ (none : None ≡ Some (w + 1)). absurd (cc))
        (read.goes_on w pos is internal);
  }

  -- where the word that is next was gone over before
  pub read_stops : (next : ℕ) → IsRead h least queued list marked (Some next) → IsMarked marked next
      → IsRead h least queued list marked None
  read_stops next read at = record {
    named = read.named;
    goes_on = λ w pos is internal.
        ⊎_elim
        (λ (more : IsMarked marked (w + 1)). inl more)
        (λ (here : Some next ≡ Some (w + 1)).
        let same : next ≡ w + 1 = cc in inl (subst (IsMarked marked) same at))
        (read.goes_on w pos is internal);
  }

  -- where it is gone over now, and is marked then
  module _ (next : ℕ) (pos : Position) (read : IsRead h least queued list marked (Some next))
      (names : named_by (extra_edge_of (get_or list next 0)) ≡ pos.0)
      (queues : least ≤ generation_at h pos.0 → IsQueued queued pos.0) where
    after : List Marked
    after = marked ++ record { number = next; mark = 0 } ∷ []

    word_named : (w : ℕ) → IsMarked after w → least ≤ generation_at h (named_by (extra_edge_of (get_or list w 0)))
        → IsQueued queued (named_by (extra_edge_of (get_or list w 0)))
    unfolding after
    word_named w is high =
        ⊎_elim
        (λ (old : IsMarked marked w). read.named w old high)
        (λ (new : next ≡ w).
        let same : named_by (extra_edge_of (get_or list w 0)) ≡ pos.0 =
        ap (λ (n : ℕ). named_by (extra_edge_of (get_or list n 0))) (sym new) ∙ names in
        subst (IsQueued queued) (sym same) (queues (subst (λ (n : ℕ). least ≤ generation_at h n) same high)))
        (marked_cases marked (record { number = next; mark = 0 }) w is)

    old_goes_on : (w : ℕ) (other : Position) → IsMarked marked w → extra_edge_of (get_or list w 0) ≡ extra.Internal other
        → IsMarked after (w + 1)
    unfolding after
    old_goes_on w other old internal =
        ⊎_elim
        (λ (more : IsMarked marked (w + 1)). marked_old marked (record { number = next; mark = 0 }) (w + 1) more)
        (λ (here : Some next ≡ Some (w + 1)).
        let same : next ≡ w + 1 = cc in
        subst (IsMarked (marked ++ record { number = next; mark = 0 } ∷ [])) same
        (marked_new marked (record { number = next; mark = 0 })))
        (read.goes_on w other old internal)

    pub read_internal : IsRead h least queued list (marked ++ record { number = next; mark = 0 } ∷ []) (Some (next + 1))
    unfolding after
    read_internal = record {
      named = word_named;
      goes_on = λ w other is internal.
          ⊎_elim
          (λ (old : IsMarked marked w). inl (old_goes_on w other old internal))
          (λ (new : next ≡ w). inr (ap (λ (n : ℕ). Some (n + 1)) new))
          (marked_cases marked (record { number = next; mark = 0 }) w is);
    }

    pub read_last : (last : Position) → extra_edge_of (get_or list next 0) ≡ extra.Last last
        → IsRead h least queued list (marked ++ record { number = next; mark = 0 } ∷ []) None
    unfolding after
    read_last at last = record {
      named = word_named;
      goes_on = λ w other is internal.
          ⊎_elim
          (λ (old : IsMarked marked w). inl (old_goes_on w other old internal))
          (λ (new : next ≡ w).
          let here : extra_edge_of (get_or list next 0) ≡ extra.Internal other =
          ap (λ (n : ℕ). extra_edge_of (get_or list n 0)) new ∙ internal in
          absurd (cc))
          (marked_cases marked (record { number = next; mark = 0 }) w is);
    }

  module _ (read : IsRead h least queued list marked None) where
    -- one word, where what the later ones name is queued
    word_named_within : (w : ℕ) → w < length list → IsMarked marked w → (q : ℕ) → Contains (named_from list w) q
        → least ≤ generation_at h q → (IsMarked marked (w + 1) → Contains (named_from list (w + 1)) q → IsQueued queued q)
        → (e : ExtraEdge) → extra_edge_of (get_or list w 0) ≡ e → IsQueued queued q
    word_named_within w lt is q contained high later e edge = by_cases e edge where
      here : (pos : Position) → named_by (extra_edge_of (get_or list w 0)) ≡ pos.0 → pos.0 ≡ q → IsQueued queued q
      here pos names same =
          let at = names ∙ same in
          subst (IsQueued queued) at (read.named w is (subst (λ (x : ℕ). least ≤ generation_at h x) (sym at) high))

      by_cases : (e : ExtraEdge) → extra_edge_of (get_or list w 0) ≡ e → IsQueued queued q
      by_cases (extra.Internal pos) internal =
          ⊎_elim
          (λ (same : pos.0 ≡ q). here pos (ap named_by internal) same)
          (λ (rest : Contains (named_from list (w + 1)) q).
          ⊎_elim
          (λ (more : IsMarked marked (w + 1)). later more rest)
          (λ (none : None ≡ Some (w + 1)). absurd (cc))
          (read.goes_on w pos is internal))
          (contained_cases pos.0 q (named_from list (w + 1))
          (subst (λ (xs : List ℕ). Contains xs q) (named_internal list w pos lt internal) contained))
      by_cases (extra.Last pos) last =
          ⊎_elim
          (λ (same : pos.0 ≡ q). here pos (ap named_by last) same)
          (λ (none : Contains [] q). absurd (omega (arith, none.1)))
          (contained_cases pos.0 q [] (subst (λ (xs : List ℕ). Contains xs q) (named_last list w pos lt last) contained))

    named_within : (n w : ℕ) → length list ≤ w + n → IsMarked marked w → (q : ℕ) → Contains (named_from list w) q
        → least ≤ generation_at h q → IsQueued queued q
    named_within zero w le is q contained high =
        let empty = subst (λ (xs : List ℕ). Contains xs q) (named_past list w (omega arith)) contained in
        absurd (omega (arith, empty.1))
    named_within (suc n) w le is q contained high =
        ⊎_elim
        (λ (lt : w < length list).
        word_named_within w lt is q contained high
        (λ more rest. named_within n (w + 1) (omega arith) more q rest high) (extra_edge_of (get_or list w 0)) refl)
        (λ (past : length list ≤ w).
        let empty = subst (λ (xs : List ℕ). Contains xs q) (named_past list w past) contained in
        absurd (omega (arith, empty.1)))
        (cases_lt w (length list))

    -- all that is named from a word that was gone over is queued where it is of use
    pub named_are_queued : (w : ℕ) → IsMarked marked w → (q : ℕ) → Contains (named_from list w) q → least ≤ generation_at h q
        → IsQueued queued q
    named_are_queued w is q contained high = named_within (length list) w (omega arith) is q contained high

-- a word that was marked, or is now
pub word_marked : (was now : List Marked) (next : ℕ) → now ≡ was ++ record { number = next; mark = 0 } ∷ [] → (w : ℕ)
    → IsMarked was w ⊎ (w ≡ next) → IsMarked now w
word_marked was now next marks w begun =
    subst (λ (xs : List Marked). IsMarked xs w) (sym marks)
    (⊎_elim
    (λ (old : IsMarked was w). marked_old was (record { number = next; mark = 0 }) w old)
    (λ (here : w ≡ next). subst (IsMarked (was ++ record { number = next; mark = 0 } ∷ [])) (sym here)
    (marked_new was (record { number = next; mark = 0 })))
    begun)

-- One word is gone over: the parent that it names is queued, before the word is marked.
pub record GoesOver (h : List Node) (least : ℕ) (a b : List Marked) (list : List ℕ) (was now : List Marked) (next : ℕ)
    (word : ExtraEdge) : Type 0 where
  pub child : ℕ
  pub extends : Extends a b child
  pub read : IsRead h least a list was (Some next)
  pub marks : now ≡ was ++ record { number = next; mark = 0 } ∷ []
  pub says : extra_edge_of (get_or list next 0) ≡ word
  pub parent : Position
  pub names : parent.0 ≡ named_by word
  pub queues : least ≤ generation_at h parent.0 → IsQueued b parent.0

module _ {h : List Node} {least : ℕ} {a b : List Marked} {list : List ℕ} {was now : List Marked} {next : ℕ} {word : ExtraEdge}
    (over : GoesOver h least a b list was now next word) where
  open over use {child, extends, read, marks, says, parent, names, queues}

  unmarked : IsRead h least b list was (Some next)
  unmarked = read_extends h least a list was b child (Some next) extends read

  named : named_by (extra_edge_of (get_or list next 0)) ≡ parent.0
  named = ap named_by says ∙ sym names

  pub goes_over_internal : IsRead h least b list now (Some (next + 1))
  goes_over_internal =
      subst (λ (xs : List Marked). IsRead h least b list xs (Some (next + 1))) (sym marks)
      (read_internal h least b list was next parent unmarked named queues)

  pub goes_over_last : (last : Position) → word ≡ extra.Last last → IsRead h least b list now None
  goes_over_last last is =
      subst (λ (xs : List Marked). IsRead h least b list xs None) (sym marks)
      (read_last h least b list was next parent unmarked named queues last (says ∙ is))
