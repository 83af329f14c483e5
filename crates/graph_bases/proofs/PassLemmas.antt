-- What a commit that was taken from the queue passes on to its parents.
use Rattle.std.proofs.Common.{◌≡◌, ◌≢◌, ◌⊎◌, ℕ, zero, suc, ◌+◌, ◌<◌, ◌≤◌, List, [], length, get_or, true, false, Contains}
use Rattle.std.proofs.Common.{refl, sym, ap, ◌∙◌, subst, inl, inr, ⊎_elim, arith}
use Rattle.std.proofs.lemmas.Bool.{cases_eq, cases_lt, false≢true}
use Rattle.graph_walks.specs.History.{Node, IsParent}
use Rattle.graph_format.specs.Parents.{extra_edge_of}
use Rattle.graph_format.specs.declared.Position.{Position}
use Rattle.graph_format.specs.declared.parents.ExtraEdge.{ExtraEdge}
use Rattle.graph_format.specs.declared.parents.ExtraEdge.TheVariants as extra
use Rattle.commit_search.specs.EdgeLists.{named_by, named_from}
use Rattle.commit_search.specs.Source.{Told}
use Rattle.graph_bases.specs.declared.painting.Painting.{Painting}
use Rattle.graph_bases.specs.declared.trails.Trails.{Trails}
use Rattle.graph_bases.specs.declared.paint.Coat.{Coat}
use Rattle.graph_bases.specs.declared.paint.Paint.{Paint}
use Rattle.graph_bases.specs.declared.paint.Paint.TheVariants.{Bare}
use Rattle.graph_bases.specs.Paint.{covers, joined, passed, paint_at, is_queued, Grows}
use Rattle.graph_bases.specs.Painting.{IsSpread, IsSpreadBut, IsPassed, PassesPaint, PassesOn}
use Rattle.commit_search.specs.Ranks.{Ranking}
use Rattle.graph_bases.specs.Trails.{trail_at, trail_in}
use Rattle.commit_search.proofs.EdgeListLemmas.{contained_cases, named_internal, named_last, named_past}
use Rattle.graph_bases.proofs.PaintLemmas.{grows_trans, grows_left, grows_right, grows_joined, covers_joined}

-- All parents of a commit have heard what is known of it.
pub spread_ends : (h : List Node) (a : ℕ) (bs : List ℕ) (commit : ℕ) (x : Paint) (coats : List Coat)
    → IsSpreadBut h a bs coats commit → (is_queued coats commit ≡ false → paint_at coats commit ≡ x)
    → ((q : ℕ) → IsParent h commit q → Grows (passed x) (paint_at coats q)) → IsSpread h a bs coats
spread_ends h a bs commit x coats but same heard = record {
  first = but.first;
  others = but.others;
  passes = λ p q settled parent.
      ⊎_elim
      (λ (e : p ≡ commit).
      let is = ap (paint_at coats) e ∙ same (ap (is_queued coats) (sym e) ∙ settled) in
      subst (λ (y : Paint). Grows (passed y) (paint_at coats q)) (sym is)
      (heard q (subst (λ (y : ℕ). IsParent h y q) e parent)))
      (λ (other : p ≢ commit). but.passes p q other settled parent)
      (cases_eq p commit);
}

bare_grows : (x : Paint) → Grows Bare x
bare_grows x = record {
  first = λ e. absurd (false≢true e);
  others = λ e. absurd (false≢true e);
  stale = λ e. absurd (false≢true e);
}

-- The words of an extra edge list.
module _ (coats : List Coat) (list : List ℕ) (trail : List Paint) where
  pub passed_none : ((w : ℕ) → trail_at trail w ≡ Bare) → IsPassed coats list trail
  passed_none none = record {
    named = λ w. subst (λ (x : Paint). Grows x (paint_at coats (named_by (extra_edge_of (get_or list w 0))))) (sym (none w))
        (bare_grows _);
    goes_on = λ w pos is. subst (λ (x : Paint). Grows x (trail_at trail (w + 1))) (sym (none w)) (bare_grows _);
  }

  pub passed_kept : (after : List Coat) → ((q : ℕ) → Grows (paint_at coats q) (paint_at after q)) → IsPassed coats list trail
      → IsPassed after list trail
  passed_kept after grows are = record {
    named = λ w. grows_trans _ _ _ (are.named w) (grows _);
    goes_on = are.goes_on;
  }

  pub passed_same : (after : List Paint) → ((w : ℕ) → trail_at after w ≡ trail_at trail w) → IsPassed coats list trail
      → IsPassed coats list after
  passed_same after same are = record {
    named = λ w. subst (λ (x : Paint). Grows x (paint_at coats (named_by (extra_edge_of (get_or list w 0))))) (sym (same w))
        (are.named w);
    goes_on = λ w pos is.
        subst (Grows (trail_at after w)) (sym (same (w + 1)))
        (subst (λ (x : Paint). Grows x (trail_at trail (w + 1))) (sym (same w)) (are.goes_on w pos is));
  }

  -- all that is named from a word on has heard its paint
  pub named_heard : IsPassed coats list trail → (x : Paint) (w : ℕ) → Grows x (trail_at trail w) → (q : ℕ)
      → Contains (named_from list w) q → Grows x (paint_at coats q)
  named_heard are x w heard q contained = within (length list) w (omega arith) heard contained where
    one : (w : ℕ) → w < length list → Grows x (trail_at trail w) → Contains (named_from list w) q
        → (Grows x (trail_at trail (w + 1)) → Contains (named_from list (w + 1)) q → Grows x (paint_at coats q))
        → (e : ExtraEdge) → extra_edge_of (get_or list w 0) ≡ e → Grows x (paint_at coats q)
    one w lt heard contained later (extra.Internal pos) is =
        ⊎_elim
        (λ (same : pos.0 ≡ q).
        subst (λ (y : ℕ). Grows x (paint_at coats y)) (ap named_by is ∙ same) (grows_trans _ _ _ heard (are.named w)))
        (λ (rest : Contains (named_from list (w + 1)) q). later (grows_trans _ _ _ heard (are.goes_on w pos is)) rest)
        (contained_cases pos.0 q (named_from list (w + 1))
        (subst (λ (xs : List ℕ). Contains xs q) (named_internal list w pos lt is) contained))
    one w lt heard contained later (extra.Last pos) is =
        ⊎_elim
        (λ (same : pos.0 ≡ q).
        subst (λ (y : ℕ). Grows x (paint_at coats y)) (ap named_by is ∙ same) (grows_trans _ _ _ heard (are.named w)))
        (λ (none : Contains [] q). absurd (omega (arith, none.1)))
        (contained_cases pos.0 q [] (subst (λ (xs : List ℕ). Contains xs q) (named_last list w pos lt is) contained))

    within : (n w : ℕ) → length list ≤ w + n → Grows x (trail_at trail w) → Contains (named_from list w) q
        → Grows x (paint_at coats q)
    within zero w le heard contained =
        let empty = subst (λ (xs : List ℕ). Contains xs q) (named_past list w (omega arith)) contained in
        absurd (omega (arith, empty.1))
    within (suc n) w le heard contained =
        ⊎_elim
        (λ (lt : w < length list).
        one w lt heard contained (λ more rest. within n (w + 1) (omega arith) more rest) (extra_edge_of (get_or list w 0)) refl)
        (λ (past : length list ≤ w).
        let empty = subst (λ (xs : List ℕ). Contains xs q) (named_past list w past) contained in
        absurd (omega (arith, empty.1)))
        (cases_lt w (length list))

-- The same while the word that is next is about to be passed with paint.
pub record IsPassedTo (coats : List Coat) (list : List ℕ) (trail : List Paint) (next : ℕ) (x : Paint) : Type 0 where
  pub named : (w : ℕ) → Grows (trail_at trail w) (paint_at coats (named_by (extra_edge_of (get_or list w 0))))
  pub goes_on : (w : ℕ) (pos : Position) → extra_edge_of (get_or list w 0) ≡ extra.Internal pos
      → Grows (trail_at trail w) (trail_at trail (w + 1))
      ⊎ ((w + 1 ≡ next) × Grows (trail_at trail w) (joined (trail_at trail (w + 1)) x))

pub passed_begins : {coats : List Coat} {list : List ℕ} {trail : List Paint} {next : ℕ} {x : Paint} → IsPassed coats list trail
    → IsPassedTo coats list trail next x
passed_begins are = record { named = are.named; goes_on = λ w pos is. inl (are.goes_on w pos is) }

pub passed_stops : {coats : List Coat} {list : List ℕ} {trail : List Paint} {next : ℕ} {x : Paint}
    → IsPassedTo coats list trail next x → covers (trail_at trail next) x ≡ true → IsPassed coats list trail
passed_stops {trail = trail} {next = next} {x = x} are covered = record {
  named = are.named;
  goes_on = λ w pos is.
      ⊎_elim
      (λ (on : Grows (trail_at trail w) (trail_at trail (w + 1))). on)
      (λ at.
      subst (Grows (trail_at trail w))
      (covers_joined (trail_at trail (w + 1)) x (ap (λ (v : ℕ). covers (trail_at trail v) x) at.0 ∙ covered)) at.1)
      (are.goes_on w pos is);
}

-- That word is passed, once the commit that it names has heard the paint.
pub record PassesNext (coats more : List Coat) (list : List ℕ) (trail after : List Paint) (next : ℕ) (x : Paint)
    (word : ExtraEdge) : Type 0 where
  pub are : IsPassedTo coats list trail next x
  pub grows : (q : ℕ) → Grows (paint_at coats q) (paint_at more q)
  pub says : extra_edge_of (get_or list next 0) ≡ word
  pub hears : Grows x (paint_at more (named_by word))
  pub here : trail_at after next ≡ joined (trail_at trail next) x
  pub there : (w : ℕ) → w ≢ next → trail_at after w ≡ trail_at trail w

module _ {coats more : List Coat} {list : List ℕ} {trail after : List Paint} {next : ℕ} {x : Paint} {word : ExtraEdge}
    (passes : PassesNext coats more list trail after next x word) where
  open passes use {are, grows, says, hears, here, there}

  heard : Grows x (paint_at more (named_by (extra_edge_of (get_or list next 0))))
  heard = subst (λ (e : ExtraEdge). Grows x (paint_at more (named_by e))) (sym says) hears

  at_next : (w : ℕ) → w ≡ next → trail_at after w ≡ joined (trail_at trail w) x
  at_next w e = ap (trail_at after) e ∙ here ∙ ap (λ (v : ℕ). joined (trail_at trail v) x) (sym e)

  named_after : (w : ℕ) → Grows (trail_at after w) (paint_at more (named_by (extra_edge_of (get_or list w 0))))
  named_after w =
      ⊎_elim
      (λ (e : w ≡ next).
      subst (λ (y : Paint). Grows y (paint_at more (named_by (extra_edge_of (get_or list w 0))))) (sym (at_next w e))
      (grows_joined (trail_at trail w) x _ (grows_trans _ _ _ (are.named w) (grows _))
      (subst (λ (v : ℕ). Grows x (paint_at more (named_by (extra_edge_of (get_or list v 0))))) (sym e) heard)))
      (λ (apart : w ≢ next).
      subst (λ (y : Paint). Grows y (paint_at more (named_by (extra_edge_of (get_or list w 0))))) (sym (there w apart))
      (grows_trans _ _ _ (are.named w) (grows _)))
      (cases_eq w next)

  -- the words that are not next
  goes_on_after : (w : ℕ) (pos : Position) → w ≢ next → extra_edge_of (get_or list w 0) ≡ extra.Internal pos
      → Grows (trail_at after w) (trail_at after (w + 1))
  goes_on_after w pos apart is =
      subst (λ (y : Paint). Grows y (trail_at after (w + 1))) (sym (there w apart))
      (⊎_elim
      (λ (e : w + 1 ≡ next).
      subst (Grows (trail_at trail w)) (sym (at_next (w + 1) e))
      (⊎_elim
      (λ (on : Grows (trail_at trail w) (trail_at trail (w + 1))).
      grows_trans _ _ _ on (grows_left (trail_at trail (w + 1)) x))
      (λ at. at.1)
      (are.goes_on w pos is)))
      (λ (other : w + 1 ≢ next).
      subst (Grows (trail_at trail w)) (sym (there (w + 1) other))
      (⊎_elim
      (λ (on : Grows (trail_at trail w) (trail_at trail (w + 1))). on)
      (λ at. absurd (other at.0))
      (are.goes_on w pos is)))
      (cases_eq (w + 1) next))

  pub passed_next : IsPassedTo more list after (next + 1) x
  passed_next = record {
    named = named_after;
    goes_on = λ w pos is.
        ⊎_elim
        (λ (e : w ≡ next).
        let other : w + 1 ≢ next = λ f. omega (arith, e, f) in
        let on : Grows (trail_at trail w) (trail_at trail (w + 1)) =
        ⊎_elim
        (λ (was : Grows (trail_at trail w) (trail_at trail (w + 1))). was)
        (λ at. absurd (other at.0))
        (are.goes_on w pos is) in
        inr (
          ap (λ (v : ℕ). v + 1) e,
          subst (λ (y : Paint). Grows y (joined (trail_at after (w + 1)) x)) (sym (at_next w e))
              (subst (λ (y : Paint). Grows (joined (trail_at trail w) x) (joined y x)) (sym (there (w + 1) other))
              (grows_joined (trail_at trail w) x _ (grows_trans _ _ _ on (grows_left (trail_at trail (w + 1)) x))
              (grows_right (trail_at trail (w + 1)) x))),
        ))
        (λ (apart : w ≢ next). inl (goes_on_after w pos apart is))
        (cases_eq w next);
  }

  pub passed_last : (last : Position) → word ≡ extra.Last last → IsPassed more list after
  passed_last last ends = record {
    named = named_after;
    goes_on = λ w pos is.
        ⊎_elim
        (λ (e : w ≡ next).
        let both : extra_edge_of (get_or list next 0) ≡ extra.Internal pos =
        ap (λ (v : ℕ). extra_edge_of (get_or list v 0)) (sym e) ∙ is in
        let last_one = says ∙ ends in
        absurd (cc))
        (λ (apart : w ≢ next). goes_on_after w pos apart is)
        (cases_eq w next);
  }

-- What was passed with paint up to the word that is next, was passed with it once that was.
module _ (trail after : List Paint) (next : ℕ) (x : Paint) (here : trail_at after next ≡ joined (trail_at trail next) x)
    (there : (w : ℕ) → w ≢ next → trail_at after w ≡ trail_at trail w) where
  pub begun_after : (index : ℕ) → Grows x (trail_at trail index) ⊎ (index ≡ next) → Grows x (trail_at after index)
  begun_after index begun =
      ⊎_elim
      (λ (e : index ≡ next).
      subst (Grows x) (sym (ap (trail_at after) e ∙ here)) (grows_right (trail_at trail next) x))
      (λ (apart : index ≢ next).
      subst (Grows x) (sym (there index apart))
      (⊎_elim
      (λ (was : Grows x (trail_at trail index)). was)
      (λ (e : index ≡ next). absurd (apart e))
      begun))
      (cases_eq index next)

-- Words were passed, and nothing else has changed.
pub passes_with : {T : Type 0} (count : ℕ) (says : Told → Type 0) (k : Told → Ranking) (s : Painting T) (t : Trails) (p : ℕ)
    (x : Paint) → PassesPaint count says k s p x
    → PassesPaint count says k (record s { coats = record s.coats { trails = t } }) p x
passes_with count says k s t p x r = record {
  painting = record {
    few = r.painting.few;
    coats_len = r.painting.coats_len;
    counted = record {
      fresh = r.painting.counted.fresh;
      ahead = r.painting.counted.ahead;
      behind = r.painting.counted.behind;
    };
    waiting = r.painting.waiting;
    candidates = r.painting.candidates;
    visits = r.painting.visits;
  };
  within = r.within;
  same = r.same;
  told = λ u said.
      (let was = r.told u said in
      record {
        painting = record {
          paint = was.painting.paint;
          ranked = was.painting.ranked;
          visiting = was.painting.visiting;
        };
        so = was.so;
        spread = was.spread;
        in_order = λ right.
            (let order = was.in_order right in
            record { uncapped = order.uncapped; painted = order.painted; own = order.own; level = order.level });
      });
}

-- More of the source was read.
pub passes_kept : {T : Type 0} (count : ℕ) (says more : Told → Type 0) (k : Told → Ranking) (s : Painting T) (p : ℕ) (x : Paint)
    → ((t : Told) → more t → says t) → PassesPaint count says k s p x → PassesPaint count more k s p x
passes_kept count says more k s p x kept r = record {
  painting = r.painting;
  within = r.within;
  same = r.same;
  told = λ t said. r.told t (kept t said);
}

-- the lists of all layers, where that of one was read
pub are_passed_from : (coats : List Coat) (lists : ℕ → List ℕ) (trails : List (List Paint)) (layer : ℕ)
    → ((i : ℕ) → i ≢ layer → IsPassed coats (lists i) (trail_in trails i))
    → IsPassed coats (lists layer) (trail_in trails layer) → (i : ℕ)
    → IsPassed coats (lists i) (trail_in trails i)
are_passed_from coats lists trails layer others here i =
    ⊎_elim
    (λ (same : i ≡ layer). subst (λ (k : ℕ). IsPassed coats (lists k) (trail_in trails k)) (sym same) here)
    (λ (apart : i ≢ layer). others i apart)
    (cases_eq i layer)

pub passes_on_trans : {T : Type 0} (a b d : Painting T) → PassesOn a b → PassesOn b d → PassesOn a d
passes_on_trans a b d x y = record {
  grows = λ q. grows_trans _ _ _ (x.grows q) (y.grows q);
  work = (let first = x.work in let second = y.work in omega arith);
}
