-- A check that goes over its points, one after another.
use Rattle.std.proofs.Common.{◌≡◌, ◌+◌, ◌<◌, ℕ, length, drop, get_or, map, List, [], ◌∷◌, ◌++◌, Option, Some, None, Result, Ok}
use Rattle.std.proofs.Common.{Err, refl, sym, ◌∙◌, ap, subst, append_assoc, append-nil}
use Rattle.std.specs.Result.{result_err}
use Rattle.std.proofs.lemmas.List.{drop_more}
use Rattle.std.specs.List.{FoldsTo}
use Rattle.std.proofs.lemmas.Fn.{FoldsTo-push}
use Rattle.graph_format.specs.Points.{Point, check, call, first_some, first_fault, calls, calls_before_fault, Accepts, PassesAll}
use Rattle.graph_format.specs.Points.{IsRefused, StopsAtCall, RunsOutOfMemory, Cause, refused, by_processor, no_memory, StopsBy}

module _ {X : Type 0} where
  pub first_fault-append : (a b : List (Point X)) → first_fault a ≡ None → first_fault (a ++ b) ≡ first_fault b
  first_fault-append [] b h = refl
  first_fault-append (check None ∷ a) b h = first_fault-append a b h
  first_fault-append (check (Some x) ∷ a) b h = cc
  first_fault-append (call p ∷ a) b h = first_fault-append a b h

  pub calls-append : (a b : List (Point X)) → calls (a ++ b) ≡ calls a ++ calls b
  calls-append [] b = refl
  calls-append (check o ∷ a) b = calls-append a b
  calls-append (call p ∷ a) b = ap (λ ps. p ∷ ps) (calls-append a b)

  pub calls_before_fault-append : (a b : List (Point X)) → first_fault a ≡ None
      → calls_before_fault (a ++ b) ≡ calls a ++ calls_before_fault b
  calls_before_fault-append [] b h = refl
  calls_before_fault-append (check None ∷ a) b h = calls_before_fault-append a b h
  calls_before_fault-append (check (Some x) ∷ a) b h = cc
  calls_before_fault-append (call p ∷ a) b h = ap (λ ps. p ∷ ps) (calls_before_fault-append a b h)

  -- a fault that is there is the first one, whatever points follow
  pub first_fault-stays : (a b : List (Point X)) (x : X) → first_fault a ≡ Some x → first_fault (a ++ b) ≡ Some x
  first_fault-stays [] b x h = cc
  first_fault-stays (check None ∷ a) b x h = first_fault-stays a b x h
  first_fault-stays (check (Some y) ∷ a) b x h = h
  first_fault-stays (call p ∷ a) b x h = first_fault-stays a b x h

  pub calls_before_fault-stays : (a b : List (Point X)) (x : X) → first_fault a ≡ Some x
      → calls_before_fault (a ++ b) ≡ calls_before_fault a
  calls_before_fault-stays [] b x h = cc
  calls_before_fault-stays (check None ∷ a) b x h = calls_before_fault-stays a b x h
  calls_before_fault-stays (check (Some y) ∷ a) b x h = refl
  calls_before_fault-stays (call p ∷ a) b x h = ap (λ ps. p ∷ ps) (calls_before_fault-stays a b x h)

module _ {F E X : Type 0} (step : F → ℕ → Result (Unit {0}) E → F → Type 0) (points : List (Point X)) (f : F) where
  -- The check has come to the points `rest`: none before them has a fault, and the processor accepted the calls.
  pub record Reaches (rest : List (Point X)) (g : F) : Type 0 where
    pub before : List (Point X)
    pub split : points ≡ before ++ rest
    pub no_fault : first_fault before ≡ None
    pub accepted : Accepts step f (calls before) g

  pub reached_start : Reaches points f
  reached_start = record { before = []; split = refl; no_fault = refl; accepted = refl }

  pub reached_past_check : (o : Option X) (rest : List (Point X)) (g : F) → o ≡ None → Reaches (check o ∷ rest) g → Reaches rest g
  reached_past_check o rest g none r = record {
    before = r.before ++ check o ∷ [];
    split = r.split ∙ sym (append_assoc r.before (check o ∷ []) rest);
    no_fault = first_fault-append r.before _ r.no_fault ∙ rw none refl;
    accepted = rw (calls-append, append-nil) r.accepted;
  }

  pub refused_at_check : (o : Option X) (rest : List (Point X)) (g : F) (x : X) → o ≡ Some x → Reaches (check o ∷ rest) g
      → IsRefused step points f g x
  refused_at_check o rest g x some r = record {
    fault = ap first_fault r.split ∙ first_fault-append r.before _ r.no_fault ∙ rw some refl;
    accepted = rw (r.split, calls_before_fault-append r.before (check o ∷ rest) r.no_fault, some, append-nil) r.accepted;
  }

  pub reached_past_call : (p : ℕ) (rest : List (Point X)) (g h : F) → step g p (Ok tt) h → Reaches (call p ∷ rest) g
      → Reaches rest h
  reached_past_call p rest g h called r = record {
    before = r.before ++ call p ∷ [];
    split = r.split ∙ sym (append_assoc r.before (call p ∷ []) rest);
    no_fault = first_fault-append r.before _ r.no_fault;
    accepted = rw calls-append (FoldsTo-push _ f (calls r.before) g p h r.accepted called);
  }

  pub stopped_at_call : (p : ℕ) (e : E) (rest : List (Point X)) (g h : F) → step g p (Err e) h → Reaches (call p ∷ rest) g
      → StopsAtCall step points f h p e
  stopped_at_call p e rest g h called r =
      record {
        before = r.before;
        after = rest;
        split = r.split;
        no_fault = r.no_fault;
        then = g;
        accepted = r.accepted;
        answered = called;
      }

  pub ran_out : (rest : List (Point X)) (g : F) → Reaches rest g → RunsOutOfMemory step points f g
  ran_out rest g r = record { before = r.before; after = rest; split = r.split; no_fault = r.no_fault; accepted = r.accepted }

  pub passed : (g : F) → Reaches [] g → PassesAll step points f g
  passed g r = let whole : points ≡ r.before = r.split ∙ append-nil r.before in record {
    no_fault = ap first_fault whole ∙ r.no_fault;
    accepted = rw whole r.accepted;
  }

-- what was run over two lists in turn was run over both
pub FoldsTo-append : {P A : Type 0} (R : P → A → P → Type 0) (p q r : P) (xs ys : List A) → FoldsTo R p xs q → FoldsTo R q ys r
    → FoldsTo R p (xs ++ ys) r
FoldsTo-append R p q r [] ys h k = subst (λ s. FoldsTo R s ys r) (sym h) k
FoldsTo-append R p q r (x ∷ xs) ys h k = (h.0, h.1, FoldsTo-append R h.0 q r xs ys h.2 k)

-- A part of the points that was checked by itself.
module _ {F E X : Type 0} (step : F → ℕ → Result (Unit {0}) E → F → Type 0) (points : List (Point X)) (f : F)
    (part rest : List (Point X)) (g h : F) (reached : Reaches step points f (part ++ rest) g) where
  before_part : points ≡ (reached.before ++ part) ++ rest
  before_part = reached.split ∙ sym (append_assoc reached.before part rest)

  pub reached_past_part : PassesAll step part g h → Reaches step points f rest h
  reached_past_part passes = record {
    before = reached.before ++ part;
    split = before_part;
    no_fault = first_fault-append reached.before part reached.no_fault ∙ passes.no_fault;
    accepted = rw calls-append (FoldsTo-append _ f g h (calls reached.before) (calls part) reached.accepted passes.accepted);
  }

  refused_in_part : (x : X) → IsRefused step part g h x → IsRefused step points f h x
  refused_in_part x r = record {
    fault = ap first_fault reached.split ∙ first_fault-append reached.before _ reached.no_fault
        ∙ first_fault-stays part rest x r.fault;
    accepted =
        rw (
          reached.split,
          calls_before_fault-append reached.before (part ++ rest) reached.no_fault,
          calls_before_fault-stays part rest x r.fault,
        )
        (FoldsTo-append _ f g h (calls reached.before) (calls_before_fault part) reached.accepted r.accepted);
  }

  stopped_in_part : (p : ℕ) (e : E) → StopsAtCall step part g h p e → StopsAtCall step points f h p e
  stopped_in_part p e r = record {
    before = reached.before ++ r.before;
    after = r.after ++ rest;
    split = reached.split ∙ ap (λ a. reached.before ++ (a ++ rest)) r.split ∙ simp append_assoc;
    no_fault = first_fault-append reached.before r.before reached.no_fault ∙ r.no_fault;
    then = r.then;
    accepted = rw calls-append (FoldsTo-append _ f g r.then (calls reached.before) (calls r.before) reached.accepted r.accepted);
    answered = r.answered;
  }

  ran_out_in_part : RunsOutOfMemory step part g h → RunsOutOfMemory step points f h
  ran_out_in_part r = record {
    before = reached.before ++ r.before;
    after = r.after ++ rest;
    split = reached.split ∙ ap (λ a. reached.before ++ (a ++ rest)) r.split ∙ simp append_assoc;
    no_fault = first_fault-append reached.before r.before reached.no_fault ∙ r.no_fault;
    accepted = rw calls-append (FoldsTo-append _ f g h (calls reached.before) (calls r.before) reached.accepted r.accepted);
  }

  -- Where the check of the part stops, the whole check stops.
  pub stops_in_part : (s : Cause X E) → StopsBy step part g h s → StopsBy step points f h s
  stops_in_part (refused x) r = refused_in_part x r
  stops_in_part (by_processor p e) r = stopped_in_part p e r
  stops_in_part no_memory r = ran_out_in_part r

-- of a list of results, the first error from place i on
pub first_some-drop : {T E : Type 0} (items : List (Result T E)) (i : ℕ) (d : Result T E) → i < length items
    → first_some (map result_err (drop i items))
    ≡ first_some (result_err (get_or items i d) ∷ map result_err (drop (i + 1) items))
first_some-drop items i d inside = ap (λ xs. first_some (map result_err xs)) (drop_more items i d inside)
