-- Searches of a right graph in memory that a limit may stop, and checks that it may.
use Rattle.std.proofs.Common.{◌≡◌, ◌≢◌, ◌⊎◌, ◌↔◌, ℕ, zero, suc, ◌+◌, ◌^◌, ◌-◌, ◌<◌, ◌≤◌, min, List, [], ◌∷◌, ◌++◌, length}
use Rattle.std.proofs.Common.{sym, inl, inr, ap, ◌∙◌, subst, ⊎_elim, arith, length-append, Result, Ok, Err, Bool, false}
use Rattle.std.proofs.Common.{IsTrue}
use Rattle.std.specs.Prelude.{⊤}
use Rattle.std.specs.List.{range_with_len}
use Rattle.std.proofs.lemmas.List.FromFn.{length-range_with_len}
use Rattle.graph_walks.specs.Walks.{CountWalks, Reaches}
use Rattle.graph_format.specs.Layer.{Layer}
use Rattle.graph_format.specs.Points.{Accepts, Agrees, PassesAll, StopsAtCall, call, calls}
use Rattle.graph_format.specs.StoredHistory.{history_of}
use Rattle.graph_format.proofs.PointLemmas.{calls-append}
use Rattle.gix_commitgraph.specs.Distinct.{IsDeservedWith}
use Rattle.gix_commitgraph.specs.Graph.{total}
use Rattle.gix_commitgraph.specs.Sound.{Sound}
use Rattle.gix_commitgraph.specs.Verify.{points_with, cause_of}
use Rattle.gix_commitgraph.specs.declared.verify.Outcome.{Outcome}
use Rattle.gix_commitgraph.specs.declared.verify.VerifyError.{VerifyError}
use Rattle.gix_commitgraph.specs.declared.verify.VerifyError.TheVariants as error
use Rattle.gix_commitgraph.specs.declared.verify.VerifyOptions.{VerifyOptions}
use Rattle.commit_search.specs.Cardinality.{AtMost}
use Rattle.commit_search.specs.WalkAnswer.{IsAbove, LeadsWithin, MayLead}
use Rattle.commit_search.specs.Source.{Told, told_of}
use Rattle.graph_history.specs.Limits.{Bound, EndsEarly, IfSource, IsSource, IsToldWithin, MayRefuseWithin}
use Rattle.graph_history.specs.Limits.{StopsAfter, IsStoppedAt}
use Rattle.graph_history.specs.declared.limit.LimitError.{LimitError}
use Rattle.graph_history.specs.declared.limit.LimitError.TheVariants as limited
use Rattle.graph_history.specs.declared.limit.Stopped.{Stopped}
use Rattle.graph_history.proofs.ReloadLemmas.{counted}

module _ (layers after : List Layer) (same : after ≡ layers) (from to : ℕ) where
  -- no read of a graph in memory fails, so an error is that of an allocation
  pub walk_error : (G : Type 0)
      → ((from ≢ to) × ⊥) ⊎ (G × ((t : Told) → t ≡ told_of after → (from ≡ to) ⊎ MayLead t.history from to))
      → (from ≡ to) ⊎ MayLead (history_of layers) from to
  walk_error G told =
      ⊎_elim
      (λ (failed : (from ≢ to) × ⊥). absurd failed.1)
      (λ (refused : G × ((t : Told) → t ≡ told_of after → (from ≡ to) ⊎ MayLead t.history from to)).
      refused.1 (told_of layers) (ap told_of (sym same)))
      told

  pub lead_error : (G : Type 0)
      → (from ≢ to) × (⊥ ⊎ (G × ((t : Told) → t ≡ told_of after → MayLead t.history from to)))
      → (from ≢ to) × MayLead (history_of layers) from to
  lead_error G told = (
    told.0,
    ⊎_elim
        (λ (failed : ⊥). absurd failed)
        (λ (refused : G × ((t : Told) → t ≡ told_of after → MayLead t.history from to)).
        refused.1 (told_of layers) (ap told_of (sym same)))
        told.1,
  )

  -- or it was stopped
  module _ {E : Type 0} (Stops : Type 0) (stops : Stops) (Gives : E → Type 0) where
    pub walk_ended : (e : LimitError E)
        → ((from ≢ to) × IfSource (λ x. ⊥) e)
        ⊎ (IsSource Gives e × ((t : Told) → t ≡ told_of after → (from ≡ to) ⊎ MayLead t.history from to))
        → EndsEarly Stops ((from ≡ to) ⊎ MayLead (history_of layers) from to) e
    walk_ended limited.Stopped told = stops
    walk_ended (limited.Source e) told = walk_error (Gives e) told

    pub lead_ended : (e : LimitError E)
        → (from ≢ to) × (IfSource (λ x. ⊥) e
        ⊎ (IsSource Gives e × ((t : Told) → t ≡ told_of after → MayLead t.history from to)))
        → EndsEarly Stops ((from ≢ to) × MayLead (history_of layers) from to) e
    lead_ended limited.Stopped told = stops
    lead_ended (limited.Source e) told = lead_error (Gives e) told

  -- what was found after so many visits
  module _ (right : Sound layers) (found : Bool) (visits : ℕ)
      (yes : (t : Told) → t ≡ told_of after → IsTrue found → LeadsWithin t.history from to visits) where
    pub found_there : ((t : Told) → t ≡ told_of after → CountWalks t.history → Reaches t.history from to → IsTrue found)
        → IsTrue found ↔ Reaches (history_of layers) from to
    found_there not_there = (
      (λ is. (let led = yes (told_of layers) (ap told_of (sym same)) is in (led.0, led.1))),
      not_there (told_of layers) (ap told_of (sym same)) right.generations,
    )

    pub found_within : ((t : Told) → t ≡ told_of after → CountWalks t.history → found ≡ false
        → AtMost visits (IsAbove t.history from to)) → (n : ℕ) → visits ≤ n → IsToldWithin n (history_of layers) from to found
    found_within above n le = record {
      yes = λ is. (let led = yes (told_of layers) (ap told_of (sym same)) is in (led.0, led.1, omega (arith, le, led.2)));
      no = λ is ps apart all.
          (let most = above (told_of layers) (ap told_of (sym same)) right.generations is ps apart all in
          omega (arith, le, most));
    }

-- what ends a comparison before its end
pub comparison_ended : {E : Type 0} (Stops : Type 0) → Stops → (e : LimitError E) → EndsEarly Stops ⊤ e
comparison_ended Stops stops limited.Stopped = stops
comparison_ended Stops stops (limited.Source e) = tt

-- the number at a place of a range
range_at : (k n : ℕ) (before : List ℕ) (p : ℕ) (after : List ℕ) → range_with_len k n ≡ before ++ p ∷ after
    → (p ≡ k + length before) × (length before < n)
range_at k zero before p after same =
    let none = ap length same in (
      omega (arith, none, length-append before (p ∷ after)),
      omega (arith, none, length-append before (p ∷ after)),
    )
range_at k (suc n) [] p after same = let first : k ≡ p = cc in (omega (arith, first), omega arith)
range_at k (suc n) (x ∷ before) p after same =
    let rest : range_with_len (k + 1) n ≡ before ++ p ∷ after = cc in
    let at = range_at (k + 1) n before p after rest in (omega (arith, at.0), omega (arith, at.1))

-- Without a flag what is stopped has visited as many as may be visited.
stops_full : {bound : Bound} (p : ℕ) → p ≤ bound.visits → bound.flagged ≡ false → StopsAfter bound p → p ≡ bound.visits
stops_full p within unflagged (inl full) = omega (arith, within, full)
stops_full p within unflagged (inr flagged) = cc

-- A check by a processor that counts the commits on which it is called, and answers that it is stopped.
module _ {F : Type 0} (step : F → ℕ → Result (Unit {0}) Stopped → F → Type 0) (value : F → ℕ) (bound_at : F → Bound)
    (more : (f : F) (p : ℕ) (g : F) → step f p (Ok tt) g
    → (value g ≡ min (value f + 1) (2 ^ 32 - 1)) × (bound_at g ≡ bound_at f))
    (bound : Bound) (options : VerifyOptions) (layers : List Layer)
    (all : calls (points_with {E = Stopped} options layers) ≡ range_with_len 0 (total layers)) (few : total layers < 2 ^ 32)
    (f g : F) (none : value f ≡ 0) (same : bound_at f ≡ bound) where
  -- It accepts where fewer were counted than may be visited.
  module _ (on : (h : F) (p : ℕ) (k : F) → step h p (Ok tt) k → value h < (bound_at h).visits) where
    accepts_within : (xs : List ℕ) (h k : F) → Accepts step h xs k → value h + length xs < 2 ^ 32
        → value h ≤ (bound_at h).visits → value h + length xs ≤ (bound_at h).visits
    accepts_within [] h k accepted fits first = omega (arith, first)
    accepts_within (x ∷ xs) h k accepted fits first =
        let then : F = accepted.0 in
        let one = more h x then accepted.1 in
        let next : value then ≡ value h + 1 = omega (arith, one.0, fits) in
        let before : value then ≤ (bound_at h).visits = omega (arith, next, on h x then accepted.1) in
        let rest =
        accepts_within xs then k accepted.2 (omega (arith, next, fits))
        (subst (λ (b : Bound). value then ≤ b.visits) (sym one.1) before) in
        omega (arith, next, subst (λ (b : Bound). value then + length xs ≤ b.visits) one.1 rest)

    pub accepted_within : PassesAll step (points_with {E = Stopped} options layers) f g → total layers ≤ bound.visits
    accepted_within passes =
        let size : length (calls (points_with {E = Stopped} options layers)) ≡ total layers =
        ap length all ∙ length-range_with_len 0 (total layers) in
        let visited =
        accepts_within (calls (points_with {E = Stopped} options layers)) f g passes.accepted
        (omega (arith, none, size, few)) (omega (arith, none)) in
        subst (λ (b : Bound). total layers ≤ b.visits) same (omega (arith, none, size, visited))

    -- It stops where as many were counted as may be visited, or where there is a flag.
    module _ (stops : (h : F) (p : ℕ) (e : Stopped) (k : F) → step h p (Err e) k → StopsAfter (bound_at h) (value h)) where
      stopped_at : (p : ℕ) (e : Stopped) → StopsAtCall step (points_with {E = Stopped} options layers) f g p e
          → IsStoppedAt bound options layers p
      stopped_at p e at =
          let earlier : List ℕ = calls at.before in
          let split : range_with_len 0 (total layers) ≡ earlier ++ p ∷ calls at.after =
          sym all ∙ ap calls at.split ∙ calls-append at.before (call p ∷ at.after) in
          let place = range_at 0 (total layers) earlier p (calls at.after) split in
          let counts = counted (λ h q k. step h q (Ok tt) k) value bound_at more earlier f at.then at.accepted
          (omega (arith, none, place.1, few)) in
          let visits : value at.then ≡ p = omega (arith, counts.0, none, place.0) in
          let visited =
          accepts_within earlier f at.then at.accepted (omega (arith, none, place.1, few)) (omega (arith, none)) in
          let within : p ≤ bound.visits =
          subst (λ (b : Bound). p ≤ b.visits) same (omega (arith, none, place.0, visited)) in
          let after : StopsAfter bound p =
          subst (λ (n : ℕ). StopsAfter bound n) visits
          (subst (λ (b : Bound). StopsAfter b (value at.then)) (counts.1 ∙ same) (stops at.then p e g at.answered)) in
          record {
            there = omega (arith, place.0, place.1);
            within = within;
            full = λ unflagged. stops_full p within unflagged after;
            right_so_far = record { before = at.before; after = at.after; split = at.split; no_fault = at.no_fault };
          }

      pub refused_within : (x : VerifyError Stopped)
          → Agrees step (points_with {E = Stopped} options layers) f g {T = Outcome} cause_of (Err x)
          → IsDeservedWith options layers x → MayRefuseWithin bound options layers x
      refused_within (error.Processor pos e) agrees deserved = stopped_at pos.0 e agrees
      refused_within error.OutOfMemory agrees deserved = tt
      refused_within error.TooManyFiles agrees deserved = (agrees.fault, deserved)
      refused_within (error.BaseCount i) agrees deserved = (agrees.fault, deserved)
      refused_within (error.BaseId i j) agrees deserved = (agrees.fault, deserved)
      refused_within (error.Layer i fault) agrees deserved = (agrees.fault, deserved)
      refused_within (error.Commit pos fault) agrees deserved = (agrees.fault, deserved)
      refused_within (error.Parent pos fault) agrees deserved = (agrees.fault, deserved)
      refused_within (error.ParentOutOfRange pos parent) agrees deserved = (agrees.fault, deserved)
      refused_within (error.Generation pos expected) agrees deserved = (agrees.fault, deserved)
      refused_within (error.DuplicateId pos earlier) agrees deserved = (agrees.fault, deserved)
