-- Refusals of one step as refusals of the whole.
use Rattle.std.proofs.Common.{◌≡◌, ℕ, ◌-◌, List, length, map, take, slice_get}
use Rattle.std.proofs.Common.{Contains, Option, Some, None, sym, ap, ◌∙◌, subst, inl, inr, ⊎_elim, arith}
use Rattle.std.specs.Prelude.{IfSome}
use Rattle.std.specs.Io.KnownBytes.{Consumes}
use Rattle.gix_hash_core.specs.declared.kind.Kind.{Kind}
use Rattle.commit_objects.specs.Object.{object_id_of}
use Rattle.object_stream.specs.NextEntry.{IsEntryError}
use Rattle.object_stream.specs.declared.error.EntryError.{EntryError}
use Rattle.object_stream.specs.declared.error.EntryError.TheVariants.{Missing}
use Rattle.object_stream.specs.declared.object_type.ObjectType.{ObjectType}
use Rattle.object_stream.specs.declared.object_type.ObjectType.TheVariants.{Commit}
use Rattle.object_requests.specs.Asked.{Asked}
use Rattle.object_requests.specs.TakenEntry.{MayRefuseOldest}
use Rattle.object_requests.specs.declared.error.RequestError.{RequestError}
use Rattle.object_requests.specs.declared.error.RequestError.TheVariants as request
use Rattle.newer_commits.specs.CommitsOnTop.{CommitsOnTop, end_of_top}
use Rattle.commit_requests.specs.Requested.{StopsAt, commit_entries}
use Rattle.commit_requests.specs.Completion.{IsCompleteRefusal}
use Rattle.commit_requests.specs.Gathering.{IsAskRefusal, IsGatherRefusal, IsTakeRefusal, IsToldAs, IsWantRefusal, complete_error}
use Rattle.commit_requests.specs.Placing.{IsTurnRefusal}
use Rattle.commit_requests.specs.declared.error.CompleteError.{CompleteError}
use Rattle.commit_requests.specs.declared.error.CompleteError.TheVariants as refusal
use Rattle.commit_requests.proofs.ListSteps.{contains_from_get, get_from_contains, get_mapped}

-- a request that is refused
pub request_refused : {E : Type 0} (kind : Kind) (may_fail : E → Type 0) (r : Asked) (known : Option (List ℕ))
    (error : RequestError)
    → r.type ≡ Commit → r.kind ≡ kind → IfSome known (λ bytes. MayRefuseOldest r bytes error)
    → IsTakeRefusal kind may_fail r.asked r.taken known (complete_error {E = E} error)
request_refused kind may_fail r None (request.Entry id error) type same may = tt
request_refused kind may_fail r (Some bytes) (request.Entry id error) type same may = (
  may.1 ∙ ap (λ (x : List ℕ). Some x) (sym may.2.0),
  subst (λ (x : List ℕ). IsEntryError kind Commit (Some x) bytes error) (sym may.2.0)
      (subst (λ (k : Kind). IsEntryError k Commit (Some may.0) bytes error) same
      (subst (λ (t : ObjectType). IsEntryError r.kind t (Some may.0) bytes error) type may.2.1)),
)
request_refused kind may_fail r known request.Device type same may = tt
request_refused kind may_fail r known request.OutOfMemory type same may = tt
request_refused kind may_fail r known request.WriteFailed type same may = tt

module _ {E : Type 0} (kind : Kind) (may_fail : E → Type 0) (top : CommitsOnTop) (asked : List (List ℕ)) (known : Option (List ℕ))
  where
    pub want_refused : (error : CompleteError E) → IsWantRefusal may_fail error
        → IsGatherRefusal kind may_fail top asked known error
    want_refused (refusal.Unknown number) r = r
    want_refused (refusal.Entry id error) r = absurd r
    want_refused (refusal.Unreadable id) r = absurd r
    want_refused (refusal.Cycle id) r = r
    want_refused refusal.Full r = absurd r
    want_refused refusal.OutOfMemory r = tt
    want_refused refusal.Device r = tt
    want_refused refusal.WriteFailed r = tt
    want_refused (refusal.Lost id) r = r
    want_refused (refusal.Source error) r = r

    pub want_taken : (number : ℕ) (error : CompleteError E) → IsWantRefusal may_fail error
        → IsTakeRefusal kind may_fail asked number known error
    want_taken number (refusal.Unknown n) r = r
    want_taken number (refusal.Entry id error) r = absurd r
    want_taken number (refusal.Unreadable id) r = absurd r
    want_taken number (refusal.Cycle id) r = r
    want_taken number refusal.Full r = r
    want_taken number refusal.OutOfMemory r = tt
    want_taken number refusal.Device r = tt
    want_taken number refusal.WriteFailed r = tt
    want_taken number (refusal.Lost id) r = r
    want_taken number (refusal.Source error) r = r

    pub ask_refused : (most : ℕ) (error : CompleteError E) → most ≡ 0x70000000 - end_of_top top → IsAskRefusal most asked error
        → IsGatherRefusal kind may_fail top asked known error
    ask_refused most (refusal.Unknown number) is r = r
    ask_refused most (refusal.Entry id error) is r = absurd r
    ask_refused most (refusal.Unreadable id) is r = absurd r
    ask_refused most (refusal.Cycle id) is r = r
    ask_refused most refusal.Full is r = omega (arith, is, r)
    ask_refused most refusal.OutOfMemory is r = tt
    ask_refused most refusal.Device is r = tt
    ask_refused most refusal.WriteFailed is r = tt
    ask_refused most (refusal.Lost id) is r = r
    ask_refused most (refusal.Source error) is r = absurd r

    module _ (read : List (List ℕ)) (here : Option (List ℕ)) (own : map (object_id_of kind) read ≡ take (length read) asked) where
      stops : (begin : Option (List ℕ)) (at : Option (List ℕ)) (id : List ℕ) (error : EntryError)
          → Consumes begin at (commit_entries kind read)
          → IfSome at (λ bytes. (slice_get asked (length read) ≡ Some id) × IsEntryError kind Commit (Some id) bytes error)
          → IfSome begin (λ bytes. StopsAt kind asked id bytes error)
      stops None at id error eaten reason = tt
      stops (Some xs) None id error eaten reason = absurd eaten
      stops (Some xs) (Some ys) id error eaten reason = record {
        read = read;
        rest = ys;
        whole = eaten;
        own = own;
        next = reason.0;
        reason = reason.1;
      }

      pub take_refused : (error : CompleteError E) → Consumes known here (commit_entries kind read)
          → IsTakeRefusal kind may_fail asked (length read) here error → IsGatherRefusal kind may_fail top asked known error
      take_refused (refusal.Unknown number) eaten r = r
      take_refused (refusal.Entry id error) eaten r =
          stops known here id error eaten r
      take_refused (refusal.Unreadable id) eaten r =
          (r.1.0, contains_from_get asked (length read) id r.0, r.1.1, r.1.2)
      take_refused (refusal.Cycle id) eaten r = r
      take_refused refusal.Full eaten r = absurd r
      take_refused refusal.OutOfMemory eaten r = tt
      take_refused refusal.Device eaten r = tt
      take_refused refusal.WriteFailed eaten r = tt
      take_refused (refusal.Lost id) eaten r = r
      take_refused (refusal.Source error) eaten r = r

    module _ (base : List ℕ → Option ℕ → Type 0) (new : CommitsOnTop) (ids : List (List ℕ)) where
      as_it_is : (error : CompleteError E) → ((id : List ℕ) → error ≡ refusal.Entry id Missing → ¬ Contains ids id)
          → IsGatherRefusal kind may_fail top asked known error
          → IsCompleteRefusal kind base may_fail top new ids asked known error
      as_it_is (refusal.Unknown number) apart r = absurd r
      as_it_is (refusal.Entry id error) apart r =
          (λ missing. apart id (ap (λ (e : EntryError). refusal.Entry id e) missing), r)
      as_it_is (refusal.Unreadable id) apart r = r
      as_it_is (refusal.Cycle id) apart r = absurd r
      as_it_is refusal.Full apart r = inl r
      as_it_is refusal.OutOfMemory apart r = tt
      as_it_is refusal.Device apart r = tt
      as_it_is refusal.WriteFailed apart r = tt
      as_it_is (refusal.Lost id) apart r = absurd r
      as_it_is (refusal.Source error) apart r = r

      pub told_refused : (error told : CompleteError E) → IsGatherRefusal kind may_fail top asked known error
          → IsToldAs ids error told → IsCompleteRefusal kind base may_fail top new ids asked known told
      told_refused error told r is =
          ⊎_elim
          (λ (same : (told ≡ error) × ((id : List ℕ) → error ≡ refusal.Entry id Missing → ¬ Contains ids id)).
          subst (IsCompleteRefusal kind base may_fail top new ids asked known) (sym same.0) (as_it_is error same.1 r))
          (λ (other : (id : List ℕ) × (number : ℕ) × (error ≡ refusal.Entry id Missing) × (told ≡ refusal.Unknown number)
          × (slice_get ids number ≡ Some id) × (¬ Contains (take number ids) id)).
          let missing = subst (IsGatherRefusal kind may_fail top asked known) other.2 r in
          subst (IsCompleteRefusal kind base may_fail top new ids asked known) (sym other.3)
          (other.0, other.4, other.5, missing))
          is

      pub turn_refused : (read : List (List ℕ)) (error : CompleteError E) → asked ≡ map (object_id_of kind) read
          → IsTurnRefusal kind base may_fail new read error → IsCompleteRefusal kind base may_fail top new ids asked known error
      turn_refused read (refusal.Unknown number) own r = absurd r
      turn_refused read (refusal.Entry id error) own r = absurd r
      turn_refused read (refusal.Unreadable id) own r = absurd r
      turn_refused read (refusal.Cycle id) own r = absurd r
      turn_refused read refusal.Full own r =
          let at = get_from_contains read r.0 r.2 in
          inr (
            r.0,
            r.1,
            subst (λ (xs : List (List ℕ)). Contains xs (object_id_of kind r.0)) (sym own)
                (contains_from_get (map (object_id_of kind) read) at.0 (object_id_of kind r.0)
                (get_mapped (object_id_of kind) read at.0 r.0 at.1)),
            r.3,
            r.4,
          )
      turn_refused read refusal.OutOfMemory own r = tt
      turn_refused read refusal.Device own r = tt
      turn_refused read refusal.WriteFailed own r = tt
      turn_refused read (refusal.Lost id) own r = r
      turn_refused read (refusal.Source error) own r = r
