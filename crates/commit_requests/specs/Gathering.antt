-- What was read of the commits that were asked for, and what is still wanted. For private contracts alone.
use Rattle.std.specs.Prelude.{◌≡◌, ◌⊎◌, ◌+◌, ◌<◌, ◌≤◌, ℕ, List, ◌∷◌, ◌++◌, [], All, Contains, Option, Some, None, length, map}
use Rattle.std.specs.Prelude.{slice_get, take}
use Rattle.std.specs.Prelude.{IfSome, ⊤}
use Rattle.gix_hash_core.specs.declared.kind.Kind.{Kind}
use Rattle.commit_objects.specs.CommitContents.{Said, Says}
use Rattle.commit_objects.specs.Object.{object_id_of}
use Rattle.object_stream.specs.NextEntry.{IsEntryError}
use Rattle.object_stream.specs.declared.error.EntryError.TheVariants.{Missing}
use Rattle.object_stream.specs.declared.object_type.ObjectType.TheVariants.{Commit}
use Rattle.object_requests.specs.declared.error.RequestError.{RequestError}
use Rattle.object_requests.specs.declared.error.RequestError.TheVariants as request
use Rattle.newer_commits.specs.CommitsOnTop.{CommitsOnTop, end_of_top}
use Rattle.newer_commits.specs.FindingOnTop.{Finds}
use Rattle.commit_requests.specs.Requested.{IsNeeded, StopsAt}
use Rattle.commit_requests.specs.declared.error.CompleteError.{CompleteError}
use Rattle.commit_requests.specs.declared.error.CompleteError.TheVariants as refusal

-- the commit is there
abbrev pub StandsThere : (List ℕ → Option ℕ → Type 0) → CommitsOnTop → List ℕ → Type 0
StandsThere base top id = (p : ℕ) × Finds base top id (Some p)

-- it is there, or was asked for, or is wanted
abbrev pub IsSeenTo : (List ℕ → Option ℕ → Type 0) → CommitsOnTop → List (List ℕ) → List (List ℕ) → List ℕ → Type 0
IsSeenTo base top asked wanted id = StandsThere base top id ⊎ (Contains asked id ⊎ Contains wanted id)

-- it is there, or was asked for
abbrev pub IsThereOrAsked : (List ℕ → Option ℕ → Type 0) → CommitsOnTop → List (List ℕ) → List ℕ → Type 0
IsThereOrAsked base top asked id = StandsThere base top id ⊎ Contains asked id

-- Some of these commits, which are lacking, are wanted beside those that were; so each of them is seen to.
pub record WantsMore (base : List ℕ → Option ℕ → Type 0) (top : CommitsOnTop) (asked old new list : List (List ℕ)) : Type 0 where
  pub more : List (List ℕ)
  pub added : new ≡ old ++ more
  pub lacking : All (λ id. Finds base top id None) more
  pub among : All (Contains list) more
  pub seen : All (IsSeenTo base top asked new) list

-- why nothing more is wanted
abbrev pub IsWantRefusal : {E : Type 0} → (E → Type 0) → CompleteError E → Type 0
IsWantRefusal may_fail (refusal.Unknown number) = ⊥
IsWantRefusal may_fail (refusal.Entry id error) = ⊥
IsWantRefusal may_fail (refusal.Unreadable id) = ⊥
IsWantRefusal may_fail (refusal.Cycle id) = ⊥
IsWantRefusal may_fail refusal.Full = ⊥
IsWantRefusal may_fail refusal.OutOfMemory = ⊤
IsWantRefusal may_fail refusal.Device = ⊥
IsWantRefusal may_fail refusal.WriteFailed = ⊥
IsWantRefusal may_fail (refusal.Lost id) = ⊥
IsWantRefusal may_fail (refusal.Source error) = may_fail error

-- Some of those that were wanted were asked for.
pub record AsksMore (old new wanted : List (List ℕ)) : Type 0 where
  pub more : List (List ℕ)
  pub added : new ≡ old ++ more
  pub among : All (Contains wanted) more

-- one commit was asked for, where so many were and there is room for one more; or nothing was
abbrev pub MayAsk : ℕ → ℕ → List (List ℕ) → List (List ℕ) → List ℕ → Type 0
MayAsk count most old new id = (new ≡ old) ⊎ ((new ≡ old ++ id ∷ []) × (count < most))

-- why one commit was not asked for
abbrev pub IsAskOneRefusal : {E : Type 0} → ℕ → ℕ → CompleteError E → Type 0
IsAskOneRefusal count most (refusal.Unknown number) = ⊥
IsAskOneRefusal count most (refusal.Entry id error) = ⊥
IsAskOneRefusal count most (refusal.Unreadable id) = ⊥
IsAskOneRefusal count most (refusal.Cycle id) = ⊥
IsAskOneRefusal count most refusal.Full = most ≤ count
IsAskOneRefusal count most refusal.OutOfMemory = ⊤
IsAskOneRefusal count most refusal.Device = ⊥
IsAskOneRefusal count most refusal.WriteFailed = ⊤
IsAskOneRefusal count most (refusal.Lost id) = ⊥
IsAskOneRefusal count most (refusal.Source error) = ⊥

-- Of those that were wanted, each was asked for or is wanted still, and no others are.
pub record StillWants (asked old new : List (List ℕ)) : Type 0 where
  pub each : All (λ id. Contains asked id ⊎ Contains new id) old
  pub none : All (Contains old) new

-- why no more are asked for
abbrev pub IsAskRefusal : {E : Type 0} → ℕ → List (List ℕ) → CompleteError E → Type 0
IsAskRefusal most asked (refusal.Unknown number) = ⊥
IsAskRefusal most asked (refusal.Entry id error) = ⊥
IsAskRefusal most asked (refusal.Unreadable id) = ⊥
IsAskRefusal most asked (refusal.Cycle id) = ⊥
IsAskRefusal most asked refusal.Full = most ≤ length asked
IsAskRefusal most asked refusal.OutOfMemory = ⊤
IsAskRefusal most asked refusal.Device = ⊥
IsAskRefusal most asked refusal.WriteFailed = ⊤
IsAskRefusal most asked (refusal.Lost id) = ⊥
IsAskRefusal most asked (refusal.Source error) = ⊥

-- the same error, of a request
abbrev pub complete_error : {E : Type 0} → RequestError → CompleteError E
complete_error (request.Entry id error) = refusal.Entry id error
complete_error request.Device = refusal.Device
complete_error request.OutOfMemory = refusal.OutOfMemory
complete_error request.WriteFailed = refusal.WriteFailed

-- One more commit was read, whose id was the next to be taken, and its parents are wanted.
pub record ReadsCommit (kind : Kind) (base : List ℕ → Option ℕ → Type 0) (top : CommitsOnTop) (asked old new wanted wants
    : List (List ℕ)) : Type 0 where
  pub bytes : List ℕ
  pub added : new ≡ old ++ bytes ∷ []
  pub own : slice_get asked (length old) ≡ Some (object_id_of kind bytes)
  pub said : Said
  pub says : Says kind bytes said
  pub parents : WantsMore base top asked wanted wants said.parents

-- why no commit was read, where the next to be taken is that with this number, and the reader has these bytes, where they are
-- known
abbrev pub IsTakeRefusal : {E : Type 0} → Kind → (E → Type 0) → List (List ℕ) → ℕ → Option (List ℕ) → CompleteError E → Type 0
IsTakeRefusal kind may_fail asked number known (refusal.Unknown n) = ⊥
IsTakeRefusal kind may_fail asked number known (refusal.Entry id error) =
    IfSome known (λ bytes. (slice_get asked number ≡ Some id) × IsEntryError kind Commit (Some id) bytes error)
IsTakeRefusal kind may_fail asked number known (refusal.Unreadable id) =
    (slice_get asked number ≡ Some id)
    × ((bytes : List ℕ) × (id ≡ object_id_of kind bytes) × ((said : Said) → ¬ Says kind bytes said))
IsTakeRefusal kind may_fail asked number known (refusal.Cycle id) = ⊥
IsTakeRefusal kind may_fail asked number known refusal.Full = ⊥
IsTakeRefusal kind may_fail asked number known refusal.OutOfMemory = ⊤
IsTakeRefusal kind may_fail asked number known refusal.Device = ⊤
IsTakeRefusal kind may_fail asked number known refusal.WriteFailed = ⊤
IsTakeRefusal kind may_fail asked number known (refusal.Lost id) = ⊥
IsTakeRefusal kind may_fail asked number known (refusal.Source error) = may_fail error

-- What was read of the commits that were asked for, and what is wanted: each id of the question, and each parent that was read,
-- is there, or was asked for, or is wanted.
pub record IsGathering (kind : Kind) (base : List ℕ → Option ℕ → Type 0) (top : CommitsOnTop) (ids asked read wanted
    : List (List ℕ)) : Type 0 where
  pub own : map (object_id_of kind) read ≡ take (length read) asked
  pub lacking : All (λ id. Finds base top id None) asked
  pub needed : All (IsNeeded kind ids read) asked
  pub wanted_lacking : All (λ id. Finds base top id None) wanted
  pub wanted_needed : All (IsNeeded kind ids read) wanted
  pub closed : All (λ bytes. (said : Said) × Says kind bytes said × All (IsSeenTo base top asked wanted) said.parents) read
  pub question : All (IsSeenTo base top asked wanted) ids

-- All commits that were asked for were read, and each of their parents is there or was asked for.
pub record AreClosed (kind : Kind) (base : List ℕ → Option ℕ → Type 0) (top : CommitsOnTop) (asked read : List (List ℕ))
    : Type 0 where
  pub own : asked ≡ map (object_id_of kind) read
  pub closed : All (λ bytes. (said : Said) × Says kind bytes said × All (IsThereOrAsked base top asked) said.parents) read

-- why not all commits that are lacking were read, where the reader has these bytes, where they are known
abbrev pub IsGatherRefusal : {E : Type 0} → Kind → (E → Type 0) → CommitsOnTop → List (List ℕ) → Option (List ℕ) → CompleteError E
    → Type 0
IsGatherRefusal kind may_fail top asked known (refusal.Unknown number) = ⊥
IsGatherRefusal kind may_fail top asked known (refusal.Entry id error) =
    IfSome known (λ bytes. StopsAt kind asked id bytes error)
IsGatherRefusal kind may_fail top asked known (refusal.Unreadable id) =
    (bytes : List ℕ) × Contains asked id × (id ≡ object_id_of kind bytes) × ((said : Said) → ¬ Says kind bytes said)
IsGatherRefusal kind may_fail top asked known (refusal.Cycle id) = ⊥
IsGatherRefusal kind may_fail top asked known refusal.Full = 0x70000000 ≤ end_of_top top + length asked
IsGatherRefusal kind may_fail top asked known refusal.OutOfMemory = ⊤
IsGatherRefusal kind may_fail top asked known refusal.Device = ⊤
IsGatherRefusal kind may_fail top asked known refusal.WriteFailed = ⊤
IsGatherRefusal kind may_fail top asked known (refusal.Lost id) = ⊥
IsGatherRefusal kind may_fail top asked known (refusal.Source error) = may_fail error

-- An error of a question is told as it is; but an id of the question that is missing is told by its number, the first one.
abbrev pub IsToldAs : {E : Type 0} → List (List ℕ) → CompleteError E → CompleteError E → Type 0
IsToldAs ids error told =
    ((told ≡ error) × ((id : List ℕ) → error ≡ refusal.Entry id Missing → ¬ Contains ids id))
    ⊎ ((id : List ℕ) × (number : ℕ) × (error ≡ refusal.Entry id Missing) × (told ≡ refusal.Unknown number)
    × (slice_get ids number ≡ Some id) × (¬ Contains (take number ids) id))
