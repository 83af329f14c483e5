-- That commits which were asked for are added, and why not all are there ("Commit Objects" of Git's book).
use Rattle.std.specs.Prelude.{◌≡◌, ◌⊎◌, ◌+◌, ◌≤◌, ℕ, List, [], ◌∷◌, All, Contains, Option, Some, None, length, slice_get, take, ⊤}
use Rattle.std.specs.Prelude.{IfSome}
use Rattle.gix_hash_core.specs.declared.kind.Kind.{Kind}
use Rattle.commit_objects.specs.CommitContents.{Said, Says}
use Rattle.commit_objects.specs.Object.{object_id_of}
use Rattle.object_stream.specs.declared.error.EntryError.TheVariants.{Missing}
use Rattle.graph_objects.specs.CommitWalks.{CommitsLead, NamesParent}
use Rattle.newer_commits.specs.Adding.{AddsCommit}
use Rattle.newer_commits.specs.CommitsOnTop.{CommitsOnTop, end_of_top}
use Rattle.newer_commits.specs.Room.{IsFull}
use Rattle.commit_requests.specs.Requested.{StopsAt}
use Rattle.commit_requests.specs.declared.error.CompleteError.{CompleteError}
use Rattle.commit_requests.specs.declared.error.CompleteError.TheVariants as refusal

-- the commits with these contents were added one after another, each after its parents
abbrev pub AddsInTurn : Kind → (List ℕ → Option ℕ → Type 0) → CommitsOnTop → List (List ℕ) → CommitsOnTop → Type 0
AddsInTurn kind base old [] new = new ≡ old
AddsInTurn kind base old (bytes ∷ more) new =
    (next : CommitsOnTop) × (at : ℕ) × AddsCommit kind base old next bytes at × AddsInTurn kind base next more new

-- their ids are among those that were asked for
abbrev pub HaveIdsAmong : Kind → List (List ℕ) → List (List ℕ) → Type 0
HaveIdsAmong kind asked contents = All (λ bytes. Contains asked (object_id_of kind bytes)) contents

-- The commit with this id is one of these, and an ancestor of itself: from a parent that it names these commits lead to it.
pub record IsOwnAncestor (kind : Kind) (all : List (List ℕ)) (id : List ℕ) : Type 0 where
  pub bytes : List ℕ
  pub among : Contains all bytes
  pub own : id ≡ object_id_of kind bytes
  pub parent : List ℕ
  pub names : NamesParent kind bytes parent
  pub leads : CommitsLead kind all parent id

-- there is no room for one more commit than are there and were asked for, or none for the parents of one that was read
abbrev pub HaveNoRoom : Kind → CommitsOnTop → CommitsOnTop → List (List ℕ) → Type 0
HaveNoRoom kind old new asked =
    (0x70000000 ≤ end_of_top old + length asked)
    ⊎ ((bytes : List ℕ) × (said : Said) × Contains asked (object_id_of kind bytes) × Says kind bytes said
    × IsFull new (length said.parents))

-- why commits are not all there, where these ids were asked for, and the reader has these bytes, where they are known. Any
-- read or write may fail, and memory may run out at any time
abbrev pub IsCompleteRefusal : {E : Type 0} → Kind → (List ℕ → Option ℕ → Type 0) → (E → Type 0) → CommitsOnTop → CommitsOnTop
    → List (List ℕ) → List (List ℕ) → Option (List ℕ) → CompleteError E → Type 0
IsCompleteRefusal kind base may_fail old new ids asked known (refusal.Unknown number) =
    (id : List ℕ) × (slice_get ids number ≡ Some id) × (¬ Contains (take number ids) id)
    × IfSome known (λ bytes. StopsAt kind asked id bytes Missing)
IsCompleteRefusal kind base may_fail old new ids asked known (refusal.Entry id error) =
    (error ≡ Missing → ¬ Contains ids id) × IfSome known (λ bytes. StopsAt kind asked id bytes error)
IsCompleteRefusal kind base may_fail old new ids asked known (refusal.Unreadable id) =
    (bytes : List ℕ) × Contains asked id × (id ≡ object_id_of kind bytes) × ((said : Said) → ¬ Says kind bytes said)
IsCompleteRefusal kind base may_fail old new ids asked known (refusal.Cycle id) =
    (contents : List (List ℕ)) × HaveIdsAmong kind asked contents × IsOwnAncestor kind contents id
IsCompleteRefusal kind base may_fail old new ids asked known refusal.Full = HaveNoRoom kind old new asked
IsCompleteRefusal kind base may_fail old new ids asked known refusal.OutOfMemory = ⊤
IsCompleteRefusal kind base may_fail old new ids asked known refusal.Device = ⊤
IsCompleteRefusal kind base may_fail old new ids asked known refusal.WriteFailed = ⊤
IsCompleteRefusal kind base may_fail old new ids asked known (refusal.Lost id) = (p : ℕ) × base id (Some p) × base id None
IsCompleteRefusal kind base may_fail old new ids asked known (refusal.Source error) = may_fail error
