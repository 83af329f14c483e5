-- In which order commits that were read are added. For private contracts alone.
use Rattle.std.specs.Prelude.{◌≡◌, ◌⊎◌, ◌<◌, ◌++◌, ◌∷◌, [], ℕ, List, All, Contains, Option, Some, None, length, slice_get, take}
use Rattle.std.specs.Prelude.{⊤}
use Rattle.gix_hash_core.specs.declared.kind.Kind.{Kind}
use Rattle.commit_objects.specs.CommitContents.{Said, Says}
use Rattle.commit_objects.specs.Object.{object_id_of}
use Rattle.graph_levels.specs.ParentLists.{commit_count, parent_list}
use Rattle.graph_levels.specs.declared.lists.ParentLists.{ParentLists}
use Rattle.newer_commits.specs.Adding.{AddsCommit}
use Rattle.newer_commits.specs.CommitsOnTop.{CommitsOnTop}
use Rattle.newer_commits.specs.FindingOnTop.{Finds}
use Rattle.newer_commits.specs.Room.{IsFull}
use Rattle.newer_commits.specs.declared.error.AddError.{AddError}
use Rattle.newer_commits.specs.declared.error.AddError.TheVariants as add
use Rattle.commit_requests.specs.Gathering.{StandsThere}
use Rattle.commit_requests.specs.declared.error.CompleteError.{CompleteError}
use Rattle.commit_requests.specs.declared.error.CompleteError.TheVariants as refusal

-- The numbers of those of the parents that were asked for.
pub record AreNumbersIn (asked parents : List (List ℕ)) (numbers : List ℕ) : Type 0 where
  pub each : All (λ q. (id : List ℕ) × (slice_get asked q ≡ Some id) × Contains parents id) numbers
  pub every : All (λ id. Contains asked id → (q : ℕ) × Contains numbers q × (slice_get asked q ≡ Some id)) parents

-- the number of one more is there, if it was asked for
abbrev pub AddsNumber : List (List ℕ) → List ℕ → List ℕ → List ℕ → Type 0
AddsNumber asked old new id =
    ((q : ℕ) × (slice_get asked q ≡ Some id) × (new ≡ old ++ q ∷ [])) ⊎ ((¬ Contains asked id) × (new ≡ old))

-- the contents are a commit, and these are the numbers of its parents
abbrev pub HasNumbers : Kind → List (List ℕ) → List ℕ → List ℕ → Type 0
HasNumbers kind asked bytes numbers = (said : Said) × Says kind bytes said × AreNumbersIn asked said.parents numbers

-- For each commit that was read there are the numbers of its parents.
pub record AreListsOf (kind : Kind) (asked read : List (List ℕ)) (lists : ParentLists) : Type 0 where
  pub as_many : commit_count lists ≡ length read
  pub each : (i : ℕ) (bytes : List ℕ) → slice_get read i ≡ Some bytes → HasNumbers kind asked bytes (parent_list lists i)

-- All these commits, each after its parents.
pub record ComeAfterParents (lists : ParentLists) (numbers : List ℕ) : Type 0 where
  pub within : All (λ n. n < commit_count lists) numbers
  pub every : (n : ℕ) → n < commit_count lists → Contains numbers n
  pub after : (k n q : ℕ) → slice_get numbers k ≡ Some n → Contains (parent_list lists n) q → Contains (take k numbers) q

-- the commit with this number is there
abbrev pub IsNumberThere : Kind → (List ℕ → Option ℕ → Type 0) → CommitsOnTop → List (List ℕ) → ℕ → Type 0
IsNumberThere kind base top read n =
    (bytes : List ℕ) × (slice_get read n ≡ Some bytes) × StandsThere base top (object_id_of kind bytes)

-- Each parent of a commit is there, or is a commit that comes before it.
pub record ParentsComeFirst (kind : Kind) (base : List ℕ → Option ℕ → Type 0) (top : CommitsOnTop) (read : List (List ℕ))
    (numbers : List ℕ) : Type 0 where
  pub readable : All (λ bytes. (said : Said) × Says kind bytes said) read
  pub within : All (λ n. n < length read) numbers
  pub after : (k n : ℕ) (bytes id : List ℕ) (said : Said) → slice_get numbers k ≡ Some n → slice_get read n ≡ Some bytes
      → Says kind bytes said → Contains said.parents id
      → StandsThere base top id
      ⊎ ((q : ℕ) × (next : List ℕ) × Contains (take k numbers) q × (slice_get read q ≡ Some next) × (id ≡ object_id_of kind next))

-- the commit with these contents was added, or it was there
abbrev pub AddsOrHas : Kind → (List ℕ → Option ℕ → Type 0) → CommitsOnTop → CommitsOnTop → List ℕ → Type 0
AddsOrHas kind base old new bytes =
    ((at : ℕ) × AddsCommit kind base old new bytes at) ⊎ ((new ≡ old) × StandsThere base old (object_id_of kind bytes))

-- the id of the parent that is not there, if that is the error
abbrev pub IsLackingParent : {E : Type 0} → AddError E → Option (List ℕ) → Type 0
IsLackingParent (add.Parent index id) told = told ≡ Some id
IsLackingParent add.Unreadable told = told ≡ None
IsLackingParent (add.Known pos) told = told ≡ None
IsLackingParent add.Full told = told ≡ None
IsLackingParent add.OutOfMemory told = told ≡ None
IsLackingParent (add.Source error) told = told ≡ None

-- why it was not added
abbrev pub IsOneRefusal : {E : Type 0} → Kind → (List ℕ → Option ℕ → Type 0) → (E → Type 0) → CommitsOnTop → List ℕ
    → CompleteError E → Type 0
IsOneRefusal kind base may_fail top bytes (refusal.Unknown number) = ⊥
IsOneRefusal kind base may_fail top bytes (refusal.Entry id error) = ⊥
IsOneRefusal kind base may_fail top bytes (refusal.Unreadable id) = ⊥
IsOneRefusal kind base may_fail top bytes (refusal.Cycle id) = ⊥
IsOneRefusal kind base may_fail top bytes refusal.Full = (said : Said) × Says kind bytes said × IsFull top (length said.parents)
IsOneRefusal kind base may_fail top bytes refusal.OutOfMemory = ⊤
IsOneRefusal kind base may_fail top bytes refusal.Device = ⊥
IsOneRefusal kind base may_fail top bytes refusal.WriteFailed = ⊥
IsOneRefusal kind base may_fail top bytes (refusal.Lost id) =
    (said : Said) × Says kind bytes said × Contains said.parents id × Finds base top id None
IsOneRefusal kind base may_fail top bytes (refusal.Source error) = may_fail error

-- why not all were added
abbrev pub IsTurnRefusal : {E : Type 0} → Kind → (List ℕ → Option ℕ → Type 0) → (E → Type 0) → CommitsOnTop → List (List ℕ)
    → CompleteError E → Type 0
IsTurnRefusal kind base may_fail top read (refusal.Unknown number) = ⊥
IsTurnRefusal kind base may_fail top read (refusal.Entry id error) = ⊥
IsTurnRefusal kind base may_fail top read (refusal.Unreadable id) = ⊥
IsTurnRefusal kind base may_fail top read (refusal.Cycle id) = ⊥
IsTurnRefusal kind base may_fail top read refusal.Full =
    (bytes : List ℕ) × (said : Said) × Contains read bytes × Says kind bytes said × IsFull top (length said.parents)
IsTurnRefusal kind base may_fail top read refusal.OutOfMemory = ⊤
IsTurnRefusal kind base may_fail top read refusal.Device = ⊥
IsTurnRefusal kind base may_fail top read refusal.WriteFailed = ⊥
IsTurnRefusal kind base may_fail top read (refusal.Lost id) = (p : ℕ) × base id (Some p) × base id None
IsTurnRefusal kind base may_fail top read (refusal.Source error) = may_fail error
