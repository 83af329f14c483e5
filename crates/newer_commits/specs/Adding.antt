-- When a commit is added on top of others, by the contents of its object ("Commit Objects" of Git's book), and why it is not.
use Rattle.std.specs.Prelude.{◌≡◌, ℕ, List, [], ◌∷◌, ◌++◌, All, length, take, slice_get, Option, Some, None}
use Rattle.std.specs.List.{AllZip}
use Rattle.gix_hash_core.specs.declared.kind.Kind.{Kind}
use Rattle.commit_objects.specs.CommitContents.{Said, Says}
use Rattle.commit_objects.specs.Object.{object_id_of}
use Rattle.newer_commits.specs.CommitsOnTop.{CommitsOnTop, NewerCommit, end_of_top}
use Rattle.newer_commits.specs.FindingOnTop.{Finds}
use Rattle.newer_commits.specs.Room.{IsFull}
use Rattle.newer_commits.specs.declared.error.AddError.{AddError}
use Rattle.newer_commits.specs.declared.error.AddError.TheVariants as refusal

-- The commit is the one with these contents: it has the id of its object, which was not there before, and each parent is the
-- commit that is found by the id in its `parent` line, in order.
pub record IsCommitOf (kind : Kind) (base : List ℕ → Option ℕ → Type 0) (before : CommitsOnTop) (contents : List ℕ)
    (commit : NewerCommit) : Type 0 where
  pub id : commit.id ≡ object_id_of kind contents
  pub is_new : Finds base before commit.id None
  pub said : Said
  pub says : Says kind contents said
  pub parents : AllZip (λ parent p. Finds base before parent (Some p)) said.parents commit.node.parents

-- The commit with these contents was added, at this position, and all else is as before.
pub record AddsCommit (kind : Kind) (base : List ℕ → Option ℕ → Type 0) (old new : CommitsOnTop) (contents : List ℕ) (at : ℕ)
    : Type 0 where
  pub commit : NewerCommit
  pub is_commit : IsCommitOf kind base old contents commit
  pub added : new.commits ≡ old.commits ++ commit ∷ []
  pub below : new.below ≡ old.below
  pub position : at ≡ end_of_top old

-- each of these ids is found
abbrev pub AreThere : (List ℕ → Option ℕ → Type 0) → CommitsOnTop → List (List ℕ) → Type 0
AreThere base top ids = All (λ id. (p : ℕ) × Finds base top id (Some p)) ids

-- The contents are a commit that is not there.
pub record IsNewCommit (kind : Kind) (base : List ℕ → Option ℕ → Type 0) (top : CommitsOnTop) (contents : List ℕ) (said : Said)
    : Type 0 where
  pub says : Says kind contents said
  pub is_new : Finds base top (object_id_of kind contents) None

-- why contents are not added: the first that holds, in the order of the variants; a read of the base may fail at any time
abbrev pub IsAddRefusal : {E : Type 0} → Kind → (List ℕ → Option ℕ → Type 0) → (E → Type 0) → CommitsOnTop → List ℕ
    → AddError E → Type 0
IsAddRefusal kind base may_fail top contents refusal.Unreadable = (said : Said) → ¬ Says kind contents said
IsAddRefusal kind base may_fail top contents (refusal.Known pos) =
    (said : Said) × Says kind contents said × Finds base top (object_id_of kind contents) (Some pos.0)
IsAddRefusal kind base may_fail top contents (refusal.Parent index id) =
    (said : Said) × IsNewCommit kind base top contents said × AreThere base top (take index said.parents)
    × (slice_get said.parents index ≡ Some id) × Finds base top id None
IsAddRefusal kind base may_fail top contents refusal.Full =
    (said : Said) × IsNewCommit kind base top contents said × AreThere base top said.parents × IsFull top (length said.parents)
IsAddRefusal kind base may_fail top contents refusal.OutOfMemory =
    (said : Said) × IsNewCommit kind base top contents said × AreThere base top said.parents
    × (¬ IsFull top (length said.parents))
IsAddRefusal kind base may_fail top contents (refusal.Source error) = may_fail error
