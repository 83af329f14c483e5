-- What is found of the parents of a commit that is to be added. For private contracts alone.
use Rattle.std.specs.Prelude.{◌≡◌, ◌<◌, ℕ, List, [], ◌∷◌, ◌++◌, map, length, take, slice_get, Contains, Option, Some}
use Rattle.std.specs.Prelude.{None}
use Rattle.std.specs.Prelude.{IfSome}
use Rattle.std.specs.List.{AllZip}
use Rattle.gix_hash_core.specs.declared.kind.Kind.{Kind}
use Rattle.graph_walks.specs.Counts.{greatest}
use Rattle.graph_walks.specs.History.{generation_at}
use Rattle.commit_objects.specs.CommitContents.{Said}
use Rattle.commit_objects.specs.Object.{object_id_of}
use Rattle.commit_search.specs.Source.{Told}
use Rattle.newer_commits.specs.CommitsOnTop.{CommitsOnTop, newer_commit, end_of_top, nodes_on_top}
use Rattle.newer_commits.specs.FindingOnTop.{Finds}
use Rattle.newer_commits.specs.JoinedHistory.{joined_history}
use Rattle.newer_commits.specs.Adding.{AreThere, IsNewCommit}
use Rattle.newer_commits.specs.Room.{IsFull}
use Rattle.newer_commits.specs.declared.error.AddError.{AddError}
use Rattle.newer_commits.specs.declared.error.AddError.TheVariants as refusal
use Rattle.newer_commits.specs.declared.found.FoundParents.{FoundParents}
use Rattle.newer_commits.specs.declared.found.Prepared.{Prepared}

-- Each of the ids is found, and the greatest generation number of those commits is this one, in all that the base may say.
pub record AreFoundParents (base : List ℕ → Option ℕ → Type 0) (says : Told → Type 0) (top : CommitsOnTop) (ids : List (List ℕ))
    (found : FoundParents) : Type 0 where
  pub places : List ℕ
  pub each : AllZip (λ id p. Finds base top id (Some p)) ids places
  pub there : (q : ℕ) → Contains places q → q < end_of_top top
  pub kept : IfSome found.positions (λ v. v.items ≡ places)
  pub count : found.count ≡ length places
  pub number : (t : Told) → says t
      → found.greatest ≡ greatest (map (generation_at (joined_history t.history (nodes_on_top top))) places)

-- The contents are a commit that is not there, with this id, and its parents are found so.
pub record IsPrepared (kind : Kind) (base : List ℕ → Option ℕ → Type 0) (says : Told → Type 0) (top : CommitsOnTop)
    (contents : List ℕ) (prepared : Prepared) : Type 0 where
  pub said : Said
  pub absent : IsNewCommit kind base top contents said
  pub id : prepared.id ≡ object_id_of kind contents
  pub found : AreFoundParents base says top said.parents prepared.found

-- this parent, which has this number, is not there, or a read failed
abbrev pub IsOneParentRefusal : {E : Type 0} → (List ℕ → Option ℕ → Type 0) → (E → Type 0) → CommitsOnTop → ℕ → List ℕ
    → AddError E → Type 0
IsOneParentRefusal base may_fail top number id (refusal.Parent index other) =
    (index ≡ number) × (other ≡ id) × Finds base top id None
IsOneParentRefusal base may_fail top number id (refusal.Source error) = may_fail error
IsOneParentRefusal base may_fail top number id refusal.Unreadable = ⊥
IsOneParentRefusal base may_fail top number id (refusal.Known pos) = ⊥
IsOneParentRefusal base may_fail top number id refusal.Full = ⊥
IsOneParentRefusal base may_fail top number id refusal.OutOfMemory = ⊥

-- the first parent that is not there, or a read failed
abbrev pub IsParentRefusal : {E : Type 0} → (List ℕ → Option ℕ → Type 0) → (E → Type 0) → CommitsOnTop → List (List ℕ)
    → AddError E → Type 0
IsParentRefusal base may_fail top ids (refusal.Parent index id) =
    AreThere base top (take index ids) × (slice_get ids index ≡ Some id) × Finds base top id None
IsParentRefusal base may_fail top ids (refusal.Source error) = may_fail error
IsParentRefusal base may_fail top ids refusal.Unreadable = ⊥
IsParentRefusal base may_fail top ids (refusal.Known pos) = ⊥
IsParentRefusal base may_fail top ids refusal.Full = ⊥
IsParentRefusal base may_fail top ids refusal.OutOfMemory = ⊥

-- A commit with this id was added, whose parents are found by these ids.
pub record IsPushed (base : List ℕ → Option ℕ → Type 0) (old new : CommitsOnTop) (ids : List (List ℕ)) (id : List ℕ) (at : ℕ)
    : Type 0 where
  pub generation : ℕ
  pub places : List ℕ
  pub each : AllZip (λ parent p. Finds base old parent (Some p)) ids places
  pub added : new.commits ≡ old.commits ++ newer_commit id generation places ∷ []
  pub below : new.below ≡ old.below
  pub position : at ≡ end_of_top old

-- there is no room for a commit with so many parents, or no memory
abbrev pub IsPushRefusal : {E : Type 0} → CommitsOnTop → ℕ → AddError E → Type 0
IsPushRefusal top parents refusal.Full = IsFull top parents
IsPushRefusal top parents refusal.OutOfMemory = ¬ IsFull top parents
IsPushRefusal top parents refusal.Unreadable = ⊥
IsPushRefusal top parents (refusal.Known pos) = ⊥
IsPushRefusal top parents (refusal.Parent index id) = ⊥
IsPushRefusal top parents (refusal.Source error) = ⊥
