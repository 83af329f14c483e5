-- Walks along the `parent` lines of commits (Git's book, "Git Objects", "Commit Objects"), by what the commits' bytes say.
use Rattle.std.specs.Prelude.{◌≡◌, ℕ, ◌-◌, List, [], ◌∷◌, Contains, length, slice_get, Some, option_map}
use Rattle.gix_hash_core.specs.declared.kind.Kind.{Kind}
use Rattle.commit_objects.specs.CommitContents.{Said, Says}
use Rattle.commit_objects.specs.Object.{object_id_of}

-- the bytes name a parent with this id in a `parent` line
abbrev pub NamesParent : Kind → List ℕ → List ℕ → Type 0
NamesParent kind bytes id = (said : Said) × Says kind bytes said × Contains said.parents id

-- each commit after the first is named in a `parent` line of the one before it, and all are of these
abbrev pub IsCommitWalk : Kind → List (List ℕ) → List (List ℕ) → Type 0
IsCommitWalk kind all [] = ⊥
IsCommitWalk kind all (bytes ∷ []) = Contains all bytes
IsCommitWalk kind all (bytes ∷ next ∷ rest) =
    Contains all bytes × NamesParent kind bytes (object_id_of kind next) × IsCommitWalk kind all (next ∷ rest)

-- A walk of these commits leads from the commit with one id to the commit with another.
pub record CommitsLead (kind : Kind) (all : List (List ℕ)) (from to : List ℕ) : Type 0 where
  pub walk : List (List ℕ)
  pub is_walk : IsCommitWalk kind all walk
  pub first : option_map (object_id_of kind) (slice_get walk 0) ≡ Some from
  pub last : option_map (object_id_of kind) (slice_get walk (length walk - 1)) ≡ Some to
