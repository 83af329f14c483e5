-- The commits that C hands in for a new layer, and what they say.
use Rattle.std.specs.Prelude.{◌≡◌, ◌==◌, ◌&&◌, ℕ, ◌%◌, List, [], ◌∷◌, All, Bool, true, false, IsSomeAnd, ⊤, length, slice_get}
use Rattle.std.specs.Prelude.{take}
use Rattle.gix_hash_core.specs.Kind.{is_id_len}
use Rattle.graph_format.specs.Format.{pieces}
use Rattle.graph_writer.specs.declared.commit.NewCommit.{NewCommit}
use Rattle.c_writing.specs.declared.new_commits.CgNewCommit.{CgNewCommit}

-- the bytes are ids, each as long as the commit's own
abbrev pub has_ids : CgNewCommit → Bool
has_ids handed =
    is_id_len (length handed.id.now) && length handed.tree.now == length handed.id.now
    && length handed.parents.now % length handed.id.now == 0

-- so are those of all commits
abbrev pub HaveIds : List CgNewCommit → Type 0
HaveIds handed = All (λ one. has_ids one ≡ true) handed

-- Those of a commit are not, and each before it has ids.
pub record IsFirstWithoutIds (handed : List CgNewCommit) (i : ℕ) : Type 0 where
  pub here : IsSomeAnd (slice_get handed i) (λ one. has_ids one ≡ false)
  pub before : HaveIds (take i handed)

-- What is handed in of a commit says this one. Its parents' ids stand one after another.
pub record IsHandedIn (handed : CgNewCommit) (commit : NewCommit) : Type 0 where
  pub ids : has_ids handed ≡ true
  pub id : commit.id ≡ handed.id.now
  pub tree : commit.tree ≡ handed.tree.now
  pub parents : commit.parents.items ≡ pieces (length handed.id.now) handed.parents.now
  pub time : commit.time ≡ handed.time

-- what is handed in says these commits, one by one
abbrev pub AreHandedIn : List CgNewCommit → List NewCommit → Type 0
AreHandedIn [] [] = ⊤
AreHandedIn [] (commit ∷ commits) = ⊥
AreHandedIn (one ∷ handed) [] = ⊥
AreHandedIn (one ∷ handed) (commit ∷ commits) = IsHandedIn one commit × AreHandedIn handed commits
