-- Newer commits as those with certain contents (Git's book, "Git Objects", "Commit Objects").
use Rattle.std.specs.Prelude.{◌≡◌, ℕ, List, [], length, slice_get, slice_index_or, Option, Some}
use Rattle.gix_hash_core.specs.declared.kind.Kind.{Kind}
use Rattle.newer_commits.specs.CommitsOnTop.{CommitsOnTop, NewerCommit, before_newer, ids_on_top}
use Rattle.newer_commits.specs.Adding.{IsCommitOf}

-- the id of the newer commit with this number
abbrev pub newer_id : CommitsOnTop → ℕ → List ℕ
newer_id top i = slice_index_or (ids_on_top top) i []

-- The newer commits are those with these contents, in order: each was added on top of those before it.
pub record AreCommitsOf (kind : Kind) (base : List ℕ → Option ℕ → Type 0) (top : CommitsOnTop) (contents : List (List ℕ))
    : Type 0 where
  pub as_many : length contents ≡ length top.commits
  pub each : (i : ℕ) (commit : NewerCommit) (bytes : List ℕ) → slice_get top.commits i ≡ Some commit
      → slice_get contents i ≡ Some bytes → IsCommitOf kind base (before_newer i top) bytes commit

-- the base answers one thing for each id
abbrev pub AnswersOnce : (List ℕ → Option ℕ → Type 0) → Type 0
AnswersOnce base = (id : List ℕ) (one other : Option ℕ) → base id one → base id other → one ≡ other
