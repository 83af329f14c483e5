-- Commits that a base lacks, which are asked for because a question needs them, and stand on top of it.
use Rattle.std.specs.Prelude.{◌≡◌, ℕ, List, [], ◌++◌, Option, IfSome, map}
use Rattle.gix_hash_core.specs.declared.kind.Kind.{Kind}
use Rattle.commit_objects.specs.Object.{object_id_of}
use Rattle.newer_commits.specs.Adding.{AreThere}
use Rattle.newer_commits.specs.CommitsOnTop.{CommitsOnTop}
use Rattle.commit_requests.specs.Completion.{AddsInTurn, HaveIdsAmong}
use Rattle.commit_requests.specs.Requested.{AreAskedFor, commit_entries}

-- no commits yet, on top of so many
abbrev pub IsNothingOver : ℕ → CommitsOnTop → Type 0
IsNothingOver count top = (top.commits ≡ []) × (top.below ≡ count)

-- For a question about these ids those commits were asked for that were lacking; and some of them were added, each after its
-- parents. The lookup of an id in the base may answer this.
pub record AreAskedOnTop (kind : Kind) (base : List ℕ → Option ℕ → Type 0) (none : CommitsOnTop) (ids asked : List (List ℕ))
    (top : CommitsOnTop) : Type 0 where
  pub read : List (List ℕ)
  pub asked_for : AreAskedFor kind base none ids asked read
  pub contents : List (List ℕ)
  pub added : AddsInTurn kind base none contents top
  pub among : HaveIdsAmong kind asked contents

-- No commit is lacking: each that was asked for is there, and each of the question. The reader, where its bytes are known, had
-- the entries of those that were asked for, in order.
pub record AreAllOnTop (kind : Kind) (base : List ℕ → Option ℕ → Type 0) (ids asked : List (List ℕ)) (known : Option (List ℕ))
    (top : CommitsOnTop) : Type 0 where
  pub question : AreThere base top ids
  pub each : AreThere base top asked
  pub read : List (List ℕ)
  pub own : asked ≡ map (object_id_of kind) read
  pub entries : IfSome known (λ bytes. (rest : List ℕ) × (bytes ≡ commit_entries kind read ++ rest))
