-- The queue of a search along parents: the commits that were reached, each but the first from one before it. The mark of a
-- commit is the place in the queue of the commit from which it was reached. For private contracts alone.
use Rattle.std.specs.Prelude.{◌≡◌, ℕ, suc, zero, ◌<◌, ◌≤◌, List, length, slice_get}
use Rattle.graph_walks.specs.History.{Node, IsParent, generation_at}
use Rattle.commit_search.specs.Marks.{Marked, number_in, mark_in, IsMarked}

-- the commit at a place of the queue
abbrev pub commit_in : List Marked → ℕ → ℕ
commit_in queued i = number_in queued i

-- the place of the commit from which it was reached, whose parent it is
abbrev pub child_in : List Marked → ℕ → ℕ
child_in queued i = mark_in queued i

-- the commit stands in the queue
abbrev pub IsQueued : List Marked → ℕ → Type 0
IsQueued queued p = IsMarked queued p

-- The queue of a search among so many commits. It keeps commits of one kind alone, and each but the first was led to from one
-- before it.
pub record IsQueueOf (count : ℕ) (Keeps : ℕ → Type 0) (Leads : ℕ → ℕ → Type 0) (queued : List Marked) : Type 0 where
  -- each that is queued is a commit of the kind, and is queued once
  pub within : (i : ℕ) → i < length queued → commit_in queued i < count
  pub kept : (i : ℕ) → i < length queued → Keeps (commit_in queued i)
  pub once : (i j : ℕ) → i < length queued → j < length queued → commit_in queued i ≡ commit_in queued j → i ≡ j
  pub parents : (i : ℕ) → 0 < i → i < length queued → Leads (commit_in queued (child_in queued i)) (commit_in queued i)
  pub earlier : (i : ℕ) → 0 < i → i < length queued → child_in queued i < i

-- the queue of a search along parents in which no commit with a generation number below the least one is of use
abbrev pub IsQueue : List Node → ℕ → List Marked → Type 0
IsQueue history least queued =
    IsQueueOf (length history) (λ p. least ≤ generation_at history p) (IsParent history) queued

-- What was queued stands where it stood, and what was queued since was reached from place c.
pub record Extends (old new : List Marked) (c : ℕ) : Type 0 where
  pub longer : length old ≤ length new
  pub same : (i : ℕ) → i < length old → slice_get new i ≡ slice_get old i
  pub since : (i : ℕ) → length old ≤ i → i < length new → child_in new i ≡ c

-- each parent of the commit at place i that is at or above the least number is queued
abbrev pub QueuesParents : List Node → ℕ → List Marked → ℕ → Type 0
QueuesParents history least queued i =
    (q : ℕ) → IsParent history (commit_in queued i) q → least ≤ generation_at history q → IsQueued queued q

-- the commit at place i is d steps from the first
abbrev pub Depth : List Marked → ℕ → ℕ → Type 0
Depth queued i zero = i ≡ 0
Depth queued i (suc d) = (0 < i) × Depth queued (child_in queued i) d
