-- The queue of a search breadth first. For private contracts alone.
use Rattle.std.specs.Prelude.{◌≡◌, ℕ, ◌<◌, ◌≤◌, List, length}
use Rattle.graph_walks.specs.History.{Node, IsParent, generation_at}
use Rattle.commit_search.specs.Marks.{Marked}
use Rattle.commit_search.specs.Queue.{commit_in, child_in}

-- none was reached from a place after c
abbrev pub ChildrenUpTo : List Marked → ℕ → Type 0
ChildrenUpTo queued c = (i : ℕ) → i < length queued → child_in queued i ≤ c

-- the order is that of the places from which they were reached
abbrev pub AreInOrder : List Marked → Type 0
AreInOrder queued = (i j : ℕ) → i ≤ j → j < length queued → child_in queued i ≤ child_in queued j

-- p is queued, and was reached from place c or one before it
abbrev pub QueuedFrom : List Marked → ℕ → ℕ → Type 0
QueuedFrom queued c p = (i : ℕ) × (i < length queued) × (commit_in queued i ≡ p) × (child_in queued i ≤ c)

-- each parent of the commit at place c that is at or above the least number is so
abbrev pub QueuesParentsFrom : List Node → ℕ → List Marked → ℕ → Type 0
QueuesParentsFrom history least queued c =
    (q : ℕ) → IsParent history (commit_in queued c) q → least ≤ generation_at history q → QueuedFrom queued c q
