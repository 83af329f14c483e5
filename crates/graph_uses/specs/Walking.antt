-- How a walk over all ancestors of a commit marks a commit and puts it into its queue. For private contracts alone.
use Rattle.std.specs.Prelude.{◌≡◌, ◌⊎◌, ℕ, Bool, true, false, List, ◌∷◌, IsPermutation, slice_index_or, slice_set}
use Rattle.std.specs.BinaryHeap.{IsHeap}
use Rattle.gix_commitgraph.specs.History.{Node, generation_at}
use Rattle.graph_bases.specs.Painting.{entry_cmp}

-- the commit is marked
abbrev pub is_seen : List Bool → ℕ → Bool
is_seen seen p = slice_index_or seen p false

-- A commit that is not marked is marked and joins the queue, and nothing changes where it is marked.
abbrev pub Enqueues : List Node → ℕ → List Bool → List (ℕ × ℕ) → List Bool → List (ℕ × ℕ) → Type 0
Enqueues history p seen queue seen_after queue_after =
    ((is_seen seen p ≡ true) × (seen_after ≡ seen) × (queue_after ≡ queue))
    ⊎ ((is_seen seen p ≡ false) × (seen_after ≡ slice_set seen p true)
    × IsPermutation ((generation_at history p, p) ∷ queue) queue_after
    × (IsHeap entry_cmp queue → IsHeap entry_cmp queue_after))
