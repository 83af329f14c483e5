-- Whether there is room for one more commit.
use Rattle.std.specs.Prelude.{◌≡◌, ◌⊎◌, ◌+◌, ◌≤◌, ◌^◌, ℕ, length}
use Rattle.newer_commits.specs.CommitsOnTop.{CommitsOnTop, end_of_top}

-- there are no newer commits, or few enough for the positions of a graph
abbrev pub AreFewEnough : ℕ → ℕ → Type 0
AreFewEnough below count = (count ≡ 0) ⊎ (below + count ≤ 0x70000000)

-- No position of a commit-graph is left ("Commit Data": 0x70000000 stands for no parent), or a word of an extra edge list would
-- have no number of 32 bits if so many parents were listed.
abbrev pub IsFull : CommitsOnTop → ℕ → Type 0
IsFull top parents = (0x70000000 ≤ end_of_top top) ⊎ (2 ^ 32 ≤ length top.words + parents)
