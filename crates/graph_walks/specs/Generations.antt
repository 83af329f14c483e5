-- Git's topological level of a commit, by the rule of Git's commit-graph design that looks at the commit and its parents alone.
use Rattle.std.specs.Prelude.{◌≡◌, ℕ, ◌+◌, ◌-◌, ◌<◌, List, Option, Some, None, min, map, length, nat_lt, if◌then◌else◌}
use Rattle.graph_walks.specs.Counts.{greatest}
use Rattle.graph_walks.specs.History.{Node, generation_at, parents_at}
use Rattle.graph_walks.specs.declared.TheConstants.{GENERATION_NUMBER_MAX}

-- one more than the greatest generation number of the parents, 0 where there are none, up to the cap
unfoldable pub expected_generation : List Node → ℕ → ℕ
expected_generation history p = min GENERATION_NUMBER_MAX (1 + greatest (map (generation_at history) (parents_at history p)))

-- each stored generation number is the one that is expected
abbrev pub AreLocal : List Node → Type 0
AreLocal history = (p : ℕ) → p < length history → generation_at history p ≡ expected_generation history p

-- one less than the greatest of some generation numbers, 0 where there are none, and none where one is at the cap
abbrev pub longest_path : List ℕ → Option ℕ
longest_path numbers = if nat_lt (greatest numbers) GENERATION_NUMBER_MAX then Some (greatest numbers - 1) else None
