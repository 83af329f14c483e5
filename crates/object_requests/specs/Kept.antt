-- How requests are kept. For the invariant of their type alone.
use Rattle.std.specs.Prelude.{◌≡◌, ◌+◌, ◌≤◌, ℕ, List, Contains, Some, length, slice_get}
use Rattle.std.specs.Option.{MatchOption}
use Rattle.std.specs.Ordering.{nat_cmp}
use Rattle.std.specs.Cmp.Lexicographic.{slice_cmp}
use Rattle.std.specs.BTreeMap as tree
use Rattle.object_requests.specs.Asked.{AreEachOnce, most_waiting}

-- the map has the number of each id, and of no other
abbrev pub AreRequestNumbers : tree.BTreeMap (List ℕ) ℕ → List (List ℕ) → Type 0
AreRequestNumbers numbers ids =
    (id : List ℕ) → MatchOption (tree.get (slice_cmp nat_cmp) numbers id) (¬ Contains ids id)
    (λ i. slice_get ids i ≡ Some id)

-- What holds of the ids as they are kept.
pub record AreKept (asked : List (List ℕ)) (taken : ℕ) (numbers : tree.BTreeMap (List ℕ) ℕ) : Type 0 where
  pub within : taken ≤ length asked
  pub few : length asked ≤ taken + most_waiting
  pub distinct : AreEachOnce asked
  pub numbered : AreRequestNumbers numbers asked
