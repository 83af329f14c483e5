-- Lists that stand one after another, each known by where it ends. For the invariant of a type alone.
use Rattle.std.specs.Prelude.{◌≡◌, ℕ, zero, suc, ◌<◌, ◌≤◌, List, length, slice_index}

-- where the list of this number begins
unfoldable pub start_in : List ℕ → ℕ → ℕ
start_in ends zero = 0
start_in ends (suc i) = slice_index ends i

-- Each list ends no earlier than it begins, and within the whole; the last one ends where the whole does.
pub record HasEnds (positions ends : List ℕ) : Type 0 where
  pub rising : (i : ℕ) → i < length ends → start_in ends i ≤ slice_index ends i
  pub within : (i : ℕ) → i < length ends → slice_index ends i ≤ length positions
  pub closed : start_in ends (length ends) ≡ length positions
