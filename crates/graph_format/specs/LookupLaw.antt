-- what it means to be the first position of an id, and the number of binary digits of a number
use Rattle.std.specs.Prelude.{◌≡◌, ◌≢◌, ℕ, ◌^◌, ◌<◌, ◌≤◌, List, Option, Some, MatchOption, slice_get}

-- the position holds the id and none before it does, or no position does
abbrev pub IsFirst : List (List ℕ) → List ℕ → Option ℕ → Type 0
IsFirst ids id answer =
    MatchOption answer ((i : ℕ) → slice_get ids i ≢ Some id)
    (λ pos. (slice_get ids pos ≡ Some id) × ((i : ℕ) → i < pos → slice_get ids i ≢ Some id))

-- So many binary digits write the number, and no fewer do.
pub record IsDigitCount (n count : ℕ) : Type 0 where
  pub enough : n < 2 ^ count
  pub needed : (fewer : ℕ) → n < 2 ^ fewer → count ≤ fewer
