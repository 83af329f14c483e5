-- Numbers in the order in which they were added.
use Rattle.std.specs.Prelude.{◌≡◌, ℕ, ◌<◌, List, length, slice_index_or}

-- n is one of the numbers
abbrev pub IsListed : List ℕ → ℕ → Type 0
IsListed numbers n = (p : ℕ) × (p < length numbers) × (slice_index_or numbers p 0 ≡ n)
