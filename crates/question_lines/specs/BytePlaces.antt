-- For private contracts: where a byte is.
use Rattle.std.specs.Prelude.{◌≡◌, ◌<◌, ◌==◌, ℕ, List, All, false, length, slice_index, take}

-- none of the bytes is this one
abbrev pub HasNone : ℕ → List ℕ → Type 0
HasNone byte bytes = All (λ found. (found == byte) ≡ false) bytes

-- it is at this place, and at none before
abbrev pub IsFirstPlace : ℕ → List ℕ → ℕ → Type 0
IsFirstPlace byte bytes place = (place < length bytes) × HasNone byte (take place bytes) × (slice_index bytes place ≡ byte)
