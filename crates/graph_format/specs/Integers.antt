-- the integers in a chunk, counted from its start: unsigned and big-endian
use Rattle.std.specs.Prelude.{ℕ, ◌+◌, ◌*◌, List, slice_range}
use Rattle.std.specs.Int.{w32, w64, from_be_bytes}

-- integer i of four bytes
abbrev pub word_in : List ℕ → ℕ → ℕ
word_in bytes i = from_be_bytes w32 (slice_range bytes (4 * i) (4 * i + 4))

-- integer i of eight bytes
abbrev pub long_in : List ℕ → ℕ → ℕ
long_in bytes i = from_be_bytes w64 (slice_range bytes (8 * i) (8 * i + 8))
