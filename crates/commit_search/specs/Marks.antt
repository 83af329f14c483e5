-- Numbers that are marked, in the order in which they were. For private contracts alone.
use Rattle.std.specs.Prelude.{◌≡◌, ◌↔◌, ℕ, ◌*◌, ◌/◌, ◌%◌, ◌<◌, ◌≤◌, List, [], length, slice_get, slice_index_or}
use Rattle.std.specs.Int.{bit_at}
use Rattle.std.specs.Option.{option_map_or}
pub use Rattle.commit_search.specs.declared.marks.Marked.{Marked}

-- Marks of numbers below a bound.
pub record Marking : Type 0 where
  pub bound : ℕ
  pub marked : List Marked

-- the number that was marked after i others
abbrev pub number_in : List Marked → ℕ → ℕ
number_in marked i = option_map_or (λ e. e.number) (slice_get marked i) 0

-- its mark
abbrev pub mark_in : List Marked → ℕ → ℕ
mark_in marked i = option_map_or (λ e. e.mark) (slice_get marked i) 0

-- n is marked
abbrev pub IsMarked : List Marked → ℕ → Type 0
IsMarked marked n = (i : ℕ) × (i < length marked) × (number_in marked i ≡ n)

-- the bit of a number in a table that has 64 in a word, 0 past the last one
abbrev pub bit_of : List ℕ → ℕ → ℕ
bit_of bits n = bit_at (slice_index_or bits (n / 64) 0) (n % 64)

-- what a table of bits, and the numbers that are marked there, stand for
abbrev pub marking_of : List ℕ → List Marked → Marking
marking_of bits marked = record { bound = 64 * length bits; marked = marked }

-- The numbers are those whose bit is set in the table.
pub record AreMarks (bits : List ℕ) (marked : List Marked) : Type 0 where
  pub within : (n : ℕ) → IsMarked marked n → n < 64 * length bits
  pub those : (n : ℕ) → (bit_of bits n ≡ 1) ↔ IsMarked marked n

-- The table has a bit for each number below a bound, set for those that are marked.
pub record AreBits (bound : ℕ) (bits : List ℕ) (marked : List Marked) : Type 0 where
  pub some : 0 < length bits
  pub room : bound ≤ 64 * length bits
  pub marks : AreMarks bits marked

-- Marks for each layer: which numbers are marked there, and the bound of those that may be; none past the last ones.
abbrev pub marked_at : List Marking → ℕ → List Marked
marked_at layers l = option_map_or (λ m. m.marked) (slice_get layers l) []

abbrev pub bound_at : List Marking → ℕ → ℕ
bound_at layers l = option_map_or (λ m. m.bound) (slice_get layers l) 0
