-- A hash table of numbers in an order: a slot has 0, or one more than the place of a number among them. For private contracts
-- alone.
use Rattle.std.specs.Prelude.{◌≡◌, ◌≢◌, ℕ, ◌+◌, ◌-◌, ◌^◌, ◌<◌, ◌≤◌, List, length, slice_index_or, slice_set, bit_and}
use Rattle.commit_search.specs.Marks.{Marked, IsMarked, AreBits, number_in}
use Rattle.commit_search.specs.declared.hash_table.TheConstants.{STEPS}

-- the slot of a table of so many, a power of two, in which n is looked for after so many steps
abbrev pub slot_in : ℕ → ℕ → ℕ → ℕ
slot_in slots n step = bit_and (n + step) (slots - 1)

-- what stands in that slot
abbrev pub looked_at : List ℕ → ℕ → ℕ → ℕ
looked_at table n step = slice_index_or table (slot_in (length table) n step) 0

-- Place p is found where n is looked for, as long as no slot is empty.
pub record StandsAt (table : List ℕ) (n p : ℕ) : Type 0 where
  pub step : ℕ
  pub few : step < STEPS
  pub here : looked_at table n step ≡ p + 1
  pub before : (k : ℕ) → k < step → looked_at table n k ≢ 0

-- The table has the place of each number of a list, and no other places.
pub record HasPlacesOf (table numbers : List ℕ) : Type 0 where
  pub few : length table < 2 ^ 32
  pub within : (i : ℕ) → slice_index_or table i 0 ≤ length numbers
  pub stand : (p : ℕ) → p < length numbers → StandsAt table (slice_index_or numbers p 0) p

-- The table has the place of each number that is marked, and no other places.
pub record AreFew (table : List ℕ) (marked : List Marked) : Type 0 where
  pub few : length table < 2 ^ 32
  pub within : (i : ℕ) → slice_index_or table i 0 ≤ length marked
  pub stand : (p : ℕ) → p < length marked → StandsAt table (number_in marked p) p

-- Numbers below a bound are marked: in a hash table as long as there are no bits, and then by the bits.
pub record AreHeld (bound : ℕ) (table bits : List ℕ) (marked : List Marked) : Type 0 where
  pub slots : length table < 2 ^ 32
  pub within : (n : ℕ) → IsMarked marked n → n < bound
  pub few : length bits ≡ 0 → AreFew table marked
  pub many : 0 < length bits → AreBits bound bits marked

-- Place p of n was put into an empty slot.
pub record Puts (old new : List ℕ) (n p : ℕ) : Type 0 where
  pub step : ℕ
  pub few : step < STEPS
  pub inside : slot_in (length old) n step < length old
  pub empty : looked_at old n step ≡ 0
  pub before : (k : ℕ) → k < step → looked_at old n k ≢ 0
  pub put : new ≡ slice_set old (slot_in (length old) n step) (p + 1)
