-- the order of ids and the fan that counts them: "OID Lookup" and "OID Fanout"
use Rattle.std.specs.Prelude.{◌≡◌, ℕ, ◌<◌, List, AllPairs, count_by, nat_le, slice_index}
use Rattle.std.specs.Ordering.{nat_cmp}
use Rattle.std.specs.Cmp.Lexicographic.{slice_cmp}
use Rattle.std.specs.declared.cmp.Ordering.TheVariants.{Less}

-- each id is less than every later one, as lists of bytes are ordered
abbrev pub AreAscending : List (List ℕ) → Type 0
AreAscending ids = AllPairs (λ id later. slice_cmp nat_cmp id later ≡ Less) ids

-- the fan is exact: at each byte it has the number of ids whose first byte is at most that byte
abbrev pub IsExactFan : List ℕ → List (List ℕ) → Type 0
IsExactFan fan ids = (byte : ℕ) → byte < 256 → slice_index fan byte ≡ count_by (λ id. nat_le (slice_index id 0) byte) ids
