-- what the lookup of an id answers: "OID Lookup" and "OID Fanout"
use Rattle.std.specs.Prelude.{◌≡◌, ℕ, ◌-◌, ◌==◌, List, length, Option, Some, option_map, if◌then◌else◌, IfSome, position}
use Rattle.std.specs.Prelude.{bytes_eq, slice_get, slice_index}
use Rattle.std.specs.Int.Digits.{digits_of}
use Rattle.graph_format.specs.Layer.{Layer}
use Rattle.graph_format.specs.Order.{AreAscending, IsExactFan}
use Rattle.graph_format.specs.declared.file.Position.{Position}

-- a plain scan: the least position whose id equals the id
unfoldable pub scan : List (List ℕ) → List ℕ → Option ℕ
scan ids id = position (bytes_eq id) ids

-- An answer to the lookup of an id in a layer.
pub record Found (layer : Layer) (id : List ℕ) (answer : Option ℕ) : Type 0 where
  -- a position, if there is one, holds the id
  pub holds : IfSome answer (λ pos. slice_get layer.ids pos ≡ Some id)
  -- where the ids ascend under an exact fan, a plain scan answers the same
  pub scanned : AreAscending layer.ids → IsExactFan layer.fan layer.ids → answer ≡ scan layer.ids id

-- a position of a layer as a number
abbrev pub file_position_number : Option Position → Option ℕ
file_position_number pos = option_map (λ p. p.0) pos

-- the bucket of a byte: the positions from this one up to but not including the number that the fan has at the byte
abbrev pub bucket_start : List ℕ → ℕ → ℕ
bucket_start fan byte = if byte == 0 then 0 else slice_index fan (byte - 1)

-- how many positions the bucket has
abbrev pub bucket_size : List ℕ → ℕ → ℕ
bucket_size fan byte = slice_index fan byte - bucket_start fan byte

-- how many digits a number has in binary, none for 0
unfoldable pub digits : ℕ → ℕ
digits n = length (digits_of 2 n)
