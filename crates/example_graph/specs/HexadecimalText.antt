-- Bytes as hexadecimal text.
use Rattle.std.specs.Prelude.{ℕ, List, [], Result, Ok, Err}
use Rattle.hex.specs.Hex.{decode_of}

-- the bytes, none where there is an error
abbrev pub or_no_bytes : {E : Type 0} → Result (List ℕ) E → List ℕ
or_no_bytes (Ok bytes) = bytes
or_no_bytes (Err _) = []

-- the bytes that a text spells, two digits each
unfoldable pub hex : List ℕ → List ℕ
hex text = or_no_bytes (decode_of text)
