-- The digits of ids: they are text, and spell the id.
use Rattle.std.proofs.Common.{◌≡◌, ◌*◌, ℕ, List, IsTrue, nat_lt, length, refl, arith}
use Rattle.std.proofs.lemmas.Bool.{ltb-true}
use Rattle.std.proofs.lemmas.List.Sums.{AllPass-from_list_all}
use Rattle.std.proofs.lemmas.Str.{IsUtf8-from_ascii}
use Rattle.std.proofs.lemmas.Str.Ascii.{IsAscii-from_reads}
use Rattle.std.specs.Prelude.{Result, Ok, Err, IsOk, MatchResult}
use Rattle.std.specs.Str.{IsAscii, IsUtf8}
use Rattle.hex.specs.Hex.{encode_lower, lower_digits}
use Rattle.hex.proofs.HexLemmas.{IsAscii-encode_with, decode_of-encode_lower, length-encode_with}
use Rattle.gix_hash_core.specs.Hexadecimal.{IsHexLen}
use Rattle.gix_hash_core.specs.Kind.{is_id_len}
use Rattle.gix_hash_core.specs.IdLaws.{IsReadBack}

IsAscii-lower_digits : IsAscii lower_digits
IsAscii-lower_digits =
    let each = AllPass-from_list_all (λ c. nat_lt c 128) lower_digits refl in
    IsAscii-from_reads lower_digits 16 (omega arith) (λ k inside. ltb-true _ _ (each k 0 inside))

-- the digits of any bytes are UTF-8
pub IsUtf8-encode_lower : (bytes : List ℕ) → IsUtf8 (encode_lower bytes)
IsUtf8-encode_lower bytes =
    IsUtf8-from_ascii (encode_lower bytes) (IsAscii-encode_with lower_digits bytes IsAscii-lower_digits)

-- a test that refuses no text passes
pub passes_from_cases : {T E : Type 0} {bytes : List ℕ} (r : Result T E) (P : T → Type 0) (Q : E → Type 0)
    → MatchResult r P (λ e. ¬ IsUtf8 bytes × Q e) → IsUtf8 bytes → IsOk r
passes_from_cases (Ok x) P Q cases text = refl
passes_from_cases (Err e) P Q cases text = absurd (cases.0 text)

-- two digits for each byte are as many as a text of an id has
IsHexLen-twice : (n digits : ℕ) → IsTrue (is_id_len n) → digits ≡ 2 * n → IsHexLen digits
IsHexLen-twice n digits sized twice = grind (arith)

-- the digits of an id spell that id
pub is_read_back : (id : List ℕ) → IsReadBack id
is_read_back id sized bytes = (
  IsHexLen-twice (length id) _ sized (length-encode_with lower_digits id),
  decode_of-encode_lower id bytes,
)
