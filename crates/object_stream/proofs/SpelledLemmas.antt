-- Digits that spell an id.
use Rattle.std.proofs.Common.{◌≡◌, ℕ, ◌<◌, List, ap, ◌∙◌}
use Rattle.std.specs.Prelude.{Option, Some, None, IfSome}
use Rattle.std.specs.List.{AllPass}
use Rattle.std.proofs.lemmas.List.Elements.{All-from_get_or}
use Rattle.hex.specs.Hex.{IsBytes, decode_of, encode_lower}
use Rattle.hex.proofs.HexLemmas.{decode_of-encode_lower, decode_of-ok, decode_of-same}
use Rattle.gix_hash_core.specs.Hexadecimal.{SpellsId}
use Rattle.object_stream.specs.BatchEntry.{is_lower_digit}
use Rattle.object_stream.specs.NextEntry.{IsExpected}
use Rattle.object_stream.proofs.TypedLineLemmas.{encode_lower-lower}

spelled_bytes : (text id : List ℕ) → SpellsId text id → IsBytes id
spelled_bytes text id spelled = (decode_of-ok text id spelled.1).3

-- the id that is expected is bytes
pub bytes_expected : (expected : Option (List ℕ)) (id own text : List ℕ) → expected ≡ Some id → own ≡ id → SpellsId text own
    → IfSome expected IsBytes
bytes_expected expected id own text is same spelled =
    let bytes : IsBytes id = rw same at (spelled_bytes text own spelled) in
    rw is bytes

-- its digits are lower-case ones
pub lower_spelled : (text own : List ℕ) → text ≡ encode_lower own → SpellsId text own → AllPass is_lower_digit text
lower_spelled text own same spelled =
    let bytes = spelled_bytes text own spelled in
    rw same (encode_lower-lower own (All-from_get_or (λ b. b < 256) own 0 (λ k within. bytes k)))

-- and no other id has them
pub own_expected : (expected : Option (List ℕ)) (digits id : List ℕ) → IsExpected expected digits → IfSome expected IsBytes
    → SpellsId digits id → IfSome expected (λ other. id ≡ other)
own_expected None digits id wanted bytes spelled = tt
own_expected (Some other) digits id wanted bytes spelled =
    decode_of-same digits id other spelled.1 (ap decode_of wanted ∙ decode_of-encode_lower other bytes)
