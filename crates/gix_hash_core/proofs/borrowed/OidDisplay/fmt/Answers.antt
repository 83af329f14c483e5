-- The digits of an id are text.
use Rattle.gix_hash_core.proofs.HexText.{IsUtf8-encode_lower, passes_from_cases}
use Rattle.gix_hash_core.proofs.borrowed.OidDisplay.fmt.Goals as goal

pub unwrap-requires-2 : goal.unwrap-requires-2
unwrap-requires-2 g c =
    let digits = rw c.unwrap.ensures at c.encode_to_slice.ensures.written in
    passes_from_cases _ _ _ c.from_utf8.ensures.cases (rw digits (IsUtf8-encode_lower _))
