-- Whether a text spells an id, once it was read or was not.
use Rattle.std.proofs.Common.{◌≡◌, ◌≢◌, ℕ, true, false, List, length, bytes_eq, refl, arith}
use Rattle.std.specs.Prelude.{◌==◌, ◌||◌, Result, Ok, Err}
use Rattle.std.proofs.lemmas.Bool.Decides.{nat_tests}
use Rattle.hex.proofs.HexLemmas.{decode_of-ok}
use Rattle.hex.specs.Hex.{decode_of}
use Rattle.hex.specs.declared.error.FromHexError.{FromHexError}
use Rattle.gix_hash_core.specs.Hexadecimal.{SpellsId, SpellsNone, IsHexLen, is_decoded, spells_id}
use Rattle.gix_hash_core.specs.declared.object_id.IdError.{IdError}
use Rattle.gix_hash_core.specs.declared.object_id.IdError.TheVariants.{Length, Digit}

sized-yes : (n : ℕ) → IsHexLen n → ((n == 40) || (n == 64)) ≡ true
sized-yes n h = grind (arith, nat_tests)

sized-no : (n : ℕ) → ¬ (IsHexLen n) → ((n == 40) || (n == 64)) ≡ false
sized-no n h = grind (arith, nat_tests)

-- a text that was read spells that id alone
pub spells_id-read : (text id spelled : List ℕ) → SpellsId text spelled → spells_id text id ≡ bytes_eq spelled id
unfolding spells_id
spells_id-read text id spelled h = rw (sized-yes (length text) h.0, h.1) refl

undecoded : (id : List ℕ) (r : Result (List ℕ) FromHexError) → ((bytes : List ℕ) → r ≢ Ok bytes) → is_decoded id r ≡ false
undecoded id (Ok bytes) never = absurd (never bytes refl)
undecoded id (Err e) never = refl

-- a text that was not read spells none
pub spells_id-unread : (text id : List ℕ) (error : IdError) → SpellsNone text error → spells_id text id ≡ false
unfolding spells_id
spells_id-unread text id Length h = rw (sized-no (length text) h) refl
spells_id-unread text id Digit h =
    rw (sized-yes (length text) h.0, undecoded id (decode_of text) (λ bytes ok. h.1 (decode_of-ok text bytes ok).1)) refl
