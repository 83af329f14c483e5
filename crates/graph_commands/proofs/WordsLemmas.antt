-- From the words of a pattern to all words of a command line.
use Rattle.std.proofs.Common.{◌≡◌, ◌<◌, ◌≤◌, List, [], ◌∷◌, length, map, get_or, string_bytes, arith}
use Rattle.std.specs.Prelude.{String}
use Rattle.std.specs.Global.{Global}

-- so many words and no more
pub are_two : (words : List (String Global)) (b : String Global)
    → 2 ≤ length words → length words < 3 → b ≡ get_or words 1 b
    → map string_bytes words ≡ string_bytes (get_or words 0 b) ∷ string_bytes b ∷ []
are_two [] b least below second = absurd (omega arith)
are_two (w ∷ []) b least below second = absurd (omega arith)
are_two (w ∷ x ∷ []) b least below second = cc
are_two (w ∷ x ∷ y ∷ more) b least below second = absurd (omega arith)

pub are_three : (words : List (String Global)) (b c : String Global)
    → 3 ≤ length words → length words < 4 → b ≡ get_or words 1 b → c ≡ get_or words 2 c
    → map string_bytes words ≡ string_bytes (get_or words 0 b) ∷ string_bytes b ∷ string_bytes c ∷ []
are_three [] b c least below second third = absurd (omega arith)
are_three (w ∷ []) b c least below second third = absurd (omega arith)
are_three (w ∷ x ∷ []) b c least below second third = absurd (omega arith)
are_three (w ∷ x ∷ y ∷ []) b c least below second third = cc
are_three (w ∷ x ∷ y ∷ z ∷ more) b c least below second third = absurd (omega arith)

pub are_four : (words : List (String Global)) (b c d : String Global)
    → 4 ≤ length words → length words < 5 → b ≡ get_or words 1 b → c ≡ get_or words 2 c → d ≡ get_or words 3 d
    → map string_bytes words ≡ string_bytes (get_or words 0 b) ∷ string_bytes b ∷ string_bytes c ∷ string_bytes d ∷ []
are_four [] b c d least below second third fourth = absurd (omega arith)
are_four (w ∷ []) b c d least below second third fourth = absurd (omega arith)
are_four (w ∷ x ∷ []) b c d least below second third fourth = absurd (omega arith)
are_four (w ∷ x ∷ y ∷ []) b c d least below second third fourth = absurd (omega arith)
are_four (w ∷ x ∷ y ∷ z ∷ []) b c d least below second third fourth = cc
are_four (w ∷ x ∷ y ∷ z ∷ v ∷ more) b c d least below second third fourth = absurd (omega arith)

pub are_five : (words : List (String Global)) (b c d e : String Global)
    → 5 ≤ length words → length words < 6 → b ≡ get_or words 1 b → c ≡ get_or words 2 c → d ≡ get_or words 3 d
    → e ≡ get_or words 4 e
    → map string_bytes words
    ≡ string_bytes (get_or words 0 b) ∷ string_bytes b ∷ string_bytes c ∷ string_bytes d ∷ string_bytes e ∷ []
are_five [] b c d e least below second third fourth fifth = absurd (omega arith)
are_five (w ∷ []) b c d e least below second third fourth fifth = absurd (omega arith)
are_five (w ∷ x ∷ []) b c d e least below second third fourth fifth = absurd (omega arith)
are_five (w ∷ x ∷ y ∷ []) b c d e least below second third fourth fifth = absurd (omega arith)
are_five (w ∷ x ∷ y ∷ z ∷ []) b c d e least below second third fourth fifth = absurd (omega arith)
are_five (w ∷ x ∷ y ∷ z ∷ v ∷ []) b c d e least below second third fourth fifth = cc
are_five (w ∷ x ∷ y ∷ z ∷ v ∷ u ∷ more) b c d e least below second third fourth fifth = absurd (omega arith)
