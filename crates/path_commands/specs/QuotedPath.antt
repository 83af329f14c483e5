-- A path in quotes (git-config, "core.quotePath").
use Rattle.std.specs.Prelude.{ℕ, ◌/◌, ◌%◌, ◌==◌, ◌||◌, nat_lt, if◌then◌else◌, List, [], ◌∷◌, codes, decimal}
use Rattle.std.specs.List.{flat_map}
use Rattle.graph_commands.specs.Text.{◌⧺◌}

-- the character that stands for a byte behind a backslash: a letter for some control characters, and a quote and a backslash
-- for themselves; 0 where none does
unfoldable pub escape_letter : ℕ → ℕ
escape_letter byte =
    if byte == 7 then 97
    else if byte == 8 then 98
    else if byte == 9 then 116
    else if byte == 10 then 110
    else if byte == 11 then 118
    else if byte == 12 then 102
    else if byte == 13 then 114
    else if byte == 34 || byte == 92 then byte
    else 0

-- a byte as it stands between quotes: behind a backslash that character, or three octal digits where the byte is no printable
-- character of ASCII; else itself
abbrev pub quoted_byte : ℕ → List ℕ
quoted_byte byte =
    if escape_letter byte == 0 then (
    if nat_lt byte 32 || nat_lt 126 byte then codes "\\" ⧺ decimal (byte / 64) ⧺ decimal (byte / 8 % 8) ⧺ decimal (byte % 8)
    else byte ∷ []
    )
    else codes "\\" ⧺ escape_letter byte ∷ []

abbrev pub quoted_path : List ℕ → List ℕ
quoted_path path = codes "\"" ⧺ flat_map quoted_byte path ⧺ codes "\""
