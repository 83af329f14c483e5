-- Which lines of an input were read.
use Rattle.std.specs.Prelude.{◌≡◌, ◌≢◌, ℕ, List, ◌++◌, Option, Some, None, ⊤, IfSome}
use Rattle.std.specs.Io.KnownBytes.{IsAtEnd}
use Rattle.std.specs.Str.Lines.{lines}
use Rattle.graph_folder.specs.declared.folder.ReadError.{ReadError}
use Rattle.graph_folder.specs.declared.folder.ReadError.TheVariants.{NotOpened}

-- these are the lines of the input, all of which was read; or where a read failed, its first lines. (NotOpened is no failure of a
-- read.)
abbrev pub AreLinesOf : Option (List ℕ) → Option (List ℕ) → List (List ℕ) → Option ReadError → Type 0
AreLinesOf input unread asked None = IfSome input (λ bytes. (lines bytes ≡ asked) × IsAtEnd unread)
AreLinesOf input unread asked (Some error) =
    (error ≢ NotOpened) × IfSome input (λ bytes. (rest : List (List ℕ)) × (lines bytes ≡ asked ++ rest))

-- these lines of known bytes were read, and these bytes are left
abbrev pub HasRead : Option (List ℕ) → Option (List ℕ) → List (List ℕ) → Type 0
HasRead None left asked = ⊤
HasRead (Some bytes) None asked = ⊥
HasRead (Some bytes) (Some left) asked = lines bytes ≡ asked ++ lines left
