-- texts made of pieces
use Rattle.std.specs.Prelude.{ℕ, List, ◌++◌, codes}

-- a, and then b; it groups to the right, as the pieces of a line do
infixr 65 ◌⧺◌
abbrev pub ◌⧺◌ : List ℕ → List ℕ → List ℕ
a ⧺ b = a ++ b

-- the end of a line
abbrev pub newline : List ℕ
newline = codes "\n"
