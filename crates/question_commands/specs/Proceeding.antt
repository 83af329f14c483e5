-- For private contracts: how far lines were read and answered.
use Rattle.std.specs.Prelude.{◌≡◌, ℕ, List, Option, map}
use Rattle.std.specs.Io.KnownBytes.{Appends}
use Rattle.std.specs.List.{flat_map}
use Rattle.question_commands.specs.Asking.{AreTurns, State, Turn, commits_checked, turn_text}
use Rattle.question_answers.specs.ReadLines.{HasRead}
use Rattle.question_commands.specs.ChangingTrees.{Openings}

-- some turns lead from one state to another; their lines were read, their texts were written, and so many commits were checked
abbrev pub Proceeds : Openings → State → State → Option (List ℕ) → Option (List ℕ) → Option (List ℕ) → Option (List ℕ) → ℕ
    → Type 0
Proceeds MayOpen first last input left old new checked =
    (turns : List Turn) × AreTurns MayOpen first last turns × HasRead input left (map (λ turn. turn.line) turns)
    × Appends old new (flat_map turn_text turns) × (checked ≡ commits_checked turns)
