-- What `run_ask` answers.
use Rattle.std.specs.Prelude.{◌≡◌, ℕ, List, Option, Result}
use Rattle.std.specs.Io.KnownBytes.{Appends}
use Rattle.graph_commands.specs.declared.refusal.Refusal.{Refusal}
use Rattle.question_commands.specs.Asking.{Session, ask_checked, ask_status, ask_text}
use Rattle.question_commands.specs.declared.asking.Asked.{Asked}

-- the text of a session that may be is written, or the line of a refusal; and it is told how that ended
abbrev pub EndsAsked : (Result Session Refusal → Type 0) → Option (List ℕ) → Option (List ℕ) → Asked → Type 0
EndsAsked MayAsk old new asked =
    (answer : Result Session Refusal) × MayAsk answer × Appends old new (ask_text answer)
    × (asked.status ≡ ask_status answer) × (asked.checked ≡ ask_checked answer)
