-- what it means that a command writes its answer
use Rattle.std.specs.Prelude.{◌≡◌, ℕ, List, Option, Result, Ok, Err}
use Rattle.std.specs.Io.KnownBytes.{Appends}
use Rattle.graph_commands.specs.declared.refusal.Refusal.{Refusal}
use Rattle.graph_commands.specs.declared.refusal.Refusal.TheVariants.{Walk}
use Rattle.graph_commands.specs.RefusalLines.{refusal_text, refusal_status}
use Rattle.graph_commands.specs.Text.{◌⧺◌, newline}

-- the text of some answer that may be given is written, and the status is the answer's
abbrev pub WritesAnswer : {A : Type 0} → (A → List ℕ) → (A → ℕ) → (A → Type 0)
    → Option (List ℕ) → Option (List ℕ) → ℕ → Type 0
WritesAnswer {A = A} text_of status_of MayAnswer old new status =
    (answer : A) × MayAnswer answer × Appends old new (text_of answer) × (status ≡ status_of answer)

-- the line of a refusal is written, and the status is the refusal's
abbrev pub WritesRefusal : Refusal → Option (List ℕ) → Option (List ℕ) → ℕ → Type 0
WritesRefusal refusal old new status = Appends old new (refusal_text refusal ⧺ newline) × (status ≡ refusal_status refusal)

-- one line is written that says why there is no answer, and the status is 2
abbrev pub Complains : List ℕ → Option (List ℕ) → Option (List ℕ) → ℕ → Type 0
Complains line old new status = Appends old new (line ⧺ newline) × (status ≡ 2)

-- For private contracts: what is told is what was found, or where memory may be needed to write that, that there is none
abbrev pub IsToldOf : {A : Type 0} → (A → Type 0) → A → Result A Refusal → Type 0
IsToldOf NeedsMemory found (Ok told) = told ≡ found
IsToldOf NeedsMemory found (Err refusal) = (refusal ≡ Walk) × NeedsMemory found
