-- Questions about graphs, one a line: which graph stands at each, what may be told, and what is written of the whole.
use Rattle.std.specs.Prelude.{◌≡◌, ◌⊎◌, ℕ, ◌+◌, ◌^◌, ◌-◌, List, [], ◌∷◌, ◌++◌, Option, Result, Ok, Err}
use Rattle.std.specs.Prelude.{map, min, sum_by}
use Rattle.std.specs.List.{AllByRecursion, flat_map}
use Rattle.graph_folder.specs.declared.folder.ReadError.{ReadError}
use Rattle.graph_format.specs.Layer.{Layer}
use Rattle.graph_commands.specs.RefusalLines.{refusal_text, refusal_status}
use Rattle.graph_commands.specs.Text.{◌⧺◌, newline}
use Rattle.graph_commands.specs.declared.refusal.Refusal.{Refusal}
use Rattle.graph_history.specs.Reload.{StandAboveShared}
use Rattle.graph_layer.specs.declared.opening.error.OpenError.{OpenError}
use Rattle.history_commands.specs.Check.{MayRefuseToStart}
use Rattle.question_answers.specs.AnsweredLines.{MayBeTold, TellsStill}
use Rattle.question_answers.specs.ReadLines.{AreLinesOf}
use Rattle.question_answers.specs.Taken.{MayTake, end_status, end_text, taken_line}
use Rattle.question_commands.specs.ChangingTrees.{Openings}
use Rattle.question_lines.specs.Questions.{Asks}
use Rattle.question_lines.specs.declared.question.Question.TheVariants as question

-- The state between two lines: the graph that answers, how many reads of the folder's device have failed, and how many times
-- the path was opened anew.
pub record State : Type 0 where
  pub layers : List Layer
  pub failures : ℕ
  pub reloads : ℕ

-- A line, the state before it, what was told for it, the state after it, and how many commits were checked for it.
pub record Turn : Type 0 where
  pub line : List ℕ
  pub before : State
  pub told : List ℕ
  pub after : State
  pub checked : ℕ

-- the graph that stands then: the new one, or where that was refused the one that stood before
abbrev pub layers_after : List Layer → Result (List Layer) Refusal → List Layer
layers_after before (Ok layers) = layers
layers_after before (Err refusal) = before

-- so many commits are checked where a path is opened anew: those above the lowest layers that are the same in the graph that
-- stood and in the new one, byte for byte. Where the new one is refused, none is counted
abbrev pub AreChecked : List Layer → Result (List Layer) Refusal → ℕ → Type 0
AreChecked before (Ok layers) checked = StandAboveShared before layers checked
AreChecked before (Err refusal) checked = checked ≡ 0

-- a path is opened anew, its line is told, and so many commits are checked
abbrev pub OpensAnew : (Result (List Layer) OpenError → Type 0) → List Layer → List ℕ → ℕ → List Layer → Type 0
OpensAnew MayOpen before told checked after =
    (taken : Result (List Layer) Refusal) × MayTake MayOpen taken × (told ≡ taken_line taken)
    × (after ≡ layers_after before taken) × AreChecked before taken checked

-- that is done once more, over what stands at the path then
abbrev pub Reloads : Openings → State → List ℕ → ℕ → State → Type 0
Reloads MayOpen before told checked after =
    (after.reloads ≡ before.reloads + 1)
    × OpensAnew (MayOpen after.reloads before.failures after.failures) before.layers told checked after.layers

-- A turn may be so: what is told for the line may be told over the graph that stood, which stands on, and nothing is checked; or
-- the line asks that the path is opened anew.
abbrev pub MayTurn : Openings → Turn → Type 0
MayTurn MayOpen turn =
    (MayBeTold (TellsStill turn.before.layers) turn.before.failures turn.after.failures turn.line turn.told
    × (turn.after ≡ turn.before) × (turn.checked ≡ 0))
    ⊎ (Asks turn.line question.Reload × Reloads MayOpen turn.before turn.told turn.checked turn.after)

-- Turns lead from one state to another: each of them may be so, and the state before it is the one after the turn before it.
pub record AreTurns (MayOpen : Openings) (first last : State) (turns : List Turn) : Type 0 where
  pub allowed : AllByRecursion (MayTurn MayOpen) turns
  pub joined : map (λ turn. turn.before) turns ++ last ∷ [] ≡ first ∷ map (λ turn. turn.after) turns

-- how many commits are checked in some turns
abbrev pub commits_checked : List Turn → ℕ
commits_checked turns = sum_by (λ turn. turn.checked) turns

-- the same, as far as 64 bits hold it
abbrev pub all_checked : List Turn → ℕ
all_checked turns = min (commits_checked turns) (2 ^ 64 - 1)

-- the text of a turn: what was told, and an empty line
abbrev pub turn_text : Turn → List ℕ
turn_text turn = turn.told ⧺ newline

-- What was asked of a path: the graph that it opened, the turns, and why they ended, if not with the input.
pub record Session : Type 0 where
  pub opened : List Layer
  pub turns : List Turn
  pub failed : Option ReadError

-- the turns begin with the graph that the path opened, and end with some graph
abbrev pub IsSession : Openings → ℕ → ℕ → Option (List ℕ) → Option (List ℕ) → Session → Type 0
IsSession MayOpen old new input unread session =
    (opened : ℕ) × (last : State) × MayTake (MayOpen 0 old opened) (Ok session.opened)
    × AreTurns MayOpen (record { layers = session.opened; failures = opened; reloads = 0 }) last session.turns
    × (last.failures ≡ new) × AreLinesOf input unread (map (λ turn. turn.line) session.turns) session.failed

-- what may come of `ask`, in a call that took the count of failures from old to new, and left so much of the input unread; where
-- the graph is refused, nothing is read
abbrev pub MayAsk : Openings → ℕ → ℕ → Option (List ℕ) → Option (List ℕ) → Result Session Refusal → Type 0
MayAsk MayOpen old new input unread (Ok session) = IsSession MayOpen old new input unread session
MayAsk MayOpen old new input unread (Err refusal) = MayRefuseToStart (MayOpen 0 old new) refusal × (unread ≡ input)

-- the text of a session: the line of the graph and an empty one, the texts of the turns, and why they ended
abbrev pub session_text : Session → List ℕ
session_text session =
    taken_line (Ok session.opened) ⧺ newline ⧺ flat_map turn_text session.turns ⧺ end_text session.failed

-- the text of a session, or the line of a refusal
abbrev pub ask_text : Result Session Refusal → List ℕ
ask_text (Ok session) = session_text session
ask_text (Err refusal) = refusal_text refusal ⧺ newline

-- 0 where the input was answered whole, and else 1
abbrev pub ask_status : Result Session Refusal → ℕ
ask_status (Ok session) = end_status session.failed
ask_status (Err refusal) = refusal_status refusal

-- how many commits were checked after the first check
abbrev pub ask_checked : Result Session Refusal → ℕ
ask_checked (Ok session) = all_checked session.turns
ask_checked (Err refusal) = 0
