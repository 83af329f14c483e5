-- The commands of `graphtool`: which words ask for each (list | verify PATH | find PATH HEX | ancestor PATH HEX HEX |
-- distinct PATH), and what it may write.
use Rattle.std.specs.Prelude.{◌≡◌, ℕ, List, [], ◌∷◌, codes, Result, Option, IfSome}
use Rattle.graph_commands.specs.declared.command.Command.{Command}
use Rattle.graph_format.specs.Layer.{Layer}
use Rattle.graph_layer.specs.declared.opening.error.OpenError.{OpenError}
use Rattle.graph_commands.specs.Ancestor.{MayRelate, ancestor_text, ancestor_status}
use Rattle.graph_commands.specs.CheckAnswers.{MayVerify, MayVerifyDistinct, verify_text, verify_status}
use Rattle.graph_commands.specs.Find.{MayFind, find_text, find_status}
use Rattle.graph_commands.specs.List.{MayList, list_text, list_status}
use Rattle.graph_commands.specs.WrittenAnswer.{WritesAnswer}
use Rattle.graph_commands.specs.declared.command.Command.TheVariants as command

-- the words of a command
abbrev pub graphtool_words : Command → List (List ℕ)
graphtool_words command.List = codes "list" ∷ []
graphtool_words (command.Verify path) = codes "verify" ∷ path.now ∷ []
graphtool_words (command.Find path hex) = codes "find" ∷ path.now ∷ hex.now ∷ []
graphtool_words (command.Ancestor path first second) = codes "ancestor" ∷ path.now ∷ first.now ∷ second.now ∷ []
graphtool_words (command.Distinct path) = codes "distinct" ∷ path.now ∷ []

-- the words of a command line ask for this command; the first of them is the program's own name
abbrev pub AskGraphtool : List (List ℕ) → Command → Type 0
AskGraphtool words asked = (name : List ℕ) × (words ≡ name ∷ graphtool_words asked)

-- an answer that the command may give is written, with its status: `list` answers of the input, where that is known, and leaves
-- the folder alone; each other command answers of what the opener may answer at its path, while the count of failures goes from
-- `before` to `after`
abbrev pub GraphtoolMayWrite : Command → Option (List ℕ) → Option (List ℕ) → Type 0
    → (List ℕ → ℕ → ℕ → Result (List Layer) OpenError → Type 0) → ℕ → ℕ → Option (List ℕ) → Option (List ℕ) → ℕ → Type 0
GraphtoolMayWrite command.List known unread IsLeftAlone MayOpenAt before after old new status =
    IsLeftAlone × IfSome known (λ input. WritesAnswer list_text list_status (MayList input) old new status)
GraphtoolMayWrite (command.Verify path) known unread IsLeftAlone MayOpenAt before after old new status =
    WritesAnswer verify_text verify_status (MayVerify (MayOpenAt path.now before after)) old new status
GraphtoolMayWrite (command.Find path hex) known unread IsLeftAlone MayOpenAt before after old new status =
    WritesAnswer find_text find_status (MayFind hex.now IsLeftAlone (MayOpenAt path.now before after)) old new status
GraphtoolMayWrite (command.Ancestor path first second) known unread IsLeftAlone MayOpenAt before after old new status =
    WritesAnswer ancestor_text ancestor_status
    (MayRelate first.now second.now IsLeftAlone (MayOpenAt path.now before after)) old new status
GraphtoolMayWrite (command.Distinct path) known unread IsLeftAlone MayOpenAt before after old new status =
    WritesAnswer verify_text verify_status (MayVerifyDistinct (MayOpenAt path.now before after)) old new status
