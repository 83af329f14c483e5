-- What a command may tell to one question for which newer commits are asked for, for the texts of its ids.
use Rattle.std.specs.Prelude.{◌≡◌, ◌⊎◌, ℕ, List, [], Option, Some, None, Result, Ok, Err}
use Rattle.std.specs.Io.KnownBytes.{Keeps}
use Rattle.std.specs.List.{AllZip}
use Rattle.gix_hash_core.specs.Hexadecimal.{SpellsId}
use Rattle.graph_format.specs.Layer.{Layer}
use Rattle.graph_layer.specs.declared.opening.error.OpenError.{OpenError}
use Rattle.gix_commitgraph.specs.Sound.{Sound}
use Rattle.graph_commands.specs.declared.refusal.Refusal.{Refusal}
use Rattle.history_commands.specs.AskedOnce.{MayNotReadTexts}
use Rattle.history_commands.specs.Check.{MayRefuseToStart}
use Rattle.question_lines.specs.Questions.{question_ids, question_name}
use Rattle.question_lines.specs.declared.question.Name.{Name}
use Rattle.question_lines.specs.declared.question.Question.{Question}
use Rattle.newer_commands.specs.AskedReply.{AskedReply}
use Rattle.newer_commands.specs.RepliesOnTop.{MayTellOver}
use Rattle.newer_commands.specs.declared.refusal.NewerRefusal.TheVariants.{Common}

-- nothing is asked for, and this refusal is told, which comes without newer commits too
abbrev pub IsRefusedAtOnce : Refusal → AskedReply → Type 0
IsRefusedAtOnce refusal told = (told.asked ≡ []) × (told.verdict ≡ Err (Common refusal))

-- the graph below: none without a path, and the folder is left alone; else a right one that the opener may give at the path
abbrev pub IsGraphAt : Option (List ℕ) → Type 0 → (List ℕ → Result (List Layer) OpenError → Type 0) → List Layer → Type 0
IsGraphAt None IsLeftAlone MayOpenAt layers = IsLeftAlone × (layers ≡ [])
IsGraphAt (Some path) IsLeftAlone MayOpenAt layers = MayOpenAt path (Ok layers) × Sound layers

-- why there is no right graph at the path, if there is a path
abbrev pub IsRefusedAt : Option (List ℕ) → (List ℕ → Result (List Layer) OpenError → Type 0) → Refusal → Type 0
IsRefusedAt None MayOpenAt refusal = ⊥
IsRefusedAt (Some path) MayOpenAt refusal = MayRefuseToStart (MayOpenAt path) refusal

-- what may be told to a question, given what the opener may answer, and what the reader has before and after, where that is
-- known: why there is no right graph at the path, before anything is read; or what may be told over that graph, or over none
abbrev pub MayReplyNewer : Option (List ℕ) → Type 0 → (List ℕ → Result (List Layer) OpenError → Type 0)
    → Option (List ℕ) → Option (List ℕ) → Question → AskedReply → Type 0
MayReplyNewer path IsLeftAlone MayOpenAt before after asked told =
    ((refusal : Refusal) × IsRefusedAt path MayOpenAt refusal × IsRefusedAtOnce refusal told × Keeps before after)
    ⊎ ((layers : List Layer) × IsGraphAt path IsLeftAlone MayOpenAt layers × MayTellOver layers before asked told)

-- what may be told to the question of a name about the ids that texts spell: what is told to the question; or why the texts are
-- not read, where all is left as it was: nothing is opened, asked for or read
abbrev pub MayAskNewer : Name → List (List ℕ) → Type 0 → (Question → AskedReply → Type 0) → AskedReply → Type 0
MayAskNewer name texts IsLeftAlone MayReply told =
    ((asked : Question) × (question_name asked ≡ name) × AllZip SpellsId texts (question_ids asked) × MayReply asked told)
    ⊎ ((refusal : Refusal) × MayNotReadTexts name texts (Err refusal) × IsRefusedAtOnce refusal told × IsLeftAlone)
