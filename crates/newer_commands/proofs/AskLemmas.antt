-- From what is told to a question to what a command may tell.
use Rattle.std.proofs.Common.{◌≡◌, ℕ, List, [], Option, Some, None, inl, inr, refl}
use Rattle.std.proofs.KnownBytes.{Keeps-refl}
use Rattle.std.specs.Prelude.{Result, Ok, Err, IfOk}
use Rattle.std.specs.List.{AllZip}
use Rattle.gix_hash_core.specs.Hexadecimal.{SpellsId}
use Rattle.graph_format.specs.Layer.{Layer}
use Rattle.graph_layer.specs.declared.opening.error.OpenError.{OpenError}
use Rattle.gix_commitgraph.specs.Sound.{Sound}
use Rattle.answer_lines.specs.declared.reply.Form.{Form}
use Rattle.graph_commands.specs.WrittenAnswer.{WritesAnswer}
use Rattle.graph_commands.specs.declared.refusal.Refusal.{Refusal}
use Rattle.history_commands.specs.AskedOnce.{MayNotReadTexts}
use Rattle.history_commands.specs.Check.{MayRefuseToStart}
use Rattle.question_lines.specs.Questions.{question_ids, question_name}
use Rattle.question_lines.specs.declared.question.Name.{Name}
use Rattle.question_lines.specs.declared.question.Question.{Question}
use Rattle.newer_commands.specs.AskedNewer.{IsRefusedAtOnce, MayAskNewer, MayReplyNewer}
use Rattle.newer_commands.specs.AskedReply.{AskedReply, asked_status, asked_text}
use Rattle.newer_commands.specs.RepliesOnTop.{MayTellOver}

-- the texts spell the ids of a question
pub asks_newer : {E : Type 0} (result : Result ℕ E) (form : Form) (old new : Option (List ℕ)) (name : Name)
    (texts : List (List ℕ)) (IsLeftAlone : Type 0) (MayReply : Question → AskedReply → Type 0) (asked : Question)
    → question_name asked ≡ name → AllZip SpellsId texts (question_ids asked)
    → IfOk result (WritesAnswer (asked_text form) asked_status (MayReply asked) old new)
    → IfOk result (WritesAnswer (asked_text form) asked_status (MayAskNewer name texts IsLeftAlone MayReply) old new)
asks_newer (Err failed) form old new name texts IsLeftAlone MayReply asked named spelled told = tt
asks_newer (Ok status) form old new name texts IsLeftAlone MayReply asked named spelled told =
    (told.0, inl (asked, named, spelled, told.1), told.2, told.3)

-- the texts are not read
pub texts_refused : {E : Type 0} (result : Result ℕ E) (form : Form) (old new : Option (List ℕ)) (name : Name)
    (texts : List (List ℕ)) (IsLeftAlone : Type 0) (MayReply : Question → AskedReply → Type 0) (refusal : Refusal)
    → MayNotReadTexts name texts (Err refusal) → IsLeftAlone
    → IfOk result (WritesAnswer (asked_text form) asked_status (IsRefusedAtOnce refusal) old new)
    → IfOk result (WritesAnswer (asked_text form) asked_status (MayAskNewer name texts IsLeftAlone MayReply) old new)
texts_refused (Err failed) form old new name texts IsLeftAlone MayReply refusal why left told = tt
texts_refused (Ok status) form old new name texts IsLeftAlone MayReply refusal why left told =
    (told.0, inr (refusal, why, told.1, left), told.2, told.3)

-- there is no graph
pub replies_none : {E : Type 0} (result : Result ℕ E) (form : Form) (old new : Option (List ℕ)) (IsLeftAlone : Type 0)
    (MayOpenAt : List ℕ → Result (List Layer) OpenError → Type 0) (before after : Option (List ℕ)) (asked : Question)
    → IsLeftAlone → IfOk result (WritesAnswer (asked_text form) asked_status (MayTellOver [] before asked) old new)
    → IfOk result
    (WritesAnswer (asked_text form) asked_status (MayReplyNewer None IsLeftAlone MayOpenAt before after asked) old new)
replies_none (Err failed) form old new IsLeftAlone MayOpenAt before after asked left told = tt
replies_none (Ok status) form old new IsLeftAlone MayOpenAt before after asked left told =
    (told.0, inr ([], (left, refl), told.1), told.2, told.3)

-- there is a right graph
pub replies_graph : {E : Type 0} (result : Result ℕ E) (form : Form) (old new : Option (List ℕ)) (IsLeftAlone : Type 0)
    (MayOpenAt : List ℕ → Result (List Layer) OpenError → Type 0) (before after : Option (List ℕ)) (asked : Question)
    (path : List ℕ) (layers : List Layer) → MayOpenAt path (Ok layers) → Sound layers
    → IfOk result (WritesAnswer (asked_text form) asked_status (MayTellOver layers before asked) old new)
    → IfOk result
    (WritesAnswer (asked_text form) asked_status (MayReplyNewer (Some path) IsLeftAlone MayOpenAt before after asked) old new)
replies_graph (Err failed) form old new IsLeftAlone MayOpenAt before after asked path layers opens right told = tt
replies_graph (Ok status) form old new IsLeftAlone MayOpenAt before after asked path layers opens right told =
    (told.0, inr (layers, (opens, right), told.1), told.2, told.3)

-- the graph is refused
pub graph_refused : {E : Type 0} (result : Result ℕ E) (form : Form) (old new : Option (List ℕ)) (IsLeftAlone : Type 0)
    (MayOpenAt : List ℕ → Result (List Layer) OpenError → Type 0) (before : Option (List ℕ)) (asked : Question)
    (path : List ℕ) (refusal : Refusal) → MayRefuseToStart (MayOpenAt path) refusal
    → IfOk result (WritesAnswer (asked_text form) asked_status (IsRefusedAtOnce refusal) old new)
    → IfOk result
    (WritesAnswer (asked_text form) asked_status (MayReplyNewer (Some path) IsLeftAlone MayOpenAt before before asked) old new)
graph_refused (Err failed) form old new IsLeftAlone MayOpenAt before asked path refusal why told = tt
graph_refused (Ok status) form old new IsLeftAlone MayOpenAt before asked path refusal why told =
    (told.0, inl (refusal, why, told.1, Keeps-refl before), told.2, told.3)
