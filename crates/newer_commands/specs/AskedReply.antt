-- What is told to a question for which newer commits are asked for: the lines that ask, an empty line, and then the answer.
use Rattle.std.specs.Prelude.{◌≡◌, ◌⊎◌, ℕ, ◌+◌, List, Some, Result, Ok, Err, Vec}
use Rattle.std.specs.Global.{Global}
use Rattle.graph_folder.specs.declared.folder.ReadError.TheVariants as read
use Rattle.answer_lines.specs.Replies.{ListedReply, listed_reply, missing_of, reply_status, reply_text}
use Rattle.answer_lines.specs.declared.reply.Form.{Form}
use Rattle.answer_lines.specs.declared.reply.Reply.{Reply}
use Rattle.commit_requests.specs.Requested.{request_lines}
use Rattle.commit_requests.specs.declared.error.CompleteError.{CompleteError}
use Rattle.commit_requests.specs.declared.error.CompleteError.TheVariants as completion
use Rattle.graph_commands.specs.Text.{◌⧺◌, newline}
use Rattle.graph_commands.specs.declared.refusal.Refusal.TheVariants.{Read, Walk}
use Rattle.newer_commands.specs.NewerRefusalLines.{newer_refusal_status, newer_refusal_text}
use Rattle.newer_commands.specs.declared.refusal.NewerRefusal.{NewerRefusal}
use Rattle.newer_commands.specs.declared.refusal.NewerRefusal.TheVariants.{Common, Entry, Unreadable, Cycle, Full}

-- an answer, or why there is none
abbrev pub Verdict : Type 0
Verdict = Result ListedReply NewerRefusal

-- The ids of the commits that were asked for, in order, and what is told then.
pub record AskedReply : Type 0 where
  pub asked : List (List ℕ)
  pub verdict : Verdict

-- the lines of an answer, with its merge bases in this form, or that of a refusal
abbrev pub verdict_text : Form → Verdict → List ℕ
verdict_text form (Ok reply) = reply_text form reply
verdict_text form (Err refusal) = newer_refusal_text refusal ⧺ newline

-- the status of an answer, and else that of the refusal
abbrev pub status_of_verdict : Verdict → ℕ
status_of_verdict (Ok reply) = reply_status reply
status_of_verdict (Err refusal) = newer_refusal_status refusal

abbrev pub asked_text : Form → AskedReply → List ℕ
asked_text form told = request_lines told.asked ⧺ newline ⧺ verdict_text form told.verdict

abbrev pub asked_status : AskedReply → ℕ
asked_status told = status_of_verdict told.verdict

-- a verdict with its ids in lists
abbrev pub listed_verdict : Result (Reply (Vec (List ℕ) Global)) NewerRefusal → Verdict
listed_verdict (Ok reply) = Ok (listed_reply reply)
listed_verdict (Err refusal) = Err refusal

-- what is told is what was found; of a reply also that there is no memory to write it
abbrev pub IsToldFor : Verdict → Verdict → Type 0
IsToldFor (Ok reply) told = (told ≡ Ok reply) ⊎ (told ≡ Err (Common Walk))
IsToldFor (Err refusal) told = told ≡ Err refusal

-- what is told of an error; that of the base is handed on. There is none where a write failed, nor on a commit that is lost
abbrev pub IsVerdictOf : {E : Type 0} → CompleteError E → Result Verdict E → Type 0
IsVerdictOf (completion.Unknown number) told =
    (answer : ListedReply) × (told ≡ Ok (Ok answer)) × (missing_of answer ≡ Some (number + 1))
IsVerdictOf (completion.Entry id error) told = told ≡ Ok (Err (Entry id error))
IsVerdictOf (completion.Unreadable id) told = told ≡ Ok (Err (Unreadable id))
IsVerdictOf (completion.Cycle id) told = told ≡ Ok (Err (Cycle id))
IsVerdictOf completion.Full told = told ≡ Ok (Err Full)
IsVerdictOf completion.OutOfMemory told = told ≡ Ok (Err (Common Walk))
IsVerdictOf completion.Device told = told ≡ Ok (Err (Common (Read read.Device)))
IsVerdictOf completion.WriteFailed told = ⊥
IsVerdictOf (completion.Lost id) told = ⊥
IsVerdictOf (completion.Source error) told = told ≡ Err error

-- the same of a verdict with its ids in lists
abbrev pub listed_told : {E : Type 0} → Result (Result (Reply (Vec (List ℕ) Global)) NewerRefusal) E → Result Verdict E
listed_told (Ok verdict) = Ok (listed_verdict verdict)
listed_told (Err error) = Err error
