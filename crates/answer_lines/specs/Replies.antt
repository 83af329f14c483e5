-- What is answered to a question about commits: its lines and its exit status.
use Rattle.std.specs.Prelude.{◌≡◌, ℕ, List, Bool, true, false, Option, None, Result, Ok, Err, Vec, if◌then◌else◌, is_some}
use Rattle.std.specs.Global.{Global}
use Rattle.answers.specs.FoundOf.{known_map, listed_comparison, listed_ids, listed_walk, missing_in}
use Rattle.answers.specs.declared.answer.Answer.TheVariants.{Unknown, Known}
use Rattle.answer_lines.specs.AnswerLines.{answer_text, comparison_lines, has_bases, parents_line, walk_lines, word_line}
use Rattle.answer_lines.specs.declared.reply.Form.{Form}
use Rattle.answer_lines.specs.declared.reply.Reply.{Reply}
use Rattle.answer_lines.specs.declared.reply.Reply.TheVariants.{Found, Told, Walk, Compared, Parents}
use Rattle.graph_commands.specs.RefusalLines.{refusal_text, refusal_status}
use Rattle.graph_commands.specs.Report.{found_line}
use Rattle.graph_commands.specs.Text.{◌⧺◌, newline}
use Rattle.graph_commands.specs.declared.refusal.Refusal.{Refusal}

-- an answer, with its ids in lists
abbrev pub ListedReply : Type 0
ListedReply = Reply (List (List ℕ))

abbrev pub listed_reply : Reply (Vec (List ℕ) Global) → ListedReply
listed_reply (Found found) = Found found
listed_reply (Told told) = Told told
listed_reply (Walk walk) = Walk (known_map listed_walk walk)
listed_reply (Compared compared) = Compared (known_map listed_comparison compared)
listed_reply (Parents parents) = Parents (known_map listed_ids parents)

-- the lines of an answer, with its merge bases in this form
abbrev pub reply_text : Form → ListedReply → List ℕ
reply_text form (Found found) = found_line found
reply_text form (Told told) = answer_text word_line told
reply_text form (Walk walk) = answer_text walk_lines walk
reply_text form (Compared compared) = answer_text (comparison_lines form) compared
reply_text form (Parents parents) = answer_text parents_line parents

-- whether something is found, is so, or is there
abbrev pub is_yes : ListedReply → Bool
is_yes (Found found) = is_some found
is_yes (Told (Known told)) = told
is_yes (Told (Unknown number)) = false
is_yes (Walk (Known walk)) = is_some walk
is_yes (Walk (Unknown number)) = false
is_yes (Compared (Known compared)) = has_bases compared.comparison.bases.positions.items
is_yes (Compared (Unknown number)) = false
is_yes (Parents (Known ids)) = true
is_yes (Parents (Unknown number)) = false

-- 0 for what is found, is so, or is there, and else 1
abbrev pub reply_status : ListedReply → ℕ
reply_status reply = if is_yes reply then 0 else 1

-- the number of the first id that is missing, if one is
abbrev pub missing_of : ListedReply → Option ℕ
missing_of (Found found) = None
missing_of (Told told) = missing_in told
missing_of (Walk walk) = missing_in walk
missing_of (Compared compared) = missing_in compared
missing_of (Parents parents) = missing_in parents

-- no id is told to be missing
abbrev pub IsKnown : ListedReply → Type 0
IsKnown reply = missing_of reply ≡ None

-- the lines of an answer, or of a refusal
abbrev pub response_text : Form → Result ListedReply Refusal → List ℕ
response_text form (Ok reply) = reply_text form reply
response_text form (Err refusal) = refusal_text refusal ⧺ newline

-- the status of an answer, and else that of the refusal
abbrev pub response_status : Result ListedReply Refusal → ℕ
response_status (Ok reply) = reply_status reply
response_status (Err refusal) = refusal_status refusal
