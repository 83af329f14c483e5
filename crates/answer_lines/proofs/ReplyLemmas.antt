-- What is told where an id is missing.
use Rattle.std.proofs.Common.{◌≡◌, ℕ, Some, refl, sym, ap}
use Rattle.answers.specs.declared.answer.Answer.TheVariants.{Known, Unknown}
use Rattle.answer_lines.specs.AnswerLines.{unknown_line}
use Rattle.answer_lines.specs.Replies.{ListedReply, missing_of, reply_status, reply_text}
use Rattle.answer_lines.specs.declared.reply.Form.{Form}
use Rattle.answer_lines.specs.declared.reply.Reply.TheVariants.{Found, Told, Walk, Compared, Parents}

pub missing_told : (form : Form) (reply : ListedReply) (number : ℕ) → missing_of reply ≡ Some number
    → unknown_line number ≡ reply_text form reply
missing_told form (Found found) number is = cc
missing_told form (Told (Known told)) number is = cc
missing_told form (Told (Unknown other)) number is = let same : other ≡ number = cc in ap unknown_line (sym same)
missing_told form (Walk (Known walk)) number is = cc
missing_told form (Walk (Unknown other)) number is = let same : other ≡ number = cc in ap unknown_line (sym same)
missing_told form (Compared (Known compared)) number is = cc
missing_told form (Compared (Unknown other)) number is = let same : other ≡ number = cc in ap unknown_line (sym same)
missing_told form (Parents (Known parents)) number is = cc
missing_told form (Parents (Unknown other)) number is = let same : other ≡ number = cc in ap unknown_line (sym same)

pub missing_status : (reply : ListedReply) (number : ℕ) → missing_of reply ≡ Some number → 1 ≡ reply_status reply
missing_status (Found found) number is = cc
missing_status (Told (Known told)) number is = cc
missing_status (Told (Unknown other)) number is = refl
missing_status (Walk (Known walk)) number is = cc
missing_status (Walk (Unknown other)) number is = refl
missing_status (Compared (Known compared)) number is = cc
missing_status (Compared (Unknown other)) number is = refl
missing_status (Parents (Known parents)) number is = cc
missing_status (Parents (Unknown other)) number is = refl
