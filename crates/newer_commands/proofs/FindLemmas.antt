-- What is answered over a base that tells what a right graph tells, or none, may be told of it.
use Rattle.std.proofs.Common.{◌≡◌, ◌≢◌, ℕ, List, [], Option, Some, Vec, IfSome, inl, subst}
use Rattle.std.specs.Global.{Global}
use Rattle.std.specs.Prelude.{Result, Ok, Err, slice_get}
use Rattle.gix_hash_core.specs.declared.kind.Kind.{Kind}
use Rattle.graph_walks.specs.Walks.{CountWalks}
use Rattle.graph_history.specs.GraphComparison.{AreDatesOf}
use Rattle.graph_format.specs.Layer.{Layer}
use Rattle.graph_format.specs.StoredHistory.{history_of}
use Rattle.gix_commitgraph.specs.Graph.{graph_ids, total}
use Rattle.commit_search.specs.Source.{Told, told_of}
use Rattle.answer_lines.specs.Replies.{listed_reply}
use Rattle.answer_lines.specs.declared.reply.Reply.{Reply}
use Rattle.graph_commands.specs.declared.refusal.Refusal.TheVariants.{Walk}
use Rattle.history_commands.specs.CheckedReplies.{Scans}
use Rattle.question_lines.specs.Questions.{question_ids}
use Rattle.question_lines.specs.declared.question.Question.{Question}
use Rattle.commit_requests.specs.declared.error.CompleteError.{CompleteError}
use Rattle.commit_requests.specs.declared.error.CompleteError.TheVariants as completion
use Rattle.newer_questions.specs.QuestionsOnTop.{MayAnswerOnTop}
use Rattle.newer_questions.proofs.OnBaseLemmas.{all_as, on_top_as}
use Rattle.newer_commands.specs.AskedReply.{IsVerdictOf, Verdict}
use Rattle.newer_commands.specs.KindOver.{IsKindOver}
use Rattle.newer_commands.specs.RepliesOnTop.{MayTellAtLast, MayTellOver}
use Rattle.newer_commands.specs.declared.refusal.NewerRefusal.TheVariants.{Common}
use Rattle.newer_commands.proofs.SearchOverLemmas.{reply_over}
use Rattle.newer_commands.proofs.TellLemmas.{never_lost, tells_error}

-- The base, as in `SearchOverLemmas`, and the question with what was asked for.
module _ {E : Type 0} (layers : List Layer) (base : List ℕ → Option ℕ → Type 0) (has_id : ℕ → List ℕ → Type 0)
    (says : Told → Type 0) (scans : (id : List ℕ) (answer : Option ℕ) → base id answer → Scans layers id answer)
    (own : (p : ℕ) (id : List ℕ) → has_id p id → slice_get (graph_ids layers) p ≡ Some id)
    (said : says (told_of layers)) (counts : CountWalks (history_of layers)) (dates : Option (List ℕ))
    (given : IfSome dates (AreDatesOf layers)) (may_fail : E → Type 0) (count : ℕ)
    (counted : count ≡ total layers) (kind : Kind) (known : Option (List ℕ)) (question : Question)
    (is_kind : IsKindOver layers (question_ids question) kind) (asked : List (List ℕ)) where
  -- that of all that may be answered this is told
  over : (answer : Result (Reply (Vec (List ℕ) Global)) (CompleteError E)) (verdict : Verdict)
      → (may : MayAnswerOnTop kind count says base has_id dates may_fail known question asked answer)
      → MayTellAtLast kind layers may.none may.top question asked known verdict
      → MayTellOver layers known question (record { asked = asked; verdict = verdict })
  over answer verdict may at_last = record {
    kind = kind;
    is_kind = is_kind;
    none = may.none;
    nothing = subst (λ (n : ℕ). (may.none.commits ≡ []) × (may.none.below ≡ n)) counted may.nothing;
    top = may.top;
    on_top = on_top_as base (Scans layers) scans kind may.none (question_ids question) asked may.top may.on_top;
    at_last = at_last;
  }

  -- an answer
  pub reply_tells : (reply : Reply (Vec (List ℕ) Global))
      → MayAnswerOnTop kind count says base has_id dates may_fail known question asked (Ok reply)
      → MayTellOver layers known question (record { asked = asked; verdict = Ok (listed_reply reply) })
  reply_tells reply may =
      over (Ok reply) (Ok (listed_reply reply)) may
      (inl (
        all_as base (Scans layers) scans kind (question_ids question) asked known may.top may.at_last.0,
        reply_over layers base has_id says may.top scans own said counts dates given question reply may.at_last.1,
      ))

  -- an error with a verdict
  pub error_tells : (error : CompleteError E) (verdict : Verdict)
      → MayAnswerOnTop kind count says base has_id dates may_fail known question asked (Err error)
      → IsVerdictOf error (Ok verdict)
      → MayTellOver layers known question (record { asked = asked; verdict = verdict })
  error_tells error verdict may told =
      over (Err error) verdict may
      (tells_error kind layers base may_fail may.none may.top question asked known error verdict told may.at_last)

  -- memory may run out at any time
  pub memory_tells : (error : CompleteError E)
      → MayAnswerOnTop kind count says base has_id dates may_fail known question asked (Err error)
      → MayTellOver layers known question (record { asked = asked; verdict = Err (Common Walk) })
  memory_tells error may = over (Err error) (Err (Common Walk)) may tt

  -- no commit is lost
  pub lost_never : (error : CompleteError E) (id : List ℕ)
      → MayAnswerOnTop kind count says base has_id dates may_fail known question asked (Err error) → error ≢ completion.Lost id
  lost_never error id may =
      never_lost kind layers base may_fail may.none may.top (question_ids question) asked known error id scans may.at_last
