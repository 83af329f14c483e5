-- What is answered to a question over a base and the commits that it lacks, which are asked for.
use Rattle.std.specs.Prelude.{ℕ, List, [], ◌∷◌, Option, Result, Ok, Err, Vec}
use Rattle.std.specs.Global.{Global}
use Rattle.gix_hash_core.specs.declared.kind.Kind.{Kind}
use Rattle.commit_search.specs.Source.{Told}
use Rattle.answers.specs.FoundOf.{IsFoundOf, OfFirst, OfTwo}
use Rattle.answer_lines.specs.declared.reply.Reply.{Reply}
use Rattle.answer_lines.specs.declared.reply.Reply.TheVariants as reply
use Rattle.question_lines.specs.Questions.{question_ids}
use Rattle.question_lines.specs.declared.question.Question.{Question}
use Rattle.question_lines.specs.declared.question.Question.TheVariants.{IsAncestor, Walk, MergeBase}
use Rattle.newer_commits.specs.CommitsOnTop.{CommitsOnTop}
use Rattle.newer_commits.specs.FindingOnTop.{Finds}
use Rattle.newer_answers.specs.AnswersOnTop.{IsComparedOnTop, IsToldOnTop, IsWalkOnTop}
use Rattle.commit_requests.specs.Completion.{IsCompleteRefusal}
use Rattle.commit_requests.specs.declared.error.CompleteError.{CompleteError}
use Rattle.newer_questions.specs.AskedOnTop.{AreAllOnTop, AreAskedOnTop, IsNothingOver}

-- this is the answer to a question about commits that are all there, where the base says this, the lookup of an id in it may
-- answer this, its commits may have these ids, and merge bases are searched for by these dates, if some are given
abbrev pub IsReplyOnTop : (Told → Type 0) → (List ℕ → Option ℕ → Type 0) → (ℕ → List ℕ → Type 0) → Option (List ℕ) → CommitsOnTop
    → Question → Reply (Vec (List ℕ) Global) → Type 0
IsReplyOnTop says base has_id dates top (IsAncestor first second) (reply.Told told) =
    IsFoundOf (Finds base top) (OfTwo (IsToldOnTop says top)) (first ∷ second ∷ []) told
IsReplyOnTop says base has_id dates top (Walk first second) (reply.Walk walk) =
    IsFoundOf (Finds base top) (OfTwo (IsWalkOnTop says has_id top)) (first ∷ second ∷ []) walk
IsReplyOnTop says base has_id dates top (MergeBase first others) (reply.Compared compared) =
    IsFoundOf (Finds base top) (OfFirst (IsComparedOnTop says has_id top dates)) (first ∷ others.items) compared
IsReplyOnTop says base has_id dates top question answer = ⊥

-- what comes back once all that is lacking was asked for: the answer, where no commit is lacking; or why there is none
abbrev pub MayComeOnTop : {E : Type 0} → Kind → (Told → Type 0) → (List ℕ → Option ℕ → Type 0) → (ℕ → List ℕ → Type 0)
    → Option (List ℕ) → (E → Type 0) → Option (List ℕ) → CommitsOnTop → CommitsOnTop → Question → List (List ℕ)
    → Result (Reply (Vec (List ℕ) Global)) (CompleteError E) → Type 0
MayComeOnTop kind says base has_id dates may_fail known none top question asked (Ok answer) =
    AreAllOnTop kind base (question_ids question) asked known top × IsReplyOnTop says base has_id dates top question answer
MayComeOnTop kind says base has_id dates may_fail known none top question asked (Err error) =
    IsCompleteRefusal kind base may_fail none top (question_ids question) asked known error

-- This may be answered to a question over a base with so many commits, which says this, in which the lookup of an id may
-- answer this, whose commits may have these ids and these dates, if some are given, and which may fail with such an error: those
-- commits were asked for that are lacking, and then an answer comes, or why there is none. The reader has these bytes, where they
-- are known.
pub record MayAnswerOnTop {E : Type 0} (kind : Kind) (count : ℕ) (says : Told → Type 0) (base : List ℕ → Option ℕ → Type 0)
    (has_id : ℕ → List ℕ → Type 0) (dates : Option (List ℕ)) (may_fail : E → Type 0) (known : Option (List ℕ))
    (question : Question) (asked : List (List ℕ)) (answer : Result (Reply (Vec (List ℕ) Global)) (CompleteError E)) : Type 0 where
  pub none : CommitsOnTop
  pub nothing : IsNothingOver count none
  pub top : CommitsOnTop
  pub on_top : AreAskedOnTop kind base none (question_ids question) asked top
  pub at_last : MayComeOnTop kind says base has_id dates may_fail known none top question asked answer
