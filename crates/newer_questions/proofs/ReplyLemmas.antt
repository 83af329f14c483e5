-- What a search finds is the answer to the question.
use Rattle.std.proofs.Common.{◌≡◌, ℕ, List, [], ◌∷◌, Bool, Option, Vec, subst, sym}
use Rattle.std.specs.Global.{Global}
use Rattle.commit_search.specs.Source.{Told}
use Rattle.answers.specs.FoundOf.{IsFoundOf, OfFirst, OfTwo}
use Rattle.answers.specs.declared.answer.Answer.{Answer}
use Rattle.answers.specs.declared.comparison.IdComparison.{IdComparison}
use Rattle.answer_lines.specs.declared.reply.Reply.TheVariants as reply
use Rattle.question_lines.specs.declared.question.Question.{Question}
use Rattle.question_lines.specs.declared.question.Question.TheVariants.{IsAncestor, Walk, MergeBase}
use Rattle.newer_answers.specs.AnswersOnTop.{IsComparedOnTop, IsToldOnTop, IsWalkOnTop}
use Rattle.newer_commits.specs.CommitsOnTop.{CommitsOnTop}
use Rattle.newer_commits.specs.FindingOnTop.{Finds}
use Rattle.newer_questions.specs.QuestionsOnTop.{IsReplyOnTop}

module _ (says : Told → Type 0) (base : List ℕ → Option ℕ → Type 0) (has_id : ℕ → List ℕ → Type 0) (dates : Option (List ℕ))
    (top : CommitsOnTop) (question : Question) where
  pub told_reply : (first second : List ℕ) (ids : List (List ℕ)) (answer : Answer Bool) → question ≡ IsAncestor first second
      → ids ≡ first ∷ second ∷ [] → IsFoundOf (Finds base top) (OfTwo (IsToldOnTop says top)) ids answer
      → IsReplyOnTop says base has_id dates top question (reply.Told answer)
  told_reply first second ids answer is same found =
      subst (λ (q : Question). IsReplyOnTop says base has_id dates top q (reply.Told answer)) (sym is)
      (subst (λ (those : List (List ℕ)). IsFoundOf (Finds base top) (OfTwo (IsToldOnTop says top)) those answer) same found)

  pub walk_reply : (first second : List ℕ) (ids : List (List ℕ)) (answer : Answer (Option (Vec (List ℕ) Global)))
      → question ≡ Walk first second → ids ≡ first ∷ second ∷ []
      → IsFoundOf (Finds base top) (OfTwo (IsWalkOnTop says has_id top)) ids answer
      → IsReplyOnTop says base has_id dates top question (reply.Walk answer)
  walk_reply first second ids answer is same found =
      subst (λ (q : Question). IsReplyOnTop says base has_id dates top q (reply.Walk answer)) (sym is)
      (subst (λ (those : List (List ℕ)). IsFoundOf (Finds base top) (OfTwo (IsWalkOnTop says has_id top)) those answer) same
      found)

  pub bases_reply : (first : List ℕ) (others : Vec (List ℕ) Global) (ids : List (List ℕ))
      (answer : Answer (IdComparison (Vec (List ℕ) Global))) → question ≡ MergeBase first others → ids ≡ first ∷ others.items
      → IsFoundOf (Finds base top) (OfFirst (IsComparedOnTop says has_id top dates)) ids answer
      → IsReplyOnTop says base has_id dates top question (reply.Compared answer)
  bases_reply first others ids answer is same found =
      subst (λ (q : Question). IsReplyOnTop says base has_id dates top q (reply.Compared answer)) (sym is)
      (subst
      (λ (those : List (List ℕ)). IsFoundOf (Finds base top) (OfFirst (IsComparedOnTop says has_id top dates)) those answer)
      same found)
