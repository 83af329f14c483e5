-- What a search finds over a base in memory and newer commits is so of the history of all of them.
use Rattle.std.proofs.Common.{◌≡◌, ℕ, List, [], ◌∷◌, Bool, Option, Some, None, Vec, IfSome, inl, inr, refl}
use Rattle.std.specs.Prelude.{slice_get}
use Rattle.std.specs.Global.{Global}
use Rattle.std.specs.List.{AllZip}
use Rattle.graph_walks.specs.Walks.{CountWalks}
use Rattle.graph_walks.proofs.DateLemmas.{above_proper_ancestors}
use Rattle.graph_chunks.specs.GraphStoredDates.{times_of}
use Rattle.graph_history.specs.GraphComparison.{AreDatesOf}
use Rattle.graph_format.specs.Layer.{Layer}
use Rattle.graph_format.specs.StoredHistory.{history_of}
use Rattle.gix_commitgraph.specs.Graph.{graph_ids}
use Rattle.commit_search.specs.Positions.{numbers_of}
use Rattle.commit_search.specs.Ranks.{FallsAlongParents, by_date}
use Rattle.commit_search.proofs.RankLemmas.{dates_along}
use Rattle.commit_search.specs.Source.{Told, told_of}
use Rattle.answers.specs.FoundOf.{IsFoundOf, OfFirst, OfTwo, known_map, listed_comparison, listed_walk}
use Rattle.answers.specs.declared.answer.Answer.{Answer}
use Rattle.answers.specs.declared.comparison.IdComparison.{IdComparison}
use Rattle.answers.proofs.FoundLemmas.{all_so, found_as, found_same, two_so}
use Rattle.answer_lines.specs.Replies.{listed_reply}
use Rattle.answer_lines.specs.declared.reply.Reply.{Reply}
use Rattle.answer_lines.specs.declared.reply.Reply.TheVariants as reply
use Rattle.history_commands.specs.CheckedReplies.{Scans}
use Rattle.question_lines.specs.declared.question.Question.{Question}
use Rattle.question_lines.specs.declared.question.Question.TheVariants as question
use Rattle.newer_commits.specs.CommitsOnTop.{CommitsOnTop}
use Rattle.newer_commits.specs.FindingOnTop.{Finds, HasId}
use Rattle.newer_answers.specs.AnswersOnTop.{AreRightNumbers, IsComparedOnTop, IsToldOnTop, IsWalkOnTop, ranking_over}
use Rattle.newer_questions.specs.QuestionsOnTop.{IsReplyOnTop}
use Rattle.newer_questions.proofs.OnBaseLemmas.{finds_as}
use Rattle.newer_commands.specs.RepliesOnTop.{AreBasesOver, HasIdOver, IsRankingOver, IsReplyOver, IsToldOver, IsWalkOver}
use Rattle.newer_commands.specs.RepliesOnTop.{history_over}

-- the dates of a graph fall along all parents
dates_fall : (layers : List Layer) (dates : List ℕ) → AreDatesOf layers dates
    → FallsAlongParents (history_of layers) (by_date dates)
dates_fall layers dates are =
    dates_along (history_of layers) dates
    (λ p q. above_proper_ancestors (history_of layers) (times_of layers) dates p q are.right)

-- The numbers by which a search goes are right.
module _ (layers : List Layer) (counts : CountWalks (history_of layers)) where
  right_numbers : (dates : Option (List ℕ)) → IfSome dates (AreDatesOf layers) → AreRightNumbers dates (history_of layers)
  right_numbers None given = counts
  right_numbers (Some dates) given = (given.right.as_many, dates_fall layers dates given)

  ranking_right : (top : CommitsOnTop) (dates : Option (List ℕ)) → IfSome dates (AreDatesOf layers)
      → IsRankingOver layers top (ranking_over dates (history_over layers top))
  ranking_right top None given = inl refl
  ranking_right top (Some dates) given = inr (dates, given, refl)

-- The layers of the base, its lookup and its ids as a contract knows them, what it says, and its dates, if some are given.
module _ (layers : List Layer) (base : List ℕ → Option ℕ → Type 0) (has_id : ℕ → List ℕ → Type 0) (says : Told → Type 0)
    (top : CommitsOnTop) (scans : (id : List ℕ) (answer : Option ℕ) → base id answer → Scans layers id answer)
    (own : (p : ℕ) (id : List ℕ) → has_id p id → slice_get (graph_ids layers) p ≡ Some id)
    (said : says (told_of layers)) (counts : CountWalks (history_of layers)) (dates : Option (List ℕ))
    (given : IfSome dates (AreDatesOf layers)) where
  id_over : (p : ℕ) (id : List ℕ) → HasId has_id top p id → HasIdOver layers top p id
  id_over p id (inl below) = inl (below.0, own p id below.1)
  id_over p id (inr newer) = inr newer

  ids_over : (places : List ℕ) (ids : List (List ℕ)) → AllZip (HasId has_id top) places ids
      → AllZip (HasIdOver layers top) places ids
  ids_over [] [] zipped = tt
  ids_over [] (id ∷ ids) zipped = absurd zipped
  ids_over (p ∷ places) [] zipped = absurd zipped
  ids_over (p ∷ places) (id ∷ ids) zipped = (id_over p id zipped.0, ids_over places ids zipped.1)

  told_over : (p q : ℕ) (told : Bool) → IsToldOnTop says top p q told → IsToldOver layers top p q told
  told_over p q told so = (λ yes. so.yes (told_of layers) said yes, λ reaches. so.no (told_of layers) said counts reaches)

  walk_over : (p q : ℕ) (walk : Option (Vec (List ℕ) Global)) → IsWalkOnTop says has_id top p q walk
      → IsWalkOver layers top p q (listed_walk walk)
  walk_over p q (Some ids) so = (so.0, so.1.shortest (told_of layers) said counts, ids_over so.0 ids.items so.2)
  walk_over p q None so = so (told_of layers) said counts

  bases_over : (p : ℕ) (others : List ℕ) (known : IdComparison (Vec (List ℕ) Global))
      → IsComparedOnTop says has_id top dates p others known → AreBasesOver layers top p others (listed_comparison known)
  bases_over p others known so = (
    (
      ranking_over dates (history_over layers top),
      ranking_right layers counts top dates given,
      so.0.exact (told_of layers) said (right_numbers layers counts dates given),
    ),
    ids_over (numbers_of known.comparison.bases.positions.items) known.base_ids.items so.1,
  )

  same_found : (id : List ℕ) (answer : Option ℕ) → Finds base top id answer → Finds (Scans layers) top id answer
  same_found id answer found = finds_as base (Scans layers) scans top id answer found

  told_found : (ids : List (List ℕ)) (answer : Answer Bool)
      → IsFoundOf (Finds base top) (OfTwo (IsToldOnTop says top)) ids answer
      → IsFoundOf (Finds (Scans layers) top) (OfTwo (IsToldOver layers top)) ids answer
  told_found ids answer found =
      found_same (Finds base top) (Finds (Scans layers) top) same_found (OfTwo (IsToldOnTop says top))
      (OfTwo (IsToldOver layers top)) ids answer
      (λ positions known so. two_so (λ told. told) (IsToldOnTop says top) (IsToldOver layers top) told_over positions known so)
      found

  walk_found : (ids : List (List ℕ)) (answer : Answer (Option (Vec (List ℕ) Global)))
      → IsFoundOf (Finds base top) (OfTwo (IsWalkOnTop says has_id top)) ids answer
      → IsFoundOf (Finds (Scans layers) top) (OfTwo (IsWalkOver layers top)) ids (known_map listed_walk answer)
  walk_found ids answer found =
      found_as (Finds base top) (Finds (Scans layers) top) same_found (OfTwo (IsWalkOnTop says has_id top))
      (OfTwo (IsWalkOver layers top)) ids listed_walk answer
      (λ positions known so.
      two_so listed_walk (IsWalkOnTop says has_id top) (IsWalkOver layers top) walk_over positions known so)
      found

  bases_found : (ids : List (List ℕ)) (answer : Answer (IdComparison (Vec (List ℕ) Global)))
      → IsFoundOf (Finds base top) (OfFirst (IsComparedOnTop says has_id top dates)) ids answer
      → IsFoundOf (Finds (Scans layers) top) (OfFirst (AreBasesOver layers top)) ids (known_map listed_comparison answer)
  bases_found ids answer found =
      found_as (Finds base top) (Finds (Scans layers) top) same_found (OfFirst (IsComparedOnTop says has_id top dates))
      (OfFirst (AreBasesOver layers top)) ids listed_comparison answer
      (λ positions known so.
      all_so listed_comparison (IsComparedOnTop says has_id top dates) (AreBasesOver layers top) bases_over positions known so)
      found

  -- what is answered to a question is so of the history
  pub reply_over : (asked : Question) (answer : Reply (Vec (List ℕ) Global))
      → IsReplyOnTop says base has_id dates top asked answer → IsReplyOver layers top asked (listed_reply answer)
  reply_over (question.IsAncestor first second) (reply.Told told) found = told_found (first ∷ second ∷ []) told found
  reply_over (question.Walk first second) (reply.Walk walk) found = walk_found (first ∷ second ∷ []) walk found
  reply_over (question.MergeBase first others) (reply.Compared compared) found =
      bases_found (first ∷ others.items) compared found
  reply_over asked answer found = absurd found
