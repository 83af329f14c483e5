-- From what is read by parts to what may be answered.
use Rattle.std.proofs.Common.{◌≡◌, ◌≢◌, ℕ, List, [], ◌∷◌, Bool, Option, Some, None, Ok, Vec, sym, option_map}
use Rattle.std.specs.Global.{Global}
use Rattle.std.specs.Option.{ForSome}
use Rattle.graph_folder.specs.Tree.{Tree}
use Rattle.graph_format.specs.Layer.{Layer}
use Rattle.graph_format.specs.declared.Position.{Position}
use Rattle.gix_commitgraph.specs.GraphLookup.{FoundIn}
use Rattle.gix_commitgraph.specs.Sound.{Sound}
use Rattle.gix_commitgraph.proofs.sound.SoundLemmas.{sound-scanned}
use Rattle.graph_parts.specs.declared.layer.StoredCommit.{StoredCommit}
use Rattle.graph_unchecked.specs.Trusted.{AreIdsOfParents, AreParentsFound, IsCommitFound}
use Rattle.graph_unchecked.specs.Unchecked.{IsAnswerAt, IsComparedUnchecked, IsFoundAmong, IsFoundBetween, IsToldUnchecked}
use Rattle.graph_unchecked.specs.Unchecked.{IsWalkUnchecked}
use Rattle.answers.specs.FoundOf.{OfFirst, OfOne, OfTwo, listed_comparison, listed_ids, listed_walk}
use Rattle.answers.specs.declared.answer.Answer.{Answer}
use Rattle.answers.specs.declared.comparison.IdComparison.{IdComparison}
use Rattle.answers.proofs.FoundLemmas.{all_so, found_as, found_same, one_so, two_so}
use Rattle.answer_lines.specs.Replies.{listed_reply}
use Rattle.answer_lines.specs.declared.reply.Reply.TheVariants as reply
use Rattle.graph_commands.specs.Find.{MayBeFound}
use Rattle.graph_commands.specs.OpenerAnswer.{MayOpen}
use Rattle.history_commands.specs.CheckedReplies.{AreBasesOf, AreParentIds, IsSearched, IsTold, IsWalkOfIds, Scans}
use Rattle.question_lines.specs.declared.question.Question.{Question}
use Rattle.question_lines.specs.declared.question.Question.TheVariants as question
use Rattle.unchecked_commands.specs.OnlyAnswer.{IsReadByParts}
use Rattle.unchecked_commands.specs.TrustedReplies.{AreBasesThere, IsReplyByParts, IsWalkThere, IsYesSo, reported}
use Rattle.unchecked_commands.proofs.OnlyAnswerLemmas.{so_of_only}

-- a question that asks for a search does not ask for the graph to be opened anew
pub searched-other : (asked : Question) → IsSearched asked → asked ≢ question.Reload
searched-other question.Reload searched is = searched
searched-other (question.Find id) searched is = cc
searched-other (question.IsAncestor first second) searched is = cc
searched-other (question.Walk first second) searched is = cc
searched-other (question.MergeBase first others) searched is = cc
searched-other (question.Parents id) searched is = cc

-- ---- In a graph.

-- what is reported of a commit is what is stored of it
be-found : (layers : List Layer) (id : List ℕ) (found : Option (Position × StoredCommit)) → IsCommitFound id layers found
    → MayBeFound layers id (option_map reported found)
be-found layers id (Some found) is = (
  is.0,
  record {
    layer = is.1.layer;
    place = is.1.pos;
    stands = is.1.stands;
    generation = is.1.stores.generation;
    time = is.1.stores.time;
  },
)
be-found layers id None is = is

module _ (layers : List Layer) where
  scans : Sound layers → (id : List ℕ) (found : Option ℕ) → FoundIn layers id found → Scans layers id found
  scans sound id found is = sym (sound-scanned layers id found sound is)

  there : (id : List ℕ) (found : Option ℕ) → FoundIn layers id found → FoundIn layers id found
  there id found is = is

  walk-right : Sound layers → (p q : ℕ) (walk : Option (Vec (List ℕ) Global)) → IsWalkUnchecked layers p q walk
      → IsWalkOfIds layers p q (listed_walk walk)
  walk-right sound p q (Some ids) so = so.shortest sound.generations
  walk-right sound p q None so = so.none sound.generations

  walk-there : (p q : ℕ) (walk : Option (Vec (List ℕ) Global)) → IsWalkUnchecked layers p q walk
      → IsWalkThere layers p q (listed_walk walk)
  walk-there p q (Some ids) so = so.there
  walk-there p q None so = tt

  replies-found : (id : List ℕ) (found : Option (Position × StoredCommit)) → IsCommitFound id layers found
      → IsReplyByParts layers (question.Find id) (listed_reply (reply.Found (option_map reported found)))
  replies-found id found is = record { right = λ sound. be-found layers id found is; there = be-found layers id found is }

  replies-told : (a b : List ℕ) (told : Answer Bool) → IsFoundBetween IsToldUnchecked a b layers told
      → IsReplyByParts layers (question.IsAncestor a b) (listed_reply (reply.Told told))
  replies-told a b told so = record {
    right = λ sound.
        found_same (FoundIn layers) (Scans layers) (scans sound) (OfTwo (IsToldUnchecked layers)) (OfTwo (IsTold layers))
        (a ∷ b ∷ []) told
        (two_so (λ x. x) (IsToldUnchecked layers) (IsTold layers) (λ p q known is. (is.there, is.all sound.generations))) so;
    there = found_same (FoundIn layers) (FoundIn layers) there (OfTwo (IsToldUnchecked layers)) (OfTwo (IsYesSo layers))
        (a ∷ b ∷ []) told (two_so (λ x. x) (IsToldUnchecked layers) (IsYesSo layers) (λ p q known is. is.there)) so;
  }

  replies-walk : (a b : List ℕ) (walk : Answer (Option (Vec (List ℕ) Global))) → IsFoundBetween IsWalkUnchecked a b layers walk
      → IsReplyByParts layers (question.Walk a b) (listed_reply (reply.Walk walk))
  replies-walk a b walk so = record {
    right = λ sound.
        found_as (FoundIn layers) (Scans layers) (scans sound) (OfTwo (IsWalkUnchecked layers)) (OfTwo (IsWalkOfIds layers))
        (a ∷ b ∷ []) listed_walk walk
        (two_so listed_walk (IsWalkUnchecked layers) (IsWalkOfIds layers) (walk-right sound)) so;
    there = found_as (FoundIn layers) (FoundIn layers) there (OfTwo (IsWalkUnchecked layers)) (OfTwo (IsWalkThere layers))
        (a ∷ b ∷ []) listed_walk walk (two_so listed_walk (IsWalkUnchecked layers) (IsWalkThere layers) walk-there) so;
  }

  replies-compared : (first : List ℕ) (others : Vec (List ℕ) Global) (compared : Answer (IdComparison (Vec (List ℕ) Global)))
      → IsFoundAmong IsComparedUnchecked (first ∷ others.items) layers compared
      → IsReplyByParts layers (question.MergeBase first others) (listed_reply (reply.Compared compared))
  replies-compared first others compared so = record {
    right = λ right.
        found_as (FoundIn layers) (Scans layers) (scans right.0) (OfFirst (IsComparedUnchecked layers))
        (OfFirst (AreBasesOf layers)) (first ∷ others.items) listed_comparison compared
        (all_so listed_comparison (IsComparedUnchecked layers) (AreBasesOf layers)
        (λ p rest known is. (is.exact right.0.generations right.1, is.ids))) so;
    there = found_as (FoundIn layers) (FoundIn layers) there (OfFirst (IsComparedUnchecked layers))
        (OfFirst (AreBasesThere layers)) (first ∷ others.items) listed_comparison compared
        (all_so listed_comparison (IsComparedUnchecked layers) (AreBasesThere layers)
        (λ p rest known is. (is.common, is.visits, is.ids))) so;
  }

  replies-parents : (id : List ℕ) (parents : Answer (Vec (List ℕ) Global)) → AreParentsFound id layers parents
      → IsReplyByParts layers (question.Parents id) (listed_reply (reply.Parents parents))
  replies-parents id parents so = record {
    right = λ sound.
        found_as (FoundIn layers) (Scans layers) (scans sound) (OfOne (AreIdsOfParents layers)) (OfOne (AreParentIds layers))
        (id ∷ []) listed_ids parents
        (one_so listed_ids (AreIdsOfParents layers) (AreParentIds layers) (λ p known is. is)) so;
    there = found_as (FoundIn layers) (FoundIn layers) there (OfOne (AreIdsOfParents layers)) (OfOne (AreParentIds layers))
        (id ∷ []) listed_ids parents
        (one_so listed_ids (AreIdsOfParents layers) (AreParentIds layers) (λ p known is. is)) so;
  }

-- ---- In the graph at a path.

module _ (known : Option Tree) (path : List ℕ) (before after : ℕ) (kept : after ≡ before) where
  pub reads-found : (id : List ℕ) (found : Option (Position × StoredCommit))
      → ForSome known (λ tree. IsAnswerAt tree path (IsCommitFound id) found)
      → IsReadByParts (MayOpen known path) before after (λ layers. IsReplyByParts layers (question.Find id))
      (Ok (listed_reply (reply.Found (option_map reported found))))
  reads-found id found so = (
    kept,
    so_of_only known path (IsCommitFound id) found
        (λ layers. IsReplyByParts layers (question.Find id) (listed_reply (reply.Found (option_map reported found))))
        (λ layers is. replies-found layers id found is) so,
  )

  pub reads-told : (a b : List ℕ) (told : Answer Bool)
      → ForSome known (λ tree. IsAnswerAt tree path (IsFoundBetween IsToldUnchecked a b) told)
      → IsReadByParts (MayOpen known path) before after (λ layers. IsReplyByParts layers (question.IsAncestor a b))
      (Ok (listed_reply (reply.Told told)))
  reads-told a b told so = (
    kept,
    so_of_only known path (IsFoundBetween IsToldUnchecked a b) told
        (λ layers. IsReplyByParts layers (question.IsAncestor a b) (listed_reply (reply.Told told)))
        (λ layers is. replies-told layers a b told is) so,
  )

  pub reads-walk : (a b : List ℕ) (walk : Answer (Option (Vec (List ℕ) Global)))
      → ForSome known (λ tree. IsAnswerAt tree path (IsFoundBetween IsWalkUnchecked a b) walk)
      → IsReadByParts (MayOpen known path) before after (λ layers. IsReplyByParts layers (question.Walk a b))
      (Ok (listed_reply (reply.Walk walk)))
  reads-walk a b walk so = (
    kept,
    so_of_only known path (IsFoundBetween IsWalkUnchecked a b) walk
        (λ layers. IsReplyByParts layers (question.Walk a b) (listed_reply (reply.Walk walk)))
        (λ layers is. replies-walk layers a b walk is) so,
  )

  pub reads-compared : (first : List ℕ) (others : Vec (List ℕ) Global) (compared : Answer (IdComparison (Vec (List ℕ) Global)))
      → ForSome known (λ tree. IsAnswerAt tree path (IsFoundAmong IsComparedUnchecked (first ∷ others.items)) compared)
      → IsReadByParts (MayOpen known path) before after (λ layers. IsReplyByParts layers (question.MergeBase first others))
      (Ok (listed_reply (reply.Compared compared)))
  reads-compared first others compared so = (
    kept,
    so_of_only known path (IsFoundAmong IsComparedUnchecked (first ∷ others.items)) compared
        (λ layers. IsReplyByParts layers (question.MergeBase first others) (listed_reply (reply.Compared compared)))
        (λ layers is. replies-compared layers first others compared is) so,
  )

  pub reads-parents : (id : List ℕ) (parents : Answer (Vec (List ℕ) Global))
      → ForSome known (λ tree. IsAnswerAt tree path (AreParentsFound id) parents)
      → IsReadByParts (MayOpen known path) before after (λ layers. IsReplyByParts layers (question.Parents id))
      (Ok (listed_reply (reply.Parents parents)))
  reads-parents id parents so = (
    kept,
    so_of_only known path (AreParentsFound id) parents
        (λ layers. IsReplyByParts layers (question.Parents id) (listed_reply (reply.Parents parents)))
        (λ layers is. replies-parents layers id parents is) so,
  )
