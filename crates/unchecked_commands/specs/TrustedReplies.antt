-- What is answered to a question over a graph that is not checked.
use Rattle.std.specs.Prelude.{◌≡◌, ◌≢◌, ◌⊎◌, ℕ, ◌*◌, ◌≤◌, List, [], ◌∷◌, All, Bool, IsTrue, Option, Some, None, Result, ⊤}
use Rattle.graph_walks.specs.Walks.{IsWalkBetween, Reaches}
use Rattle.graph_format.specs.Layer.{Layer}
use Rattle.graph_format.specs.StoredHistory.{history_of}
use Rattle.graph_format.specs.declared.Position.{Position}
use Rattle.graph_layer.specs.declared.opening.error.OpenError.{OpenError}
use Rattle.gix_commitgraph.specs.Graph.{total}
use Rattle.gix_commitgraph.specs.GraphLookup.{FoundIn}
use Rattle.gix_commitgraph.specs.IdWalks.{ids_at}
use Rattle.gix_commitgraph.specs.Sound.{Sound}
use Rattle.commit_search.specs.Positions.{numbers_of}
use Rattle.graph_bases.specs.Bases.{IsCommonAncestor}
use Rattle.graph_parts.specs.declared.layer.StoredCommit.{StoredCommit}
use Rattle.graph_unchecked.specs.Unchecked.{HasNoWrongDate}
use Rattle.answers.specs.FoundOf.{IsFoundOf, OfFirst, OfOne, OfTwo}
use Rattle.answers.specs.declared.comparison.IdComparison.{IdComparison}
use Rattle.answer_lines.specs.Replies.{ListedReply}
use Rattle.answer_lines.specs.declared.reply.Reply.TheVariants as reply
use Rattle.graph_commands.specs.Find.{MayBeFound}
use Rattle.graph_commands.specs.declared.refusal.Refusal.{Refusal}
use Rattle.graph_commands.specs.declared.report.Found.{Found}
use Rattle.history_commands.specs.AskedOnce.{MayReplyAt}
use Rattle.history_commands.specs.CheckedReplies.{AreParentIds, IsReplyTo}
use Rattle.question_lines.specs.declared.question.Question.{Question}
use Rattle.question_lines.specs.declared.question.Question.TheVariants.{Find, IsAncestor, Walk, MergeBase, Parents, Reload}
use Rattle.unchecked_commands.specs.OnlyAnswer.{IsReadByParts}

-- a yes is so: a walk along parents leads from the second commit to the first
abbrev pub IsYesSo : List Layer → ℕ → ℕ → Bool → Type 0
IsYesSo layers first second told = IsTrue told → Reaches (history_of layers) second first

-- these are the ids on a walk along parents from the first commit to the second; nothing is said where there are none
abbrev pub IsWalkThere : List Layer → ℕ → ℕ → Option (List (List ℕ)) → Type 0
IsWalkThere layers first second (Some ids) =
    (walk : List ℕ) × IsWalkBetween (history_of layers) first second walk × (ids ≡ ids_at layers walk)
IsWalkThere layers first second None = ⊤

-- each base is a common ancestor along parents, and is told with its id; and no commit was visited more than three times
abbrev pub AreBasesThere : List Layer → ℕ → List ℕ → IdComparison (List (List ℕ)) → Type 0
AreBasesThere layers first others known =
    All (λ base. IsCommonAncestor (history_of layers) first others base.0) known.comparison.bases.positions.items
    × (known.comparison.bases.visits ≤ 3 * total layers)
    × (known.base_ids ≡ ids_at layers (numbers_of known.comparison.bases.positions.items))

-- what may be answered to a question over any graph: what lookups of the ids find, and what is there of the commits
abbrev pub IsThereFor : List Layer → Question → ListedReply → Type 0
IsThereFor layers (Find id) (reply.Found found) = MayBeFound layers id found
IsThereFor layers (IsAncestor first second) (reply.Told told) =
    IsFoundOf (FoundIn layers) (OfTwo (IsYesSo layers)) (first ∷ second ∷ []) told
IsThereFor layers (Walk first second) (reply.Walk walk) =
    IsFoundOf (FoundIn layers) (OfTwo (IsWalkThere layers)) (first ∷ second ∷ []) walk
IsThereFor layers (MergeBase first others) (reply.Compared compared) =
    IsFoundOf (FoundIn layers) (OfFirst (AreBasesThere layers)) (first ∷ others.items) compared
IsThereFor layers (Parents id) (reply.Parents parents) =
    IsFoundOf (FoundIn layers) (OfOne (AreParentIds layers)) (id ∷ []) parents
IsThereFor layers asked answer = ⊥

-- a graph is right, as far as a question asks for it: the check accepts it; and where merge bases are asked for, none of its
-- corrected dates is wrong
abbrev pub IsRightFor : List Layer → Question → Type 0
IsRightFor layers (MergeBase first others) = Sound layers × HasNoWrongDate layers
IsRightFor layers asked = Sound layers

-- What is answered over a graph that is not checked. Where it is right, that is what is answered over one that is checked. In
-- any graph it is there.
pub record IsReplyByParts (layers : List Layer) (asked : Question) (answer : ListedReply) : Type 0 where
  pub right : IsRightFor layers asked → IsReplyTo layers asked answer
  pub there : IsThereFor layers asked answer

-- what may be answered to a question over a graph that is trusted: what is read by parts; or what may be answered where the graph
-- is opened and checked
abbrev pub MayReplyTrusted : (ℕ → ℕ → Result (List Layer) OpenError → Type 0) → ℕ → ℕ → Question
    → Result ListedReply Refusal → Type 0
MayReplyTrusted MayOpen before after asked answer =
    ((asked ≢ Reload) × IsReadByParts MayOpen before after (λ layers. IsReplyByParts layers asked) answer)
    ⊎ MayReplyAt (MayOpen before after) asked answer

-- For private contracts: what is reported of a commit
abbrev pub reported : Position × StoredCommit → Found
reported found = record { pos = found.0; generation = found.1.generation; time = found.1.time }
