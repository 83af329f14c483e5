-- What is answered to a question over a graph that was checked.
use Rattle.std.specs.Prelude.{◌≡◌, ◌↔◌, ℕ, List, [], ◌∷◌, All, Bool, IsTrue, Option, Some, None, Result, Ok, Err, ⊤}
use Rattle.std.specs.Prelude.{slice_get, take}
use Rattle.graph_walks.specs.History.{parents_at}
use Rattle.graph_walks.specs.Walks.{Reaches}
use Rattle.graph_format.specs.Layer.{Layer}
use Rattle.graph_format.specs.Lookup.{scan}
use Rattle.graph_format.specs.StoredHistory.{history_of}
use Rattle.gix_commitgraph.specs.Graph.{graph_ids}
use Rattle.gix_commitgraph.specs.IdWalks.{ids_at}
use Rattle.commit_search.specs.Positions.{numbers_of}
use Rattle.commit_search.specs.WalkAnswer.{IsShortestWalk}
use Rattle.graph_history.specs.GraphComparison.{IsComparisonInOrder}
use Rattle.answers.specs.FoundOf.{IsFoundOf, OfFirst, OfOne, OfTwo}
use Rattle.answers.specs.declared.comparison.IdComparison.{IdComparison}
use Rattle.answer_lines.specs.Replies.{ListedReply, response_text}
use Rattle.answer_lines.specs.declared.reply.Form.TheVariants.{Whole}
use Rattle.answer_lines.specs.declared.reply.Reply.TheVariants as reply
use Rattle.graph_commands.specs.Ancestor.{IsThere}
use Rattle.graph_commands.specs.Find.{MayBeFound}
use Rattle.graph_commands.specs.declared.refusal.Refusal.{Refusal}
use Rattle.graph_commands.specs.declared.refusal.Refusal.TheVariants as refusal
use Rattle.question_lines.specs.Questions.{question_ids}
use Rattle.question_lines.specs.declared.question.Question.{Question}
use Rattle.question_lines.specs.declared.question.Question.TheVariants.{Find, IsAncestor, Walk, MergeBase, Parents, Reload}

-- the least position of an id, if it is in the graph: what a scan of all ids finds
abbrev pub Scans : List Layer → List ℕ → Option ℕ → Type 0
Scans layers id found = scan (graph_ids layers) id ≡ found

-- it is told whether the first commit is an ancestor of the second, or the same, as `git merge-base --is-ancestor` tells it:
-- whether a walk along parents leads from the second to the first
abbrev pub IsTold : List Layer → ℕ → ℕ → Bool → Type 0
IsTold layers first second told = IsTrue told ↔ Reaches (history_of layers) second first

-- these are the ids on a shortest walk along parents from the first commit to the second; where there are none, no walk leads
-- there
abbrev pub IsWalkOfIds : List Layer → ℕ → ℕ → Option (List (List ℕ)) → Type 0
IsWalkOfIds layers first second (Some ids) =
    (walk : List ℕ) × IsShortestWalk (history_of layers) first second walk × (ids ≡ ids_at layers walk)
IsWalkOfIds layers first second None = ¬ Reaches (history_of layers) first second

-- how the first commit compares with the others: what `git merge-base --all` names, with the ids, and
-- `git rev-list --left-right --count` counts for one other
abbrev pub AreBasesOf : List Layer → ℕ → List ℕ → IdComparison (List (List ℕ)) → Type 0
AreBasesOf layers first others known =
    IsComparisonInOrder layers first others known.comparison
    × (known.base_ids ≡ ids_at layers (numbers_of known.comparison.bases.positions.items))

-- the ids of the parents of the commit at a position, first parent first
abbrev pub AreParentIds : List Layer → ℕ → List (List ℕ) → Type 0
AreParentIds layers p ids = ids ≡ ids_at layers (parents_at (history_of layers) p)

-- this may be answered to a question over a right graph
abbrev pub IsReplyTo : List Layer → Question → ListedReply → Type 0
IsReplyTo layers (Find id) (reply.Found found) = MayBeFound layers id found
IsReplyTo layers (IsAncestor first second) (reply.Told told) =
    IsFoundOf (Scans layers) (OfTwo (IsTold layers)) (first ∷ second ∷ []) told
IsReplyTo layers (Walk first second) (reply.Walk walk) =
    IsFoundOf (Scans layers) (OfTwo (IsWalkOfIds layers)) (first ∷ second ∷ []) walk
IsReplyTo layers (MergeBase first others) (reply.Compared compared) =
    IsFoundOf (Scans layers) (OfFirst (AreBasesOf layers)) (first ∷ others.items) compared
IsReplyTo layers (Parents id) (reply.Parents parents) =
    IsFoundOf (Scans layers) (OfOne (AreParentIds layers)) (id ∷ []) parents
IsReplyTo layers asked answer = ⊥

-- a question asks for a search along parents
abbrev pub IsSearched : Question → Type 0
IsSearched (IsAncestor first second) = ⊤
IsSearched (Walk first second) = ⊤
IsSearched (MergeBase first others) = ⊤
IsSearched (Find id) = ⊥
IsSearched (Parents id) = ⊥
IsSearched Reload = ⊥

-- memory ran out in the search, where all ids are there
abbrev pub MayWant : List Layer → Question → Type 0
MayWant layers asked = IsSearched asked × All (IsThere layers) (question_ids asked)

-- what may be answered over a right graph: an answer; or that memory ran out
abbrev pub MayReplyOver : List Layer → Question → Result ListedReply Refusal → Type 0
MayReplyOver layers asked (Ok answer) = IsReplyTo layers asked answer
MayReplyOver layers asked (Err refused) = (refused ≡ refusal.Walk) × MayWant layers asked

-- its text is told
abbrev pub TellsOver : List Layer → Question → List ℕ → Type 0
TellsOver layers asked told =
    (answer : Result ListedReply Refusal) × MayReplyOver layers asked answer × (told ≡ response_text Whole answer)

-- For private contracts: the first id that is not in a graph stands at this place
abbrev pub IsFirstMissing : List Layer → List (List ℕ) → ℕ → Type 0
IsFirstMissing layers ids place =
    All (IsThere layers) (take place ids)
    × ((id : List ℕ) × (slice_get ids place ≡ Some id) × (scan (graph_ids layers) id ≡ None))
