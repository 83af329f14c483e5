-- What may be told to a question about the commits of a right graph, or of none, and of those that were asked for on top.
use Rattle.std.specs.Prelude.{◌≡◌, ◌↔◌, ◌⊎◌, ℕ, ◌+◌, List, [], ◌∷◌, Bool, IsTrue, Option, Some, None, Ok, Err, slice_get}
use Rattle.std.specs.List.{AllZip}
use Rattle.gix_hash_core.specs.declared.kind.Kind.{Kind}
use Rattle.graph_walks.specs.History.{Node}
use Rattle.graph_walks.specs.Walks.{Reaches}
use Rattle.graph_folder.specs.declared.folder.ReadError.TheVariants as read
use Rattle.graph_format.specs.Layer.{Layer}
use Rattle.graph_format.specs.StoredHistory.{history_of}
use Rattle.gix_commitgraph.specs.Graph.{graph_ids, total}
use Rattle.commit_search.specs.Positions.{numbers_of}
use Rattle.commit_search.specs.Ranks.{Ranking, by_generation}
use Rattle.commit_search.specs.WalkAnswer.{IsShortestWalk}
use Rattle.graph_bases.specs.Comparison.{IsComparisonBy}
use Rattle.graph_history.specs.GraphComparison.{AreDatesOf}
use Rattle.answers.specs.FoundOf.{IsFoundOf, OfFirst, OfTwo}
use Rattle.answers.specs.declared.comparison.IdComparison.{IdComparison}
use Rattle.answer_lines.specs.Replies.{ListedReply, missing_of}
use Rattle.answer_lines.specs.declared.reply.Reply.TheVariants as reply
use Rattle.graph_commands.specs.declared.refusal.Refusal.TheVariants.{Id, Read, File, Open, Verify, Walk}
use Rattle.history_commands.specs.CheckedReplies.{Scans}
use Rattle.question_lines.specs.Questions.{question_ids}
use Rattle.question_lines.specs.declared.question.Question.{Question}
use Rattle.question_lines.specs.declared.question.Question.TheVariants as question
use Rattle.newer_commits.specs.CommitsOnTop.{CommitsOnTop, nodes_on_top}
use Rattle.newer_commits.specs.FindingOnTop.{Finds, HasId}
use Rattle.newer_commits.specs.JoinedHistory.{joined_history}
use Rattle.newer_commits.specs.RanksOnTop.{ranking_on_top}
use Rattle.commit_requests.specs.Completion.{IsCompleteRefusal}
use Rattle.commit_requests.specs.declared.error.CompleteError.{CompleteError}
use Rattle.commit_requests.specs.declared.error.CompleteError.TheVariants as completion
use Rattle.newer_questions.specs.AskedOnTop.{AreAllOnTop, AreAskedOnTop, IsNothingOver}
use Rattle.newer_commands.specs.KindOver.{IsKindOver}
use Rattle.newer_commands.specs.AskedReply.{AskedReply, Verdict}
use Rattle.newer_commands.specs.declared.refusal.NewerRefusal.TheVariants.{Changed, Common, Entry, Unreadable, Cycle, Full}

-- the history of all commits: those of the graph, and then the newer ones
abbrev pub history_over : List Layer → CommitsOnTop → List Node
history_over layers top = joined_history (history_of layers) (nodes_on_top top)

-- the commit at a position has this id
abbrev pub HasIdOver : List Layer → CommitsOnTop → ℕ → List ℕ → Type 0
HasIdOver layers = HasId (λ p id. slice_get (graph_ids layers) p ≡ Some id)

-- it is told whether a walk along parents leads from the second commit to the first
abbrev pub IsToldOver : List Layer → CommitsOnTop → ℕ → ℕ → Bool → Type 0
IsToldOver layers top first second told = IsTrue told ↔ Reaches (history_over layers top) second first

-- these are the ids on a shortest walk along parents from the first commit to the second; where there are none, no walk leads
-- there
abbrev pub IsWalkOver : List Layer → CommitsOnTop → ℕ → ℕ → Option (List (List ℕ)) → Type 0
IsWalkOver layers top first second (Some ids) =
    (walk : List ℕ) × IsShortestWalk (history_over layers top) first second walk × AllZip (HasIdOver layers top) walk ids
IsWalkOver layers top first second None = ¬ Reaches (history_over layers top) first second

-- a search may order all commits by these ranks: the generation numbers; or the corrected dates of the graph, and the newer
-- commits before all of its own
abbrev pub IsRankingOver : List Layer → CommitsOnTop → Ranking → Type 0
IsRankingOver layers top ranking =
    (ranking ≡ by_generation (history_over layers top))
    ⊎ ((dates : List ℕ) × AreDatesOf layers dates × (ranking ≡ ranking_on_top dates))

-- how the first commit compares with the others, with the ids of the merge bases
abbrev pub AreBasesOver : List Layer → CommitsOnTop → ℕ → List ℕ → IdComparison (List (List ℕ)) → Type 0
AreBasesOver layers top first others known =
    ((ranking : Ranking) × IsRankingOver layers top ranking
    × IsComparisonBy (history_over layers top) ranking first others known.comparison)
    × AllZip (HasIdOver layers top) (numbers_of known.comparison.bases.positions.items) known.base_ids

-- this is the answer to a question about commits that are all there
abbrev pub IsReplyOver : List Layer → CommitsOnTop → Question → ListedReply → Type 0
IsReplyOver layers top (question.IsAncestor first second) (reply.Told told) =
    IsFoundOf (Finds (Scans layers) top) (OfTwo (IsToldOver layers top)) (first ∷ second ∷ []) told
IsReplyOver layers top (question.Walk first second) (reply.Walk walk) =
    IsFoundOf (Finds (Scans layers) top) (OfTwo (IsWalkOver layers top)) (first ∷ second ∷ []) walk
IsReplyOver layers top (question.MergeBase first others) (reply.Compared compared) =
    IsFoundOf (Finds (Scans layers) top) (OfFirst (AreBasesOver layers top)) (first ∷ others.items) compared
IsReplyOver layers top asked answer = ⊥

-- why commits that a question needs are not all there, over a graph of which no read fails
abbrev pub IsStoppedBy : Kind → List Layer → CommitsOnTop → CommitsOnTop → List (List ℕ) → List (List ℕ) → Option (List ℕ)
    → CompleteError ⊥ → Type 0
IsStoppedBy kind layers none top ids asked known error =
    IsCompleteRefusal kind (Scans layers) (λ _. ⊥) none top ids asked known error

-- an answer: what is so of all commits; or the number of an id of the question that is that of no object, 1 for the first
abbrev pub MayAnswerOver : Kind → List Layer → CommitsOnTop → CommitsOnTop → Question → List (List ℕ) → Option (List ℕ)
    → ListedReply → Type 0
MayAnswerOver kind layers none top asked requests known answer =
    (AreAllOnTop kind (Scans layers) (question_ids asked) requests known top × IsReplyOver layers top asked answer)
    ⊎ ((number : ℕ) × (missing_of answer ≡ Some (number + 1))
    × IsStoppedBy kind layers none top (question_ids asked) requests known (completion.Unknown number))

-- what is told at last. Any read of the input may fail, and memory run out at any time
abbrev pub MayTellAtLast : Kind → List Layer → CommitsOnTop → CommitsOnTop → Question → List (List ℕ) → Option (List ℕ)
    → Verdict → Type 0
MayTellAtLast kind layers none top asked requests known (Ok answer) =
    MayAnswerOver kind layers none top asked requests known answer
MayTellAtLast kind layers none top asked requests known (Err (Entry id error)) =
    IsStoppedBy kind layers none top (question_ids asked) requests known (completion.Entry id error)
MayTellAtLast kind layers none top asked requests known (Err (Unreadable id)) =
    IsStoppedBy kind layers none top (question_ids asked) requests known (completion.Unreadable id)
MayTellAtLast kind layers none top asked requests known (Err (Cycle id)) =
    IsStoppedBy kind layers none top (question_ids asked) requests known (completion.Cycle id)
MayTellAtLast kind layers none top asked requests known (Err Full) =
    IsStoppedBy kind layers none top (question_ids asked) requests known completion.Full
MayTellAtLast kind layers none top asked requests known (Err (Common (Read read.Device))) =
    IsStoppedBy kind layers none top (question_ids asked) requests known completion.Device
MayTellAtLast kind layers none top asked requests known (Err (Common Walk)) =
    IsStoppedBy kind layers none top (question_ids asked) requests known completion.OutOfMemory
MayTellAtLast kind layers none top asked requests known (Err (Common refusal)) = ⊥
MayTellAtLast kind layers none top asked requests known (Err Changed) = ⊥

-- This may be told to a question over the commits of these layers, which are none where there is no graph: lines that ask for
-- what is lacking, and then an answer or a refusal. The reader has these bytes, where they are known.
pub record MayTellOver (layers : List Layer) (known : Option (List ℕ)) (asked : Question) (told : AskedReply) : Type 0 where
  pub kind : Kind
  pub is_kind : IsKindOver layers (question_ids asked) kind
  pub none : CommitsOnTop
  pub nothing : IsNothingOver (total layers) none
  pub top : CommitsOnTop
  pub on_top : AreAskedOnTop kind (Scans layers) none (question_ids asked) told.asked top
  pub at_last : MayTellAtLast kind layers none top asked told.asked known told.verdict
