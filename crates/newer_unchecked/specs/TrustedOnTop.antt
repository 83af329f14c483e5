-- What may be told to a question over a trusted graph, of whose files parts are read, and over commits that are asked for.
use Rattle.std.specs.Prelude.{◌≡◌, ◌⊎◌, ℕ, List, [], All, Option, Some, None, Result, Ok, Err, Vec, IsOkAnd, ⊤}
use Rattle.std.specs.Prelude.{option_map, slice_get}
use Rattle.std.specs.Global.{Global}
use Rattle.gix_hash_core.specs.declared.kind.Kind.{Kind}
use Rattle.graph_folder.specs.Failures.{one_more}
use Rattle.graph_format.specs.Layer.{Layer}
use Rattle.graph_format.specs.StoredHistory.{history_of}
use Rattle.graph_layer.specs.declared.opening.error.OpenError.{OpenError}
use Rattle.graph_layer.specs.declared.opening.error.OpenError.TheVariants.{Device}
use Rattle.gix_commitgraph.specs.Graph.{graph_ids, total}
use Rattle.gix_commitgraph.specs.GraphLookup.{FoundIn}
use Rattle.gix_commitgraph.specs.Sound.{Sound}
use Rattle.commit_search.specs.Source.{Told}
use Rattle.graph_unchecked.specs.declared.unread.Unread.{Unread}
use Rattle.graph_unchecked.specs.declared.unread.Unread.TheVariants as unread
use Rattle.answer_lines.specs.Replies.{listed_reply}
use Rattle.answer_lines.specs.declared.reply.Reply.{Reply}
use Rattle.graph_commands.specs.declared.refusal.Refusal.TheVariants.{Open, Verify, Walk}
use Rattle.history_commands.specs.Check.{MayRefuseToStart}
use Rattle.question_lines.specs.declared.question.Question.{Question}
use Rattle.commit_requests.specs.declared.error.CompleteError.{CompleteError}
use Rattle.commit_requests.specs.declared.error.CompleteError.TheVariants.{Lost}
use Rattle.newer_questions.specs.QuestionsOnTop.{MayAnswerOnTop}
use Rattle.newer_commands.specs.AskedNewer.{MayReplyNewer}
use Rattle.newer_commands.specs.AskedReply.{AskedReply, IsToldFor, IsVerdictOf, Verdict, listed_verdict}
use Rattle.newer_commands.specs.declared.refusal.NewerRefusal.{NewerRefusal}
use Rattle.newer_commands.specs.declared.refusal.NewerRefusal.TheVariants.{Changed, Common}
use Rattle.unchecked_commands.specs.OnlyAnswer.{IsOnlyAnswer}

-- a graph tells its own history
abbrev pub TellsHistory : List Layer → Told → Type 0
TellsHistory layers t = t.history ≡ history_of layers

-- the commit at a position of a graph has this id
abbrev pub HasIdIn : List Layer → ℕ → List ℕ → Type 0
HasIdIn layers p id = slice_get (graph_ids layers) p ≡ Some id

-- what is told of an error; none, where parts do not suffice
abbrev pub verdict_by_parts : Result Verdict Unread → Option Verdict
verdict_by_parts (Ok verdict) = Some verdict
verdict_by_parts (Err unread.OutOfMemory) = Some (Err (Common Walk))
verdict_by_parts (Err error) = None

-- what is told of what came of a question by parts; none, where they do not suffice
abbrev pub IsToldOfParts : Result (Reply (Vec (List ℕ) Global)) (CompleteError Unread) → Option Verdict → Type 0
IsToldOfParts (Ok reply) found = found ≡ Some (Ok (listed_reply reply))
IsToldOfParts (Err (Lost id)) found = found ≡ None
IsToldOfParts (Err error) found = (told : Result Verdict Unread) × IsVerdictOf error told × (found ≡ verdict_by_parts told)

-- This may come of a question over the commits of these layers, of whose files parts are read: those commits were asked for that
-- are lacking; and then an answer comes, or why there is none; or it is told that a read of the files failed. The reader has
-- these bytes, where they are known.
pub record MayComeByParts (layers : List Layer) (known : Option (List ℕ)) (question : Question) (asked : List (List ℕ))
    (found : Option Verdict) : Type 0 where
  pub kind : Kind
  pub are_kind : All (λ layer. layer.kind ≡ kind) layers
  pub outcome : Result (Reply (Vec (List ℕ) Global)) (CompleteError Unread)
  pub comes :
      MayAnswerOnTop kind (total layers) (TellsHistory layers) (FoundIn layers) (HasIdIn layers) None (λ _. ⊤) known question
      asked outcome
  pub is_told : IsToldOfParts outcome found ⊎ (found ≡ Some (Err (Common (Open Device))))

-- where parts do not suffice, it is told why the whole graph is refused, or that it has changed
abbrev pub IsToldOfWhole : Verdict → Type 0
IsToldOfWhole (Err (Common (Open error))) = ⊤
IsToldOfWhole (Err (Common (Verify error))) = ⊤
IsToldOfWhole (Err Changed) = ⊤
IsToldOfWhole verdict = ⊥

-- this is told of what came by parts
abbrev pub IsToldWith : Option Verdict → Verdict → Type 0
IsToldWith (Some found) verdict = IsToldFor found verdict
IsToldWith None verdict = IsToldOfWhole verdict

-- what may be told over the commits of these layers: lines that ask for what is lacking, and then what came of it
abbrev pub MayTellByParts : List Layer → Option (List ℕ) → Question → AskedReply → Type 0
MayTellByParts layers known question told =
    (found : Option Verdict) × MayComeByParts layers known question told.asked found × IsToldWith found told.verdict

-- what may be told while the count of failed reads goes from `before` to `after`: that one failed only where one did, of the
-- whole graph only what the opener may answer, and anything else only where none failed
abbrev pub IsReadSo : (ℕ → ℕ → Result (List Layer) OpenError → Type 0) → ℕ → ℕ → Verdict → Type 0
IsReadSo MayOpen before after (Err (Common (Open error))) =
    ((error ≡ Device) × (after ≡ one_more before)) ⊎ MayOpen before after (Err error)
IsReadSo MayOpen before after (Err (Common (Verify error))) = MayRefuseToStart (MayOpen before after) (Verify error)
IsReadSo MayOpen before after (Err Changed) = (layers : List Layer) × MayOpen before after (Ok layers) × Sound layers
IsReadSo MayOpen before after verdict = after ≡ before

-- what may be told of a graph that is read by parts: what is so of the graph that is the opener's only answer; and nothing, where
-- that is a refusal
abbrev pub IsToldByParts : (ℕ → ℕ → Result (List Layer) OpenError → Type 0) → ℕ → ℕ → Option (List ℕ) → Question → AskedReply
    → Type 0
IsToldByParts MayOpen before after known question told =
    IsReadSo MayOpen before after told.verdict
    × ((opened : Result (List Layer) OpenError) → IsOnlyAnswer MayOpen opened
    → IsOkAnd opened (λ layers. MayTellByParts layers known question told))

-- nothing is asked for, since a read of the folder failed, or memory ran out
abbrev pub IsNotBegun : ℕ → ℕ → AskedReply → Type 0
IsNotBegun before after told =
    (told.asked ≡ [])
    × (((told.verdict ≡ Err (Common (Open Device))) × (after ≡ one_more before))
    ⊎ ((told.verdict ≡ Err (Common Walk)) × (after ≡ before)))

-- what may be told to a question over the graph at a path, which is trusted, or over none where there is no path: what is read by
-- parts, or why that did not begin; or where parts do not suffice to begin, what is told over a graph that is checked
abbrev pub MayReplyTrustedNewer : Option (List ℕ) → Type 0 → (List ℕ → ℕ → ℕ → Result (List Layer) OpenError → Type 0) → ℕ → ℕ
    → Option (List ℕ) → Option (List ℕ) → Question → AskedReply → Type 0
MayReplyTrustedNewer None IsLeftAlone MayOpenAt before after known left question told =
    MayReplyNewer None IsLeftAlone (λ at. MayOpenAt at before after) known left question told
MayReplyTrustedNewer (Some path) IsLeftAlone MayOpenAt before after known left question told =
    IsToldByParts (MayOpenAt path) before after known question told
    ⊎ IsNotBegun before after told
    ⊎ MayReplyNewer (Some path) IsLeftAlone (λ at. MayOpenAt at before after) known left question told

-- For private contracts: it is not told that a read of the folder failed, and nothing is told of the whole graph
abbrev pub IsPlain : Option Verdict → Type 0
IsPlain (Some (Err (Common (Open error)))) = ⊥
IsPlain (Some (Err (Common (Verify error)))) = ⊥
IsPlain (Some (Err Changed)) = ⊥
IsPlain found = ⊤

-- a failed read is told where one failed, and nothing else is told there
abbrev pub IsFailureCounted : ℕ → ℕ → Option Verdict → Type 0
IsFailureCounted before after found =
    (IsPlain found × (after ≡ before)) ⊎ ((found ≡ Some (Err (Common (Open Device)))) × (after ≡ one_more before))

-- this is said of the whole graph, where the opener may answer so
abbrev pub IsRefusalOfWhole : (Result (List Layer) OpenError → Type 0) → NewerRefusal → Type 0
IsRefusalOfWhole MayOpen (Common refusal) = MayRefuseToStart MayOpen refusal
IsRefusalOfWhole MayOpen Changed = (layers : List Layer) × MayOpen (Ok layers) × Sound layers
IsRefusalOfWhole MayOpen refusal = ⊥

abbrev pub listed_found : Option (Result (Reply (Vec (List ℕ) Global)) NewerRefusal) → Option Verdict
listed_found found = option_map listed_verdict found
