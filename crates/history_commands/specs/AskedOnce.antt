-- What a command may answer to one question, for the texts of its ids.
use Rattle.std.specs.Prelude.{◌≡◌, ◌⊎◌, ℕ, List, [], ◌∷◌, Result, Ok, Err}
use Rattle.std.specs.List.{AllZip}
use Rattle.gix_hash_core.specs.Hexadecimal.{SpellsId, SpellsNone}
use Rattle.gix_hash_core.specs.declared.object_id.IdError.{IdError}
use Rattle.graph_format.specs.Layer.{Layer}
use Rattle.graph_layer.specs.declared.opening.error.OpenError.{OpenError}
use Rattle.gix_commitgraph.specs.Sound.{Sound}
use Rattle.graph_ancestors.specs.RefusedGraph.{MayRefuseGraph}
use Rattle.answer_lines.specs.Replies.{ListedReply}
use Rattle.graph_commands.specs.declared.refusal.Refusal.{Refusal}
use Rattle.graph_commands.specs.declared.refusal.Refusal.TheVariants.{Id, Read, File, Open, Verify, Walk}
use Rattle.history_commands.specs.CheckedReplies.{IsReplyTo, MayWant}
use Rattle.question_lines.specs.Questions.{question_ids, question_name}
use Rattle.question_lines.specs.declared.question.Name.{Name}
use Rattle.question_lines.specs.declared.question.Name.TheVariants.{MergeBase}
use Rattle.question_lines.specs.declared.question.Question.{Question}

-- what may be answered to a question where the graph is opened and checked, given what the opener may answer: what is found in a
-- right graph; why there is none; or that memory ran out in the search
abbrev pub MayReplyAt : (Result (List Layer) OpenError → Type 0) → Question → Result ListedReply Refusal → Type 0
MayReplyAt MayOpen asked (Ok answer) =
    (layers : List Layer) × MayOpen (Ok layers) × Sound layers × IsReplyTo layers asked answer
MayReplyAt MayOpen asked (Err (Open error)) = MayOpen (Err error)
MayReplyAt MayOpen asked (Err (Verify error)) = (layers : List Layer) × MayOpen (Ok layers) × MayRefuseGraph layers error
MayReplyAt MayOpen asked (Err Walk) = (layers : List Layer) × MayOpen (Ok layers) × Sound layers × MayWant layers asked
MayReplyAt MayOpen asked (Err (Id error)) = ⊥
MayReplyAt MayOpen asked (Err (Read error)) = ⊥
MayReplyAt MayOpen asked (Err (File error)) = ⊥

-- the first of the texts that is no id, and why
abbrev pub SpellNotAll : List (List ℕ) → IdError → Type 0
SpellNotAll [] error = ⊥
SpellNotAll (text ∷ texts) error = SpellsNone text error ⊎ ((id : List ℕ) × SpellsId text id × SpellNotAll texts error)

-- why texts are not read as ids: the first of them that is none; or that memory ran out, where all of them are ids
abbrev pub MayNotReadIds : List (List ℕ) → Refusal → Type 0
MayNotReadIds texts (Id error) = SpellNotAll texts error
MayNotReadIds texts Walk = (ids : List (List ℕ)) × AllZip SpellsId texts ids
MayNotReadIds texts refusal = ⊥

-- why the texts of a question are not read as its ids; only to read those of a question about several commits takes memory
abbrev pub MayNotReadTexts : Name → List (List ℕ) → Result ListedReply Refusal → Type 0
MayNotReadTexts name texts (Err (Id error)) = SpellNotAll texts error
MayNotReadTexts name texts (Err Walk) = (name ≡ MergeBase) × ((ids : List (List ℕ)) × AllZip SpellsId texts ids)
MayNotReadTexts name texts answer = ⊥

-- what may be answered to the question of a name about the ids that texts spell: what is answered to the question; or why the
-- texts are not read, where the folder is left as it was: nothing is opened
abbrev pub MayAskOnce : Name → List (List ℕ) → Type 0 → (Question → Result ListedReply Refusal → Type 0)
    → Result ListedReply Refusal → Type 0
MayAskOnce name texts IsLeftAlone MayReply answer =
    ((asked : Question) × (question_name asked ≡ name) × AllZip SpellsId texts (question_ids asked) × MayReply asked answer)
    ⊎ (MayNotReadTexts name texts answer × IsLeftAlone)
