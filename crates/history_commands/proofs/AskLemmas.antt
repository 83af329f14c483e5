-- From what is found in a graph to the answer of a command.
use Rattle.std.proofs.Common.{◌≡◌, ℕ, List, [], ◌∷◌, All, Option, Vec, inl, inr, refl, subst, sym}
use Rattle.std.specs.Prelude.{Result, Ok, Err, IfOk, OnOk}
use Rattle.std.specs.Io.KnownBytes.{Appends}
use Rattle.std.specs.Global.{Global}
use Rattle.std.specs.List.{AllZip}
use Rattle.gix_hash_core.specs.Hexadecimal.{SpellsId}
use Rattle.graph_format.specs.Layer.{Layer}
use Rattle.graph_layer.specs.declared.opening.error.OpenError.{OpenError}
use Rattle.gix_commitgraph.specs.Sound.{Sound}
use Rattle.answers.proofs.FoundLemmas.{all_found}
use Rattle.answers.specs.FoundOf.{IsFoundOf, OfFirst}
use Rattle.answers.specs.declared.answer.Answer.{Answer}
use Rattle.answers.specs.declared.answer.Answer.TheVariants.{Known, Unknown}
use Rattle.answers.specs.declared.comparison.IdComparison.{IdComparison}
use Rattle.answer_lines.specs.Replies.{IsKnown, ListedReply, response_text}
use Rattle.answer_lines.specs.declared.reply.Form.TheVariants.{Whole}
use Rattle.answer_lines.specs.declared.reply.Reply.TheVariants as reply
use Rattle.graph_commands.specs.Ancestor.{IsThere}
use Rattle.graph_commands.specs.WrittenAnswer.{WritesAnswer}
use Rattle.graph_commands.specs.declared.refusal.Refusal.{Refusal}
use Rattle.graph_commands.specs.declared.refusal.Refusal.TheVariants.{Id, Read, File, Open, Verify, Walk}
use Rattle.history_commands.specs.AskedOnce.{MayAskOnce, MayNotReadTexts, MayNotReadIds, MayReplyAt}
use Rattle.history_commands.specs.Check.{MayRefuseToStart}
use Rattle.history_commands.specs.CheckedReplies.{AreBasesOf, IsReplyTo, IsSearched, MayReplyOver, Scans, TellsOver}
use Rattle.question_lines.specs.Questions.{question_ids, question_name}
use Rattle.question_lines.specs.declared.question.Name.{Name}
use Rattle.question_lines.specs.declared.question.Name.TheVariants.{MergeBase}
use Rattle.question_lines.specs.declared.question.Question.{Question}
use Rattle.question_lines.specs.declared.question.Question.TheVariants as question

-- why no right graph is found
pub refused_to_start : (MayOpen : Result (List Layer) OpenError → Type 0) (asked : Question) (refusal : Refusal)
    → MayRefuseToStart MayOpen refusal → MayReplyAt MayOpen asked (Err refusal)
refused_to_start MayOpen asked (Open error) why = why
refused_to_start MayOpen asked (Verify error) why = why
refused_to_start MayOpen asked (Id error) why = absurd why
refused_to_start MayOpen asked (Read error) why = absurd why
refused_to_start MayOpen asked (File error) why = absurd why
refused_to_start MayOpen asked Walk why = absurd why

-- where no id is told to be missing, all are there
known_there : (layers : List Layer) (asked : Question) (answer : ListedReply) → IsSearched asked → IsReplyTo layers asked answer
    → IsKnown answer → All (IsThere layers) (question_ids asked)
known_there layers (question.IsAncestor a b) (reply.Told (Known told)) searched is known =
    all_found (Scans layers) (a ∷ b ∷ []) is.0 is.1
known_there layers (question.IsAncestor a b) (reply.Told (Unknown number)) searched is known = cc
known_there layers (question.IsAncestor a b) (reply.Found found) searched is known = absurd is
known_there layers (question.IsAncestor a b) (reply.Walk walk) searched is known = absurd is
known_there layers (question.IsAncestor a b) (reply.Compared compared) searched is known = absurd is
known_there layers (question.IsAncestor a b) (reply.Parents parents) searched is known = absurd is
known_there layers (question.Walk a b) (reply.Walk (Known walk)) searched is known =
    all_found (Scans layers) (a ∷ b ∷ []) is.0 is.1
known_there layers (question.Walk a b) (reply.Walk (Unknown number)) searched is known = cc
known_there layers (question.Walk a b) (reply.Found found) searched is known = absurd is
known_there layers (question.Walk a b) (reply.Told told) searched is known = absurd is
known_there layers (question.Walk a b) (reply.Compared compared) searched is known = absurd is
known_there layers (question.Walk a b) (reply.Parents parents) searched is known = absurd is
known_there layers (question.MergeBase first others) (reply.Compared (Known compared)) searched is known =
    all_found (Scans layers) (first ∷ others.items) is.0 is.1
known_there layers (question.MergeBase first others) (reply.Compared (Unknown number)) searched is known = cc
known_there layers (question.MergeBase first others) (reply.Found found) searched is known = absurd is
known_there layers (question.MergeBase first others) (reply.Told told) searched is known = absurd is
known_there layers (question.MergeBase first others) (reply.Walk walk) searched is known = absurd is
known_there layers (question.MergeBase first others) (reply.Parents parents) searched is known = absurd is
known_there layers (question.Find id) answer searched is known = absurd searched
known_there layers (question.Parents id) answer searched is known = absurd searched
known_there layers question.Reload answer searched is known = absurd searched

-- where something is known, there may be no memory to write it
pub wants : (MayOpen : Result (List Layer) OpenError → Type 0) (asked : Question) (answer : ListedReply) → IsSearched asked
    → MayReplyAt MayOpen asked (Ok answer) → IsKnown answer → MayReplyAt MayOpen asked (Err Walk)
wants MayOpen asked answer searched may known =
    (may.0, may.1, may.2, (searched, known_there may.0 asked answer searched may.3 known))

-- an answer to the question that the texts spell was written, if it was
pub asks_read : {E : Type 0} (text_of : Result ListedReply Refusal → List ℕ) (status_of : Result ListedReply Refusal → ℕ)
    (name : Name) (texts : List (List ℕ)) (IsLeftAlone : Type 0) (MayReply : Question → Result ListedReply Refusal → Type 0)
    (asked : Question) (result : Result ℕ E) (old new : Option (List ℕ)) → question_name asked ≡ name
    → AllZip SpellsId texts (question_ids asked) → IfOk result (WritesAnswer text_of status_of (MayReply asked) old new)
    → IfOk result (WritesAnswer text_of status_of (MayAskOnce name texts IsLeftAlone MayReply) old new)
asks_read text_of status_of name texts IsLeftAlone MayReply asked (Ok status) old new named spelled written =
    (written.0, inl (asked, named, spelled, written.1), written.2, written.3)
asks_read text_of status_of name texts IsLeftAlone MayReply asked (Err failed) old new named spelled written = tt

-- why the texts of a question about several commits are not read
pub not_read : (texts : List (List ℕ)) (refusal : Refusal) → MayNotReadIds texts refusal
    → MayNotReadTexts MergeBase texts (Err refusal)
not_read texts (Id error) why = why
not_read texts Walk why = (refl, why)
not_read texts (Read error) why = absurd why
not_read texts (File error) why = absurd why
not_read texts (Open error) why = absurd why
not_read texts (Verify error) why = absurd why

-- what may be answered over a right graph may be answered where the opener may answer it
pub replies_over : (MayOpen : Result (List Layer) OpenError → Type 0) (layers : List Layer) (asked : Question)
    (answer : Result ListedReply Refusal) → MayOpen (Ok layers) → Sound layers → MayReplyOver layers asked answer
    → MayReplyAt MayOpen asked answer
replies_over MayOpen layers asked (Ok answer) opens sound may = (layers, opens, sound, may)
replies_over MayOpen layers asked (Err refusal) opens sound may =
    subst (λ (one : Refusal). MayReplyAt MayOpen asked (Err one)) (sym may.0) (layers, opens, sound, may.1)

-- why other ids are not read, after the first
pub not_read_later : (text : List ℕ) (texts : List (List ℕ)) (id : List ℕ) (refusal : Refusal) → SpellsId text id
    → MayNotReadIds texts refusal → MayNotReadIds (text ∷ texts) refusal
not_read_later text texts id (Id error) first why = inr (id, first, why)
not_read_later text texts id Walk first why = (id ∷ why.0, (first, why.1))
not_read_later text texts id (Read error) first why = absurd why
not_read_later text texts id (File error) first why = absurd why
not_read_later text texts id (Open error) first why = absurd why
not_read_later text texts id (Verify error) first why = absurd why

-- the lines of an answer that may be given were added, if they were
pub adds : {T E : Type 0} (result : Result T E) (layers : List Layer) (asked : Question) (answer : Result ListedReply Refusal)
    (old new : Option (List ℕ)) → MayReplyOver layers asked answer → OnOk result (Appends old new (response_text Whole answer))
    → OnOk result ((told : List ℕ) × TellsOver layers asked told × Appends old new told)
adds (Ok value) layers asked answer old new may written = (response_text Whole answer, (answer, may, refl), written)
adds (Err error) layers asked answer old new may written = tt

-- memory ran out for the same question over the same graph
pub want_for : (layers these : List Layer) (ids those : List (List ℕ)) (refusal : Refusal) → these ≡ layers → those ≡ ids
    → (refusal ≡ Walk) × All (IsThere these) those → (refusal ≡ Walk) × All (IsThere layers) ids
want_for layers these ids those refusal graph same want =
    (want.0, subst (All (IsThere layers)) same (subst (λ (l : List Layer). All (IsThere l) those) graph want.1))

-- what commits of the same graph have in common is answered to the same question
pub replies_compared : (layers these : List Layer) (asked : Question) (first : List ℕ) (others : Vec (List ℕ) Global)
    (ids : List (List ℕ)) (answer : Answer (IdComparison (List (List ℕ)))) → these ≡ layers → ids ≡ first ∷ others.items
    → asked ≡ question.MergeBase first others → IsFoundOf (Scans these) (OfFirst (AreBasesOf these)) ids answer
    → IsReplyTo layers asked (reply.Compared answer)
replies_compared layers these asked first others ids answer graph same is found =
    let here = subst (λ (l : List Layer). IsFoundOf (Scans l) (OfFirst (AreBasesOf l)) ids answer) graph found in
    subst (λ (q : Question). IsReplyTo layers q (reply.Compared answer)) (sym is)
    (subst (λ (those : List (List ℕ)). IsFoundOf (Scans layers) (OfFirst (AreBasesOf layers)) those answer) same here)
