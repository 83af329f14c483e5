-- From what comes of a question by parts to what is told.
use Rattle.std.proofs.Common.{◌≡◌, ◌≢◌, ◌⊎◌, ◌∙◌, ℕ, List, Option, Some, None, ap, inl, inr, refl, subst, sym}
use Rattle.std.proofs.KnownBytes.{Appends-trans}
use Rattle.std.specs.Global.{Global}
use Rattle.std.specs.Io.KnownBytes.{Appends}
use Rattle.std.specs.Option.{ForSome}
use Rattle.std.specs.Prelude.{Result, Ok, Err, IfErr, IfOk, OnErr, Vec}
use Rattle.graph_folder.specs.Failures.{one_more}
use Rattle.graph_folder.specs.Tree.{Tree}
use Rattle.graph_format.specs.Layer.{Layer}
use Rattle.graph_layer.specs.declared.opening.error.OpenError.{OpenError}
use Rattle.graph_layer.specs.declared.opening.error.OpenError.TheVariants.{Device}
use Rattle.graph_unchecked.specs.Unchecked.{IsAnswerAt}
use Rattle.graph_unchecked.specs.Unread.{failures_after_reads}
use Rattle.graph_unchecked.specs.declared.unread.Unread.{Unread}
use Rattle.graph_unchecked.proofs.FailureLemmas.{risen-if}
use Rattle.graph_unchecked.specs.declared.unread.Unread.TheVariants as unread
use Rattle.answer_lines.specs.declared.reply.Form.{Form}
use Rattle.answer_lines.specs.declared.reply.Reply.{Reply}
use Rattle.graph_commands.specs.OpenerAnswer.{MayOpen}
use Rattle.graph_commands.specs.Text.{◌⧺◌, newline}
use Rattle.graph_commands.specs.WrittenAnswer.{WritesAnswer}
use Rattle.graph_commands.specs.declared.refusal.Refusal.TheVariants.{File, Id, Open, Read, Verify, Walk}
use Rattle.question_lines.specs.declared.question.Question.{Question}
use Rattle.commit_requests.specs.Requested.{request_lines}
use Rattle.commit_requests.specs.declared.error.CompleteError.{CompleteError}
use Rattle.commit_requests.specs.declared.error.CompleteError.TheVariants as completion
use Rattle.newer_commands.specs.AskedReply.{AskedReply, IsToldFor, IsVerdictOf, Verdict, asked_status, asked_text}
use Rattle.newer_commands.specs.AskedReply.{status_of_verdict, verdict_text}
use Rattle.newer_commands.specs.declared.refusal.NewerRefusal.{NewerRefusal}
use Rattle.newer_commands.specs.declared.refusal.NewerRefusal.TheVariants.{Changed, Common, Cycle, Entry, Full, Unreadable}
use Rattle.unchecked_commands.proofs.OnlyAnswerLemmas.{so_of_only}
use Rattle.newer_unchecked.specs.TrustedOnTop.{IsFailureCounted, IsPlain, IsReadSo, IsRefusalOfWhole, IsToldByParts}
use Rattle.newer_unchecked.specs.TrustedOnTop.{IsToldOfParts, IsToldOfWhole, IsToldWith, MayComeByParts, MayTellByParts}
use Rattle.newer_unchecked.specs.TrustedOnTop.{verdict_by_parts}

-- ---- What is told of what came by parts is plain.

plain_told : (told : Result Verdict Unread) → IsPlain (verdict_by_parts told) → (found : Option Verdict)
    → found ≡ verdict_by_parts told → IsPlain found
plain_told told plain found is = subst IsPlain (sym is) plain

plain_of : (error : CompleteError Unread) (told : Result Verdict Unread) → IsVerdictOf error told
    → IsPlain (verdict_by_parts told)
plain_of (completion.Unknown number) told is = subst (λ (t : Result Verdict Unread). IsPlain (verdict_by_parts t)) (sym is.1) tt
plain_of (completion.Entry id error) told is = subst (λ (t : Result Verdict Unread). IsPlain (verdict_by_parts t)) (sym is) tt
plain_of (completion.Unreadable id) told is = subst (λ (t : Result Verdict Unread). IsPlain (verdict_by_parts t)) (sym is) tt
plain_of (completion.Cycle id) told is = subst (λ (t : Result Verdict Unread). IsPlain (verdict_by_parts t)) (sym is) tt
plain_of completion.Full told is = subst (λ (t : Result Verdict Unread). IsPlain (verdict_by_parts t)) (sym is) tt
plain_of completion.OutOfMemory told is = subst (λ (t : Result Verdict Unread). IsPlain (verdict_by_parts t)) (sym is) tt
plain_of completion.Device told is = subst (λ (t : Result Verdict Unread). IsPlain (verdict_by_parts t)) (sym is) tt
plain_of completion.WriteFailed told is = absurd is
plain_of (completion.Lost id) told is = absurd is
plain_of (completion.Source unread.Device) told is =
    subst (λ (t : Result Verdict Unread). IsPlain (verdict_by_parts t)) (sym is) tt
plain_of (completion.Source unread.OutOfMemory) told is =
    subst (λ (t : Result Verdict Unread). IsPlain (verdict_by_parts t)) (sym is) tt
plain_of (completion.Source unread.NotByParts) told is =
    subst (λ (t : Result Verdict Unread). IsPlain (verdict_by_parts t)) (sym is) tt

pub is_plain : (outcome : Result (Reply (Vec (List ℕ) Global)) (CompleteError Unread)) (found : Option Verdict)
    → IsToldOfParts outcome found → IsPlain found
is_plain (Ok reply) found is = subst IsPlain (sym is) tt
is_plain (Err (completion.Lost id)) found is = subst IsPlain (sym is) tt
is_plain (Err (completion.Unknown number)) found is = plain_told is.0 (plain_of (completion.Unknown number) is.0 is.1) found is.2
is_plain (Err (completion.Entry id error)) found is = plain_told is.0 (plain_of (completion.Entry id error) is.0 is.1) found is.2
is_plain (Err (completion.Unreadable id)) found is = plain_told is.0 (plain_of (completion.Unreadable id) is.0 is.1) found is.2
is_plain (Err (completion.Cycle id)) found is = plain_told is.0 (plain_of (completion.Cycle id) is.0 is.1) found is.2
is_plain (Err completion.Full) found is = plain_told is.0 (plain_of completion.Full is.0 is.1) found is.2
is_plain (Err completion.OutOfMemory) found is = plain_told is.0 (plain_of completion.OutOfMemory is.0 is.1) found is.2
is_plain (Err completion.Device) found is = plain_told is.0 (plain_of completion.Device is.0 is.1) found is.2
is_plain (Err completion.WriteFailed) found is = plain_told is.0 (plain_of completion.WriteFailed is.0 is.1) found is.2
is_plain (Err (completion.Source failure)) found is = plain_told is.0 (plain_of (completion.Source failure) is.0 is.1) found is.2

-- what is told of an error is told of what came by parts
pub error_told : (error : CompleteError Unread) (told : Result Verdict Unread) → IsVerdictOf error told
    → IsToldOfParts (Err error) (verdict_by_parts told)
error_told (completion.Unknown number) told is = (told, is, refl)
error_told (completion.Entry id error) told is = (told, is, refl)
error_told (completion.Unreadable id) told is = (told, is, refl)
error_told (completion.Cycle id) told is = (told, is, refl)
error_told completion.Full told is = (told, is, refl)
error_told completion.OutOfMemory told is = (told, is, refl)
error_told completion.Device told is = (told, is, refl)
error_told completion.WriteFailed told is = absurd is
error_told (completion.Lost id) told is = absurd is
error_told (completion.Source failure) told is = (told, is, refl)

-- what came of a question that is told was written
pub never_failed : (outcome : Result (Reply (Vec (List ℕ) Global)) (CompleteError Unread)) (found : Option Verdict)
    → IsToldOfParts outcome found → outcome ≢ Err completion.WriteFailed
never_failed outcome found told = λ is.
    let failed : IsToldOfParts (Err completion.WriteFailed) found =
    subst (λ (o : Result (Reply (Vec (List ℕ) Global)) (CompleteError Unread)). IsToldOfParts o found) is told in
    failed.1

-- ---- What is told is so of the reads.

plain_read : (MayOpen : ℕ → ℕ → Result (List Layer) OpenError → Type 0) (before after : ℕ) (found : Verdict)
    → IsPlain (Some found) → after ≡ before → IsReadSo MayOpen before after found
plain_read MayOpen before after (Ok reply) plain same = same
plain_read MayOpen before after (Err (Common (Id error))) plain same = same
plain_read MayOpen before after (Err (Common (Read error))) plain same = same
plain_read MayOpen before after (Err (Common (File error))) plain same = same
plain_read MayOpen before after (Err (Common (Open error))) plain same = absurd plain
plain_read MayOpen before after (Err (Common (Verify error))) plain same = absurd plain
plain_read MayOpen before after (Err (Common Walk)) plain same = same
plain_read MayOpen before after (Err (Entry id error)) plain same = same
plain_read MayOpen before after (Err (Unreadable id)) plain same = same
plain_read MayOpen before after (Err (Cycle id)) plain same = same
plain_read MayOpen before after (Err Full) plain same = same
plain_read MayOpen before after (Err Changed) plain same = absurd plain

verdict_in : Option Verdict → Verdict → Verdict
verdict_in (Some verdict) other = verdict
verdict_in None other = other

one_found : (one other : Verdict) → Some one ≡ Some other → one ≡ other
unfolding verdict_in
one_found one other same = ap (λ (found : Option Verdict). verdict_in found one) same

pub counted_read : (MayOpen : ℕ → ℕ → Result (List Layer) OpenError → Type 0) (before after : ℕ) (found : Verdict)
    → IsFailureCounted before after (Some found) → IsReadSo MayOpen before after found
counted_read MayOpen before after found (inl (plain, same)) = plain_read MayOpen before after found plain same
counted_read MayOpen before after found (inr (is, rose)) =
    subst (IsReadSo MayOpen before after) (sym (one_found found (Err (Common (Open Device))) is)) (inl (refl, rose))

found_or : {X : Type 0} → X → Result X Unread → X
found_or other (Ok found) = found
found_or other (Err error) = other

-- What was found, unless a read of the files failed.
module _ {X : Type 0} (listed : X → Option Verdict) (found : X) where
  ok_found : (other : X) → ◌≡◌ {A = Result X Unread} (Ok found) (Ok other) → other ≡ found
  unfolding found_or
  ok_found other same = ap (found_or found) (sym same)

  -- it is told, or that one failed
  pub told_or_failed : (read : Result X Unread) (told : X) (Says : Option Verdict → Type 0) → Says (listed found)
      → IfOk read (λ other. ◌≡◌ {A = Result X Unread} (Ok found) (Ok other)) → IfOk read (λ other. told ≡ other)
      → OnErr read (listed told ≡ Some (Err (Common (Open Device))))
      → Says (listed told) ⊎ (listed told ≡ Some (Err (Common (Open Device))))
  told_or_failed (Ok other) told Says says same is failed =
      inl (subst (λ (x : X). Says (listed x)) (sym (is ∙ ok_found other same)) says)
  told_or_failed (Err error) told Says says same is failed = inr failed

  -- and one has failed exactly where that is told
  pub told_counted : (old before after later : ℕ) → before ≡ old → later ≡ after → (read : Result X Unread) (told : X)
      → IsPlain (listed found) → IfOk read (λ other. ◌≡◌ {A = Result X Unread} (Ok found) (Ok other))
      → IfErr read (λ error. (error ≡ unread.Device) ⊎ ◌≡◌ {A = Result X Unread} (Ok found) (Err error))
      → after ≡ failures_after_reads read before → IfOk read (λ other. told ≡ other)
      → OnErr read (listed told ≡ Some (Err (Common (Open Device)))) → IsFailureCounted old later (listed told)
  told_counted old before after later from ends (Ok other) told plain same error counted is failed =
      inl (subst (λ (x : X). IsPlain (listed x)) (sym (is ∙ ok_found other same)) plain, ends ∙ counted ∙ from)
  told_counted old before after later from ends (Err error) told plain same (inl device) counted is failed =
      let is : ◌≡◌ {A = Result X Unread} (Err error) (Err unread.Device) = ap (λ (e : Unread). Err e) device in
      inr (failed, ends ∙ risen-if {A = X} (Err error) before after is counted ∙ ap one_more from)
  told_counted old before after later from ends (Err error) told plain same (inr other) counted is failed =
      let clash : ◌≡◌ {A = Result X Unread} (Ok found) (Err error) = other in cc

-- where parts do not suffice, no read has failed
pub counted_none : (before after : ℕ) → IsFailureCounted before after None → after ≡ before
counted_none before after (inl (plain, same)) = same
counted_none before after (inr (is, rose)) = let clash : None ≡ Some (Err (Common (Open Device))) = is in cc

-- What is told in place of what was found is so of the reads too.
pub told_read : (MayOpen : ℕ → ℕ → Result (List Layer) OpenError → Type 0) (before after : ℕ) (found told : Verdict)
    → IsToldFor found told → IsReadSo MayOpen before after found → IsReadSo MayOpen before after told
told_read MayOpen before after (Ok reply) told (inl same) read = subst (IsReadSo MayOpen before after) (sym same) read
told_read MayOpen before after (Ok reply) told (inr short) read = subst (IsReadSo MayOpen before after) (sym short) read
told_read MayOpen before after (Err refusal) told same read = subst (IsReadSo MayOpen before after) (sym same) read

module _ (MayOpen : ℕ → ℕ → Result (List Layer) OpenError → Type 0) (before after : ℕ) where
  pub whole_read : (refusal : NewerRefusal) → IsRefusalOfWhole (MayOpen before after) refusal
      → IsReadSo MayOpen before after (Err refusal)
  whole_read (Common (Id error)) may = absurd may
  whole_read (Common (Read error)) may = absurd may
  whole_read (Common (File error)) may = absurd may
  whole_read (Common (Open error)) may = inr may
  whole_read (Common (Verify error)) may = may
  whole_read (Common Walk) may = absurd may
  whole_read (Entry id error) may = absurd may
  whole_read (Unreadable id) may = absurd may
  whole_read (Cycle id) may = absurd may
  whole_read Full may = absurd may
  whole_read Changed may = may

  pub whole_told : (refusal : NewerRefusal) → IsRefusalOfWhole (MayOpen before after) refusal → IsToldOfWhole (Err refusal)
  whole_told (Common (Id error)) may = absurd may
  whole_told (Common (Read error)) may = absurd may
  whole_told (Common (File error)) may = absurd may
  whole_told (Common (Open error)) may = tt
  whole_told (Common (Verify error)) may = tt
  whole_told (Common Walk) may = absurd may
  whole_told (Entry id error) may = absurd may
  whole_told (Unreadable id) may = absurd may
  whole_told (Cycle id) may = absurd may
  whole_told Full may = absurd may
  whole_told Changed may = tt

-- ---- What is told is so of the graph at the path.

pub by_parts : (known : Option Tree) (path : List ℕ) (before after : ℕ) (bytes : Option (List ℕ)) (question : Question)
    (requests : List (List ℕ)) (found : Option Verdict) (told : Verdict)
    → ForSome known (λ tree. IsAnswerAt tree path (λ layers. MayComeByParts layers bytes question requests) found)
    → IsToldWith found told → IsReadSo (MayOpen known path) before after told
    → IsToldByParts (MayOpen known path) before after bytes question (record { asked = requests; verdict = told })
by_parts known path before after bytes question requests found told comes is read = (
  read,
  so_of_only known path (λ layers. MayComeByParts layers bytes question requests) found
      (λ layers. MayTellByParts layers bytes question (record { asked = requests; verdict = told }))
      (λ layers come. (found, come, is)) comes,
)

pub told_of_whole : (refusal : NewerRefusal) (told : Verdict) → IsToldOfWhole (Err refusal) → IsToldFor (Err refusal) told
    → IsToldWith None told
told_of_whole refusal told whole same = subst IsToldOfWhole (sym same) whole

-- ---- What was asked for, and then what is told.

pub tells_so : {E : Type 0} (result : Result ℕ E) (form : Form) (IsSo : AskedReply → Type 0) (found : Verdict)
    (requests : List (List ℕ)) (a b c : Option (List ℕ)) → Appends a b (request_lines requests)
    → ((told : Verdict) → IsToldFor found told → IsSo (record { asked = requests; verdict = told }))
    → IfOk result (WritesAnswer (λ told. newline ⧺ verdict_text form told) status_of_verdict (IsToldFor found) b c)
    → IfOk result (WritesAnswer (asked_text form) asked_status IsSo a c)
tells_so (Err failed) form IsSo found requests a b c lines so told = tt
tells_so (Ok status) form IsSo found requests a b c lines so told = (
  record { asked = requests; verdict = told.0 },
  so told.0 told.1,
  Appends-trans a b c (request_lines requests) (newline ⧺ verdict_text form told.0) lines told.2,
  told.3,
)

-- what is written is an answer of more that may be given
pub writes_wider : {E : Type 0} (result : Result ℕ E) (form : Form) (May MayToo : AskedReply → Type 0) (a b : Option (List ℕ))
    → ((told : AskedReply) → May told → MayToo told) → IfOk result (WritesAnswer (asked_text form) asked_status May a b)
    → IfOk result (WritesAnswer (asked_text form) asked_status MayToo a b)
writes_wider (Err failed) form May MayToo a b wider told = tt
writes_wider (Ok status) form May MayToo a b wider told = (told.0, wider told.0 told.1, told.2, told.3)
