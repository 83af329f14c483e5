-- From what is found to what is told.
use Rattle.std.proofs.Common.{◌≡◌, ◌≢◌, ℕ, List, [], Option, Some, None, inl, inr, refl, subst, sym, ap}
use Rattle.std.proofs.KnownBytes.{Appends-trans}
use Rattle.std.specs.Prelude.{Result, Ok, Err, IfOk}
use Rattle.std.specs.Io.KnownBytes.{Appends}
use Rattle.gix_hash_core.specs.declared.kind.Kind.{Kind}
use Rattle.graph_format.specs.Layer.{Layer}
use Rattle.answer_lines.specs.Replies.{IsKnown, ListedReply, reply_text, response_status, response_text}
use Rattle.answer_lines.specs.declared.reply.Form.{Form}
use Rattle.graph_commands.specs.Text.{◌⧺◌, newline}
use Rattle.graph_commands.specs.WrittenAnswer.{IsToldOf, WritesAnswer}
use Rattle.graph_commands.specs.RefusalLines.{refusal_text}
use Rattle.graph_commands.specs.declared.refusal.Refusal.{Refusal}
use Rattle.history_commands.specs.CheckedReplies.{Scans}
use Rattle.question_lines.specs.Questions.{question_ids}
use Rattle.question_lines.specs.declared.question.Question.{Question}
use Rattle.newer_commits.specs.CommitsOnTop.{CommitsOnTop}
use Rattle.commit_requests.specs.Completion.{IsCompleteRefusal}
use Rattle.commit_requests.specs.Requested.{request_lines}
use Rattle.commit_requests.specs.declared.error.CompleteError.{CompleteError}
use Rattle.commit_requests.specs.declared.error.CompleteError.TheVariants as completion
use Rattle.newer_commands.specs.AskedNewer.{IsRefusedAtOnce}
use Rattle.newer_commands.specs.AskedReply.{IsToldFor, IsVerdictOf, Verdict, asked_status, asked_text, status_of_verdict}
use Rattle.newer_commands.specs.AskedReply.{verdict_text}
use Rattle.newer_commands.specs.RepliesOnTop.{MayTellAtLast, MayTellOver}
use Rattle.newer_commands.specs.declared.refusal.NewerRefusal.{NewerRefusal}
use Rattle.newer_commands.specs.declared.refusal.NewerRefusal.TheVariants.{Common}

-- What is told of what may be told may be told too: there may be no memory to write a reply.
pub tells_for : (kind : Kind) (layers : List Layer) (none top : CommitsOnTop) (asked : Question) (requests : List (List ℕ))
    (known : Option (List ℕ)) (found told : Verdict) → IsToldFor found told
    → MayTellAtLast kind layers none top asked requests known found
    → MayTellAtLast kind layers none top asked requests known told
tells_for kind layers none top asked requests known (Ok reply) told (inl same) may =
    subst (MayTellAtLast kind layers none top asked requests known) (sym same) may
tells_for kind layers none top asked requests known (Ok reply) told (inr short) may =
    subst (MayTellAtLast kind layers none top asked requests known) (sym short) tt
tells_for kind layers none top asked requests known (Err refusal) told same may =
    subst (MayTellAtLast kind layers none top asked requests known) (sym same) may

-- What was asked for, and then what is told.
pub tells_over : {E : Type 0} (result : Result ℕ E) (form : Form) (layers : List Layer) (known : Option (List ℕ))
    (asked : Question) (found : Verdict) (a b c : Option (List ℕ))
    → ((requests : List (List ℕ)) × Appends a b (request_lines requests)
    × MayTellOver layers known asked (record { asked = requests; verdict = found }))
    → IfOk result (WritesAnswer (λ told. newline ⧺ verdict_text form told) status_of_verdict (IsToldFor found) b c)
    → IfOk result (WritesAnswer (asked_text form) asked_status (MayTellOver layers known asked) a c)
tells_over (Err failed) form layers known asked found a b c (requests, lines, may) told = tt
tells_over (Ok status) form layers known asked found a b c (requests, lines, may) told = (
  record { asked = requests; verdict = told.0 },
  record {
    kind = may.kind;
    is_kind = may.is_kind;
    none = may.none;
    nothing = may.nothing;
    top = may.top;
    on_top = may.on_top;
    at_last = tells_for may.kind layers may.none may.top asked requests known found told.0 told.1 may.at_last;
  },
  Appends-trans a b c (request_lines requests) (newline ⧺ verdict_text form told.0) lines told.2,
  told.3,
)

told_ok : {E : Type 0} → Verdict → Result Verdict E → Verdict
told_ok other (Ok verdict) = verdict
told_ok other (Err error) = other

-- one verdict is told
one_told : {E : Type 0} (one other : Verdict) → ◌≡◌ {A = Result Verdict E} (Ok one) (Ok other) → other ≡ one
unfolding told_ok
one_told {E} one other same = ap (λ (told : Result Verdict E). told_ok one told) (sym same)

-- an error is told as its refusal
pub tells_error : {E : Type 0} (kind : Kind) (layers : List Layer) (base : List ℕ → Option ℕ → Type 0) (may_fail : E → Type 0)
    (none top : CommitsOnTop) (asked : Question) (requests : List (List ℕ)) (known : Option (List ℕ)) (error : CompleteError E)
    (verdict : Verdict) → IsVerdictOf error (Ok verdict)
    → IsCompleteRefusal kind base may_fail none top (question_ids asked) requests known error
    → MayTellAtLast kind layers none top asked requests known verdict
tells_error kind layers base may_fail none top asked requests known (completion.Unknown number) verdict told why =
    subst (MayTellAtLast kind layers none top asked requests known) (one_told verdict (Ok told.0) told.1)
    (inr (number, told.2, why))
tells_error kind layers base may_fail none top asked requests known (completion.Entry id error) verdict told why =
    subst (MayTellAtLast kind layers none top asked requests known) (one_told verdict _ told) why
tells_error kind layers base may_fail none top asked requests known (completion.Unreadable id) verdict told why =
    subst (MayTellAtLast kind layers none top asked requests known) (one_told verdict _ told) why
tells_error kind layers base may_fail none top asked requests known (completion.Cycle id) verdict told why =
    subst (MayTellAtLast kind layers none top asked requests known) (one_told verdict _ told) why
tells_error kind layers base may_fail none top asked requests known completion.Full verdict told why =
    subst (MayTellAtLast kind layers none top asked requests known) (one_told verdict _ told) why
tells_error kind layers base may_fail none top asked requests known completion.OutOfMemory verdict told why =
    subst (MayTellAtLast kind layers none top asked requests known) (one_told verdict _ told) tt
tells_error kind layers base may_fail none top asked requests known completion.Device verdict told why =
    subst (MayTellAtLast kind layers none top asked requests known) (one_told verdict _ told) tt
tells_error kind layers base may_fail none top asked requests known completion.WriteFailed verdict told why = absurd told
tells_error kind layers base may_fail none top asked requests known (completion.Lost id) verdict told why = absurd told
tells_error kind layers base may_fail none top asked requests known (completion.Source error) verdict told why =
    let clash : ◌≡◌ (Ok verdict) (Err error) = told in cc

-- what comes back with a verdict was written
pub told_written : {A E : Type 0} (error : CompleteError E) (told : Result Verdict E) (P : Type 0) → IsVerdictOf error told
    → (◌≢◌ {A = Result A (CompleteError E)} (Err error) (Err completion.WriteFailed) → P) → P
told_written {A} {E} error told P verdict written =
    written (λ is.
    let same : error ≡ completion.WriteFailed = cc in
    subst (λ (e : CompleteError E). IsVerdictOf e told) same verdict)

-- no commit is lost, where the lookup of an id answers one thing
pub never_lost : {E : Type 0} (kind : Kind) (layers : List Layer) (base : List ℕ → Option ℕ → Type 0) (may_fail : E → Type 0)
    (none top : CommitsOnTop) (ids requests : List (List ℕ)) (known : Option (List ℕ)) (error : CompleteError E) (id : List ℕ)
    → ((one : List ℕ) (answer : Option ℕ) → base one answer → Scans layers one answer)
    → IsCompleteRefusal kind base may_fail none top ids requests known error → error ≢ completion.Lost id
never_lost kind layers base may_fail none top ids requests known error id scans why is =
    let lost : IsCompleteRefusal kind base may_fail none top ids requests known (completion.Lost id) =
    subst (IsCompleteRefusal kind base may_fail none top ids requests known) is why in
    let one = scans id (Some lost.0) lost.1 in
    let other = scans id None lost.2 in
    cc

-- an empty line, and then a reply
tells_reply : (form : Form) (found : ListedReply) (a b c : Option (List ℕ)) (status : ℕ)
    → Appends a b newline → (told : Result ListedReply Refusal) → IsToldOf IsKnown found told
    → Appends b c (response_text form told) → status ≡ response_status told
    → WritesAnswer (λ told. newline ⧺ verdict_text form told) status_of_verdict (IsToldFor (Ok found)) a c status
tells_reply form found a b c status line (Ok reply) told text ends = (
  Ok reply,
  inl (ap (λ (r : ListedReply). Ok r) told),
  Appends-trans a b c newline (reply_text form reply) line text,
  ends,
)
tells_reply form found a b c status line (Err refusal) told text ends = (
  Err (Common refusal),
  inr (ap (λ (r : Refusal). Err (Common r)) told.0),
  Appends-trans a b c newline (refusal_text refusal ⧺ newline) line text,
  ends,
)

pub reply_told : {E : Type 0} (result : Result ℕ E) (form : Form) (found : ListedReply) (verdict : Verdict)
    (a b c : Option (List ℕ)) → verdict ≡ Ok found → Appends a b newline
    → IfOk result (WritesAnswer (response_text form) response_status (IsToldOf IsKnown found) b c)
    → IfOk result (WritesAnswer (λ told. newline ⧺ verdict_text form told) status_of_verdict (IsToldFor verdict) a c)
reply_told (Err failed) form found verdict a b c is line told = tt
reply_told (Ok status) form found verdict a b c is line told =
    subst
    (λ (v : Verdict). WritesAnswer (λ told. newline ⧺ verdict_text form told) status_of_verdict (IsToldFor v) a c status)
    (sym is) (tells_reply form found a b c status line told.0 told.1 told.2 told.3)

-- an empty line, and then a refusal
pub refusal_told : {E : Type 0} (result : Result ℕ E) (form : Form) (refusal : NewerRefusal) (verdict : Verdict)
    (a b c : Option (List ℕ)) → verdict ≡ Err refusal → Appends a b newline
    → IfOk result (WritesAnswer (verdict_text form) status_of_verdict (λ told. told ≡ Err refusal) b c)
    → IfOk result (WritesAnswer (λ told. newline ⧺ verdict_text form told) status_of_verdict (IsToldFor verdict) a c)
refusal_told (Err failed) form refusal verdict a b c is line told = tt
refusal_told (Ok status) form refusal verdict a b c is line told = (
  told.0,
  subst (λ (v : Verdict). IsToldFor v told.0) (sym is) told.1,
  Appends-trans a b c newline (verdict_text form told.0) line told.2,
  told.3,
)

-- the same where nothing was asked for
pub told_at_once : {E : Type 0} (result : Result ℕ E) (form : Form) (refusal : Refusal) (a b c : Option (List ℕ))
    → Appends a b newline
    → IfOk result (WritesAnswer (verdict_text form) status_of_verdict (λ told. told ≡ Err (Common refusal)) b c)
    → IfOk result (WritesAnswer (asked_text form) asked_status (IsRefusedAtOnce refusal) a c)
told_at_once (Err failed) form refusal a b c line told = tt
told_at_once (Ok status) form refusal a b c line told = (
  record { asked = []; verdict = told.0 },
  (refl, told.1),
  Appends-trans a b c newline (verdict_text form told.0) line told.2,
  told.3,
)
