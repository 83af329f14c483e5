-- From what was found, and what was told of it, to the answer of a command.
use Rattle.std.proofs.Common.{◌≡◌, ℕ, List, ◌∙◌, refl, subst, sym}
use Rattle.std.specs.Prelude.{Option, Result, Ok, Err, IfOk}
use Rattle.std.specs.Io.KnownBytes.{Appends}
use Rattle.graph_commands.specs.RefusalLines.{refusal_text, refusal_status}
use Rattle.graph_commands.specs.Text.{◌⧺◌, newline}
use Rattle.graph_commands.specs.declared.refusal.Refusal.{Refusal}
use Rattle.graph_commands.specs.declared.refusal.Refusal.TheVariants.{Walk}
use Rattle.graph_commands.specs.WrittenAnswer.{IsToldOf, WritesAnswer, WritesRefusal}

-- a refusal that was written, if it was
pub writes_refused : {A E : Type 0} (text_of : Result A Refusal → List ℕ) (status_of : Result A Refusal → ℕ)
    (May : Result A Refusal → Type 0) (refusal : Refusal) (old new : Option (List ℕ)) (result : Result ℕ E)
    → text_of (Err refusal) ≡ refusal_text refusal ⧺ newline → status_of (Err refusal) ≡ refusal_status refusal
    → May (Err refusal) → IfOk result (WritesRefusal refusal old new) → IfOk result (WritesAnswer text_of status_of May old new)
writes_refused text_of status_of May refusal old new (Ok status) text is may written =
    (Err refusal, may, subst (Appends old new) (sym text) written.0, written.1 ∙ sym is)
writes_refused text_of status_of May refusal old new (Err failed) text is may written = tt

-- What was found is this.
module _ {A : Type 0} (text_of : Result A Refusal → List ℕ) (status_of : Result A Refusal → ℕ) (NeedsMemory : A → Type 0)
    (found this : A) (is : found ≡ this) (old new : Option (List ℕ)) where
  -- its text was written
  pub told_at : (status : ℕ) → Appends old new (text_of (Ok this)) → status ≡ status_of (Ok this)
      → WritesAnswer text_of status_of (IsToldOf NeedsMemory found) old new status
  told_at status written same = (Ok this, sym is, written, same)

  -- the same, if it was
  pub told : {E : Type 0} (result : Result ℕ E) (number : ℕ) → number ≡ status_of (Ok this)
      → IfOk result (λ status. Appends old new (text_of (Ok this)) × (status ≡ number))
      → IfOk result (WritesAnswer text_of status_of (IsToldOf NeedsMemory found) old new)
  told (Ok status) number same written = told_at status written.0 (written.1 ∙ same)
  told (Err failed) number same written = tt

  -- what was told of it was told of what was found
  pub retold : {E : Type 0} (result : Result ℕ E)
      → IfOk result (WritesAnswer text_of status_of (IsToldOf NeedsMemory this) old new)
      → IfOk result (WritesAnswer text_of status_of (IsToldOf NeedsMemory found) old new)
  retold result written =
      subst (λ (one : A). IfOk result (WritesAnswer text_of status_of (IsToldOf NeedsMemory one) old new)) (sym is) written

  -- that there is no memory to write it was written, if it was
  pub wanted : {E : Type 0} (result : Result ℕ E) → text_of (Err Walk) ≡ refusal_text Walk ⧺ newline
      → status_of (Err Walk) ≡ refusal_status Walk → NeedsMemory this → IfOk result (WritesRefusal Walk old new)
      → IfOk result (WritesAnswer text_of status_of (IsToldOf NeedsMemory found) old new)
  wanted result text same needs written =
      writes_refused text_of status_of (IsToldOf NeedsMemory found) Walk old new result text same
      (refl, subst NeedsMemory (sym is) needs) written

module _ {A : Type 0} (May : Result A Refusal → Type 0) (NeedsMemory : A → Type 0) (found : A) (may : May (Ok found))
    (wants : NeedsMemory found → May (Err Walk)) where
  may_be_told : (answer : Result A Refusal) → IsToldOf NeedsMemory found answer → May answer
  may_be_told (Ok told) is = subst (λ (one : A). May (Ok one)) (sym is) may
  may_be_told (Err refusal) is = subst (λ (one : Refusal). May (Err one)) (sym is.0) (wants is.1)

  -- what was told of what was found is an answer that may be given
  pub tells : {E : Type 0} (text_of : Result A Refusal → List ℕ) (status_of : Result A Refusal → ℕ) (old new : Option (List ℕ))
      (result : Result ℕ E) → IfOk result (WritesAnswer text_of status_of (IsToldOf NeedsMemory found) old new)
      → IfOk result (WritesAnswer text_of status_of May old new)
  tells text_of status_of old new (Ok status) written = (written.0, may_be_told written.0 written.1, written.2, written.3)
  tells text_of status_of old new (Err failed) written = tt
