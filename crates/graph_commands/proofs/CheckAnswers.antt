-- From what the check of a graph answers, and what is written of it, to the answers of `verify` and of `distinct`.
use Rattle.std.proofs.Common.{◌≡◌, ℕ, List, refl, inl, inr, false, true}
use Rattle.std.specs.Prelude.{Option, Result, Ok, Err, IfOk, IfErr, MatchResult}
use Rattle.std.specs.BTreeMap.{IsOrdered}
use Rattle.std.specs.Io.KnownBytes.{Appends}
use Rattle.std.specs.Ordering.{nat_cmp}
use Rattle.graph_format.specs.Layer.{Layer}
use Rattle.graph_format.specs.Points.{Agrees}
use Rattle.graph_format.specs.StoredHistory.{history_of}
use Rattle.graph_layer.specs.declared.opening.error.OpenError.{OpenError}
use Rattle.gix_commitgraph.specs.Distinct.{IsSoundWith}
use Rattle.gix_commitgraph.specs.Headline.{Stats, Disproves}
use Rattle.gix_commitgraph.specs.Sound.{Sound}
use Rattle.gix_commitgraph.specs.Verify.{points_with, cause_of, Summarizes}
use Rattle.gix_commitgraph.specs.declared.verify.Outcome.{Outcome}
use Rattle.gix_commitgraph.specs.declared.verify.VerifyError.{VerifyError}
use Rattle.gix_commitgraph.specs.declared.verify.VerifyError.TheVariants as error
use Rattle.gix_commitgraph.specs.declared.verify.VerifyOptions.{VerifyOptions}
use Rattle.graph_ancestors.specs.declared.checking.NoFault.{NoFault}
use Rattle.graph_commands.specs.declared.refusal.Refusal.TheVariants.{Open, Verify}
use Rattle.graph_commands.specs.WrittenAnswer.{WritesAnswer, WritesRefusal}
use Rattle.graph_commands.specs.Report.{outcome_text}
use Rattle.graph_commands.specs.CheckAnswers.{Passes, Fails, MayCheck, verify_text, verify_status}

-- what was written where no graph was opened
pub writes_unopened : {E : Type 0} (options : VerifyOptions) (MayOpen : Result (List Layer) OpenError → Type 0)
    (refusal : OpenError) (old new : Option (List ℕ)) (result : Result ℕ E)
    → MayOpen (Err refusal) → IfOk result (WritesRefusal (Open refusal) old new)
    → IfOk result (WritesAnswer verify_text verify_status (MayCheck options MayOpen) old new)
writes_unopened options MayOpen refusal old new (Err failed) opens refused = tt
writes_unopened options MayOpen refusal old new (Ok status) opens refused = (Err (Open refusal), opens, refused.0, refused.1)

-- a right graph keeps all that a check without options asks for
pub sound-plain : (layers : List Layer) → Sound layers → IsSoundWith (record { distinct_ids = false }) layers
sound-plain layers sound = record { sound = sound; distinct = λ is. let never : false ≡ true = cc in cc }

-- A check whose processor accepts each commit.
module _ {F : Type 0} (step : F → ℕ → Result (Unit {0}) NoFault → F → Type 0) (options : VerifyOptions) (layers : List Layer)
    (f g : F) (never : (h k : F) (p : ℕ) (e : NoFault) → step h p (Err e) k → ⊥) (Right : Type 0) where
  -- why it refuses a graph
  fails : (x : VerifyError NoFault) → (IsSoundWith options layers → Right) → Disproves Right x
      → Agrees step (points_with options layers) f g {T = Outcome} cause_of (Err x) → Fails options layers x
  fails (error.Processor pos e) from shown agrees = absurd (never agrees.then g pos.0 e agrees.answered)
  fails error.OutOfMemory from shown agrees = record { deserved = tt; first = inr refl }
  fails error.TooManyFiles from shown agrees = record { deserved = λ s. shown (from s); first = inl agrees.fault }
  fails (error.BaseCount i) from shown agrees = record { deserved = λ s. shown (from s); first = inl agrees.fault }
  fails (error.BaseId i j) from shown agrees = record { deserved = λ s. shown (from s); first = inl agrees.fault }
  fails (error.Layer i fault) from shown agrees = record { deserved = λ s. shown (from s); first = inl agrees.fault }
  fails (error.Commit pos fault) from shown agrees = record { deserved = λ s. shown (from s); first = inl agrees.fault }
  fails (error.Parent pos fault) from shown agrees = record { deserved = λ s. shown (from s); first = inl agrees.fault }
  fails (error.ParentOutOfRange pos parent) from shown agrees =
      record { deserved = λ s. shown (from s); first = inl agrees.fault }
  fails (error.Generation pos expected) from shown agrees = record { deserved = λ s. shown (from s); first = inl agrees.fault }
  fails (error.DuplicateId pos earlier) from shown agrees = record { deserved = λ s. shown (from s); first = inl agrees.fault }

  -- what was written of the check of a graph that was opened
  pub writes_check : {E : Type 0} (MayOpen : Result (List Layer) OpenError → Type 0)
      (answer : Result Outcome (VerifyError NoFault)) (old new : Option (List ℕ)) (result : Result ℕ E)
      → (Right → IsSoundWith options layers) → (IsSoundWith options layers → Right) → MayOpen (Ok layers)
      → Agrees step (points_with options layers) f g cause_of answer
      → MatchResult answer (λ _. Right) (Disproves Right)
      → IfOk answer (Stats layers) → IfOk answer (Summarizes (history_of layers))
      → IfOk answer (λ outcome. IfOk result (λ status.
      Appends old new (outcome_text outcome) × IsOrdered nat_cmp outcome.parent_counts × (status ≡ 0)))
      → IfErr answer (λ x. IfOk result (WritesRefusal (Verify x) old new))
      → IfOk result (WritesAnswer verify_text verify_status (MayCheck options MayOpen) old new)
  writes_check MayOpen answer old new (Err failed) to from opens agrees right stats sums found refused = tt
  writes_check MayOpen (Ok outcome) old new (Ok status) to from opens agrees right stats sums found refused =
      let passes : Passes options layers outcome =
      record { right = to right; statistics = stats; faultless = agrees.no_fault; summary = sums } in
      (Ok outcome, ((layers, opens, passes), found.1), found.0, found.2)
  writes_check MayOpen (Err x) old new (Ok status) to from opens agrees right stats sums found refused =
      (Err (Verify x), (layers, opens, fails x from right agrees), refused.0, refused.1)
