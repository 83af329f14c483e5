-- the answers of `verify` and of `distinct`, their texts and their exit statuses
use Rattle.std.specs.Prelude.{◌≡◌, ◌⊎◌, ℕ, List, Result, Ok, Err, Some, None, true, false}
use Rattle.std.specs.BTreeMap.{IsOrdered}
use Rattle.std.specs.Ordering.{nat_cmp}
use Rattle.graph_format.specs.Layer.{Layer}
use Rattle.graph_format.specs.Points.{first_fault}
use Rattle.graph_format.specs.StoredHistory.{history_of}
use Rattle.gix_commitgraph.specs.Distinct.{IsSoundWith, IsDeservedWith}
use Rattle.gix_commitgraph.specs.Headline.{Stats}
use Rattle.gix_commitgraph.specs.Verify.{points_with, Summarizes}
use Rattle.graph_layer.specs.declared.opening.error.OpenError.{OpenError}
use Rattle.gix_commitgraph.specs.declared.verify.Outcome.{Outcome}
use Rattle.gix_commitgraph.specs.declared.verify.VerifyError.{VerifyError}
use Rattle.gix_commitgraph.specs.declared.verify.VerifyError.TheVariants.{OutOfMemory}
use Rattle.gix_commitgraph.specs.declared.verify.VerifyOptions.{VerifyOptions}
use Rattle.graph_ancestors.specs.declared.checking.NoFault.{NoFault}
use Rattle.graph_commands.specs.declared.refusal.Refusal.{Refusal}
use Rattle.graph_commands.specs.declared.refusal.Refusal.TheVariants.{Id, Read, File, Open, Verify, Walk}
use Rattle.graph_commands.specs.RefusalLines.{refusal_text, refusal_status}
use Rattle.graph_commands.specs.Report.{outcome_text}
use Rattle.graph_commands.specs.Text.{◌⧺◌, newline}

-- What it means that a graph passes its check by these options with this outcome. The processor of the check accepts each commit.
pub record Passes (options : VerifyOptions) (layers : List Layer) (outcome : Outcome) : Type 0 where
  -- the graph is right and keeps the further rules that the options add, and these are its statistics
  pub right : IsSoundWith options layers
  pub statistics : Stats layers outcome
  -- in the terms of the check: none of its points has a fault, and the outcome is computed from the commits
  pub faultless : first_fault (points_with {E = NoFault} options layers) ≡ None
  pub summary : Summarizes (history_of layers) outcome

-- What it means that a graph fails its check by these options with this error.
pub record Fails (options : VerifyOptions) (layers : List Layer) (error : VerifyError NoFault) : Type 0 where
  -- the graph is not right, or breaks a further rule that the options add, unless the check ran out of memory
  pub deserved : IsDeservedWith options layers error
  -- the error is the first fault of the check, else that it ran out of memory
  pub first : (first_fault (points_with options layers) ≡ Some error) ⊎ (error ≡ OutOfMemory)

-- a graph that the opener may answer passes its check so
abbrev pub MayPass : VerifyOptions → (Result (List Layer) OpenError → Type 0) → Outcome → Type 0
MayPass options MayOpen outcome = (layers : List Layer) × MayOpen (Ok layers) × Passes options layers outcome

-- what a command that checks by these options may answer, given what the opener may answer. The numbers of parents ascend
abbrev pub MayCheck : VerifyOptions → (Result (List Layer) OpenError → Type 0) → Result Outcome Refusal → Type 0
MayCheck options MayOpen (Ok outcome) = MayPass options MayOpen outcome × IsOrdered nat_cmp outcome.parent_counts
MayCheck options MayOpen (Err (Verify error)) = (layers : List Layer) × MayOpen (Ok layers) × Fails options layers error
MayCheck options MayOpen (Err (Open error)) = MayOpen (Err error)
MayCheck options MayOpen (Err (Id error)) = ⊥
MayCheck options MayOpen (Err (Read error)) = ⊥
MayCheck options MayOpen (Err (File error)) = ⊥
MayCheck options MayOpen (Err Walk) = ⊥

-- what `verify` may answer: it adds no rule
abbrev pub MayVerify : (Result (List Layer) OpenError → Type 0) → Result Outcome Refusal → Type 0
MayVerify MayOpen answer = MayCheck (record { distinct_ids = false }) MayOpen answer

-- what `distinct` may answer: it adds the rule that no id stands at two positions
abbrev pub MayVerifyDistinct : (Result (List Layer) OpenError → Type 0) → Result Outcome Refusal → Type 0
MayVerifyDistinct MayOpen answer = MayCheck (record { distinct_ids = true }) MayOpen answer

-- what the check found, or the line of a refusal
abbrev pub verify_text : Result Outcome Refusal → List ℕ
verify_text (Ok outcome) = outcome_text outcome
verify_text (Err refusal) = refusal_text refusal ⧺ newline

-- 0 for a graph that passes, and else the status of the refusal
abbrev pub verify_status : Result Outcome Refusal → ℕ
verify_status (Ok outcome) = 0
verify_status (Err refusal) = refusal_status refusal
