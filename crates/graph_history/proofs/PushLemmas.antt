-- Files that are put on top of a checked graph, and taken off again where their check fails.
use Rattle.std.proofs.Common.{◌≡◌, ℕ, ◌+◌, ◌<◌, List, [], ◌∷◌, ◌++◌, length, take, Option, Some, None, Result, Err, sym}
use Rattle.std.proofs.Common.{ap, ◌∙◌, arith, append_assoc, subst, length-append}
use Rattle.std.specs.Prelude.{MatchOption, ◌⊎◌}
use Rattle.std.proofs.Math.Seq.{take-append_seam}
use Rattle.std.proofs.lemmas.List.{length_push, take-append-le, take_at}
use Rattle.graph_format.specs.Layer.{Layer}
use Rattle.graph_format.specs.declared.error.GraphError.{GraphError}
use Rattle.graph_format.specs.declared.error.GraphError.TheVariants.{OutOfMemory}
use Rattle.graph_format.specs.Points.{Point, Agrees, first_fault}
use Rattle.gix_commitgraph.specs.Distinct.{IsDeservedWith}
use Rattle.gix_commitgraph.specs.Graph.{IsGraph}
use Rattle.gix_commitgraph.specs.GraphRefusal.{graph_refusal}
use Rattle.gix_commitgraph.specs.Verify.{points_with, cause_of}
use Rattle.gix_commitgraph.specs.declared.verify.Outcome.{Outcome}
use Rattle.gix_commitgraph.specs.declared.verify.VerifyError.{VerifyError}
use Rattle.gix_commitgraph.specs.declared.verify.VerifyError.TheVariants as error
use Rattle.gix_commitgraph.specs.declared.verify.VerifyOptions.{VerifyOptions}
use Rattle.graph_history.specs.Checked.{MayRefuseSome, MayRefuseWith}
use Rattle.graph_ancestors.specs.declared.checking.NoFault.{NoFault}

-- the highest of more layers than so many is taken off: as many of the lowest are as they were
pub taken_off : (old new : List Layer) (top : Option Layer) (count : ℕ) → 0 < count → count < length old
    → MatchOption top ((new ≡ old) × (length old ≡ 1)) (λ layer. old ≡ new ++ layer ∷ [])
    → (take count new ≡ take count old) × (length new < length old)
taken_off old new None count some more match = absurd (omega (arith, match.1))
taken_off old new (Some layer) count some more match =
    let long : length old ≡ length new + 1 = omega (arith, ap length match, length_push new layer) in (
      sym (ap (take count) match ∙ take-append-le count new (layer ∷ []) (omega (arith, long))),
      omega (arith, long),
    )

-- a file that is put on top of those of before is one more of all
pub next_on : (below done all left now more : List Layer) (file : Layer) → now ≡ below ++ done → done ++ file ∷ left ≡ all
    → more ≡ now ++ file ∷ []
    → (some : List Layer) × (more ≡ below ++ some) × (some ++ left ≡ all)
next_on below done all left now more file is splits pushed = (
  done ++ file ∷ [],
  pushed ∙ ap (λ (l : List Layer). l ++ file ∷ []) is ∙ append_assoc below done (file ∷ []),
  append_assoc done (file ∷ []) left ∙ splits,
)

-- where it is refused, those before it make a graph on top of those below, and with it they make none
pub refused_on : (below done all left now : List Layer) (file : Layer) (e : GraphError) → now ≡ below ++ done
    → done ++ file ∷ left ≡ all → IsGraph now
    → (graph_refusal (now ++ file ∷ []) ≡ Some e) ⊎ ((e ≡ OutOfMemory) × (graph_refusal (now ++ file ∷ []) ≡ None))
    → MayRefuseSome below all e
refused_on below done all left now file e is splits makes refused =
    let before : take (length done) all ≡ done = ap (take (length done)) (sym splits) ∙ take-append_seam done (file ∷ left) in
    let upto : take (length done + 1) all ≡ done ++ file ∷ [] =
    ap (take (length done + 1)) (sym splits ∙ sym (append_assoc done (file ∷ []) left))
    ∙ take_at (done ++ file ∷ []) left (length done + 1) (omega (arith, length_push done file)) in
    let same : now ++ file ∷ [] ≡ below ++ take (length done + 1) all =
    ap (λ (l : List Layer). l ++ file ∷ []) is ∙ append_assoc below done (file ∷ [])
    ∙ ap (λ (l : List Layer). below ++ l) (sym upto) in (
      length done,
      omega (arith, ap length splits, length-append done (file ∷ left)),
      subst IsGraph (is ∙ ap (λ (l : List Layer). below ++ l) (sym before)) makes,
      subst (λ (l : List Layer).
          (graph_refusal l ≡ Some e) ⊎ ((e ≡ OutOfMemory) × (graph_refusal l ≡ None))) same refused,
    )

-- A check over points whose first fault is that of the whole, by a processor that never refuses.
module _ {F : Type 0} (step : F → ℕ → Result (Unit {0}) NoFault → F → Type 0) (options : VerifyOptions) (layers : List Layer)
    (points : List (Point (VerifyError NoFault)))
    (whole : first_fault points ≡ first_fault (points_with {E = NoFault} options layers)) (f g : F)
    (never : (h k : F) (p : ℕ) (e : NoFault) → step h p (Err e) k → ⊥) where
  pub refused_as_whole : (x : VerifyError NoFault) → Agrees step points f g {T = Outcome} cause_of (Err x)
      → IsDeservedWith options layers x → MayRefuseWith options layers x
  refused_as_whole (error.Processor pos e) agrees deserved = never agrees.then g pos.0 e agrees.answered
  refused_as_whole error.OutOfMemory agrees deserved = tt
  refused_as_whole error.TooManyFiles agrees deserved = (sym whole ∙ agrees.fault, deserved)
  refused_as_whole (error.BaseCount i) agrees deserved = (sym whole ∙ agrees.fault, deserved)
  refused_as_whole (error.BaseId i j) agrees deserved = (sym whole ∙ agrees.fault, deserved)
  refused_as_whole (error.Layer i fault) agrees deserved = (sym whole ∙ agrees.fault, deserved)
  refused_as_whole (error.Commit pos fault) agrees deserved = (sym whole ∙ agrees.fault, deserved)
  refused_as_whole (error.Parent pos fault) agrees deserved = (sym whole ∙ agrees.fault, deserved)
  refused_as_whole (error.ParentOutOfRange pos parent) agrees deserved = (sym whole ∙ agrees.fault, deserved)
  refused_as_whole (error.Generation pos expected) agrees deserved = (sym whole ∙ agrees.fault, deserved)
  refused_as_whole (error.DuplicateId pos earlier) agrees deserved = (sym whole ∙ agrees.fault, deserved)
