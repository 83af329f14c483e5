-- The commit at a place of a plan, and what its row says of it.
use Rattle.std.proofs.Common.{◌≡◌, ℕ, zero, suc, ◌+◌, ◌<◌, List, [], ◌∷◌, ◌++◌, Some, length, take, slice_get, get_or, refl, sym}
use Rattle.std.proofs.Common.{ap, subst, ◌∙◌, arith}
use Rattle.std.specs.List.{flat_map}
use Rattle.std.proofs.lemmas.List.{flat_map_more, take_more}
use Rattle.std.proofs.lemmas.Option.{get_or_from_slice_get, slice_get_within}
use Rattle.graph_encoder.specs.Plan.{IsPlan, IsPlannedCommit}
use Rattle.graph_encoder.specs.Rows.{IsRowOf, IsRowAt}
use Rattle.graph_encoder.specs.declared.plan.FilePlan.{FilePlan}
use Rattle.graph_encoder.specs.declared.plan.PlanCommit.{PlanCommit}
use Rattle.graph_encoder.specs.declared.row.PlanRow.{PlanRow}

-- there is an element at each place
pub element-at : {X : Type 0} (xs : List X) (i : ℕ) → i < length xs → (x : X) × (slice_get xs i ≡ Some x)
element-at [] i lt = absurd (omega (arith, lt))
element-at (x ∷ xs) zero lt = (x, refl)
element-at (x ∷ xs) (suc i) lt = element-at xs i (omega (arith, lt))

-- The row is that of this commit, which stands at the place.
pub record IsRowHere (commits : List PlanCommit) (i : ℕ) (row : PlanRow) (commit : PlanCommit) : Type 0 where
  pub at : slice_get commits i ≡ Some commit
  pub is : commit ≡ get_or commits i commit
  pub says : IsRowOf commit row

pub row-here : (plan : FilePlan) (i : ℕ) (row : PlanRow) → i < length plan.commits.items → IsRowAt plan i row
    → (commit : PlanCommit) × IsRowHere plan.commits.items i row commit
row-here plan i row lt at =
    let found = element-at plan.commits.items i lt in (
      found.0,
      record {
        at = found.1;
        is = sym (get_or_from_slice_get plan.commits.items i found.0 found.0 found.1);
        says = at found.0 found.1;
      },
    )

-- the bytes of one more commit, however they are spelled
pub flat-more : (spell : PlanCommit → List ℕ) (old before now : List ℕ) (commits : List PlanCommit) (i : ℕ) (commit : PlanCommit)
    → i < length commits → commit ≡ get_or commits i commit → before ≡ old ++ flat_map spell (take i commits)
    → now ≡ before ++ spell commit → now ≡ old ++ flat_map spell (take (i + 1) commits)
flat-more spell old before now commits i commit lt is so_far added =
    added
    ∙ ap (λ (bytes : List ℕ). bytes ++ spell commit) so_far
    ∙ flat_map_more spell old (take i commits) commit
    ∙ ap (λ (c : PlanCommit). old ++ flat_map spell (take i commits ++ c ∷ [])) is
    ∙ ap (λ (cs : List PlanCommit). old ++ flat_map spell cs) (sym (take_more commits i commit lt))

-- a commit that stands in a plan fits in a record
pub planned-here : (plan : FilePlan) (i : ℕ) (row : PlanRow) (commit : PlanCommit) → IsPlan plan
    → IsRowHere plan.commits.items i row commit → IsPlannedCommit plan.kind commit
planned-here plan i row commit is here =
    subst (IsPlannedCommit plan.kind) (sym here.is)
    (is.commits i commit (slice_get_within plan.commits.items i commit here.at))
