-- What is read off new commits is their plan.
use Rattle.std.proofs.Common.{◌≡◌, ℕ, ◌<◌, Option, Some, All, IsSomeAnd, length, slice_get, get_or, refl, sym, ap}
use Rattle.std.proofs.Common.{◌∙◌, subst, arith}
use Rattle.std.proofs.lemmas.List.FromFn.{length-map-range_with_len}
use Rattle.std.proofs.lemmas.Option.{slice_get_within, get_or_from_slice_get, same_Some}
use Rattle.gix_commitgraph.proofs.lookup.ElementLemmas.{some-place, all-at}
use Rattle.graph_format.proofs.PieceLemmas.{get-map-range}
use Rattle.graph_encoder.specs.Rows.{IsRowOf, IsRowAt}
use Rattle.graph_encoder.specs.declared.plan.PlanCommit.{PlanCommit}
use Rattle.graph_encoder.specs.declared.row.PlanRow.{PlanRow}
use Rattle.graph_levels.specs.OnTop.{level_at}
use Rattle.graph_levels.specs.ParentLists.{parent_list}
use Rattle.graph_writer.specs.PlannedCommits.{IsPlanOf, IsNewRow, commit_at, no_commit, planned_at, plan_of}
use Rattle.graph_writer.specs.declared.commit.NewCommit.{NewCommit}
use Rattle.graph_writer.specs.declared.new_plan.NewPlan.{NewPlan}
use Rattle.graph_writer.specs.declared.view.CommitView.{Ghosts}

module _ {C : Type 0} {G : Ghosts C} (plan : NewPlan C G) where
  pub planned-count : length (plan_of plan).commits.items ≡ length plan.new.now.order.items
  unfolding plan_of
  planned-count = length-map-range_with_len (planned_at plan) 0 (length plan.new.now.order.items)

  pub planned-there : (p : ℕ) → p < length plan.new.now.order.items
      → slice_get (plan_of plan).commits.items p ≡ Some (planned_at plan p)
  unfolding plan_of
  planned-there p lt =
      get-map-range (planned_at plan) 0 (length plan.new.now.order.items) p lt
      ∙ ap (λ (n : ℕ). Some (planned_at plan n)) (omega arith)

  -- the commit that stands at a place
  pub commit-there : (p i : ℕ) (commit : NewCommit) → slice_get plan.new.now.order.items p ≡ Some i
      → slice_get plan.commits.now i ≡ Some commit → commit_at plan p ≡ commit
  commit-there p i commit at here =
      ap (λ (n : ℕ). get_or plan.commits.now n (no_commit plan)) (get_or_from_slice_get plan.new.now.order.items p i 0 at)
      ∙ get_or_from_slice_get plan.commits.now i commit (no_commit plan) here

  pub planned-each : (p i : ℕ) (commit : NewCommit) → slice_get plan.new.now.order.items p ≡ Some i
      → slice_get plan.commits.now i ≡ Some commit
      → IsSomeAnd (slice_get (plan_of plan).commits.items p)
      (IsPlanOf commit (parent_list plan.new.now.parents p) (level_at plan.levels.now p).generation)
  unfolding parent_list
  planned-each p i commit at here =
      let is = commit-there p i commit at here in
      let says : IsPlanOf commit (parent_list plan.new.now.parents p) (level_at plan.levels.now p).generation
      (planned_at plan p) =
      record {
        id = ap (λ (c : NewCommit). c.id) is;
        tree = ap (λ (c : NewCommit). c.tree) is;
        parents = refl;
        generation = refl;
        time = ap (λ (c : NewCommit). c.time) is;
      } in
      subst
      (λ (o : Option PlanCommit). IsSomeAnd o
      (IsPlanOf commit (parent_list plan.new.now.parents p) (level_at plan.levels.now p).generation))
      (sym (planned-there p (slice_get_within plan.new.now.order.items p i at))) says

  -- the row of a commit
  pub row-there : (p : ℕ) (row : PlanRow) → All (λ i. i < length plan.commits.now) plan.new.now.order.items
      → p < length plan.new.now.order.items
      → ((i : ℕ) (commit : NewCommit) → slice_get plan.new.now.order.items p ≡ Some i
      → slice_get plan.commits.now i ≡ Some commit → IsNewRow plan p commit row)
      → IsRowAt (plan_of plan) p row
  unfolding parent_list
  row-there p row each lt says planned there =
      let at = some-place plan.new.now.order.items p lt in
      let here =
      some-place plan.commits.now at.0 (all-at (λ i. i < length plan.commits.now) plan.new.now.order.items p at.0 each at.1) in
      let is = commit-there p at.0 here.0 at.1 here.1 in
      let told = says at.0 here.0 at.1 here.1 in
      let same : planned_at plan p ≡ planned =
      same_Some (planned_at plan p) planned (sym (planned-there p lt) ∙ there) in
      subst (λ (c : PlanCommit). IsRowOf c row) same
      (record {
        id = told.id ∙ sym (ap (λ (c : NewCommit). c.id) is);
        tree = told.tree ∙ sym (ap (λ (c : NewCommit). c.tree) is);
        parents = told.parents;
        generation = told.generation;
        time = told.time ∙ sym (ap (λ (c : NewCommit). c.time) is);
      })
