-- The plan that is read off new commits: when a file can hold it, and what its file says.
use Rattle.std.proofs.Common.{◌≡◌, ◌↔◌, IsTrue, Bool, true, false, ℕ, ◌^◌, ◌<◌, ◌≤◌, List, [], Some, None, map, length, IsSomeAnd}
use Rattle.std.proofs.Common.{slice_get, get_or, Option, option_map, refl, sym, subst, ⊎_elim, arith}
use Rattle.std.specs.Prelude.{IfSome, MatchOption}
use Rattle.std.proofs.lemmas.Bool.{cases_lt}
use Rattle.graph_walks.specs.Dates.{AreRight}
use Rattle.graph_walks.specs.Generations.{AreLocal}
use Rattle.graph_walks.specs.History.{Node}
use Rattle.graph_walks.specs.declared.TheConstants.{GENERATION_NUMBER_MAX}
use Rattle.graph_format.specs.Layer.{Layer}
use Rattle.graph_encoder.specs.ExtraEdges.{all_extra_words, top_bit}
use Rattle.graph_encoder.specs.Plan.{IsPlan, AreOffsets, AreFilters}
use Rattle.graph_encoder.specs.Said.{IsFileOf}
use Rattle.graph_encoder.specs.Written.{planned_file}
use Rattle.graph_levels.specs.OnTop.{HasOnTop, HasLevelGenerations, HasLevelDates, level_at}
use Rattle.graph_levels.specs.ParentLists.{commit_count, parent_list}
use Rattle.graph_levels.specs.declared.level.Level.{Level}
use Rattle.graph_writer.specs.FiltersInOrder.{MaybeInOrder}
use Rattle.graph_writer.specs.LevelsBelow.{AreLevelsBelow}
use Rattle.graph_writer.specs.NewCommits.{new_times}
use Rattle.graph_writer.specs.NewLayers.{IsNewLayer}
use Rattle.graph_writer.specs.PlannedCommits.{IsPlanOf, AreOffsetsOf, plan_of}
use Rattle.graph_writer.specs.WriteRefusal.{new_layer_refusal, kind_to_write}
use Rattle.graph_writer.specs.WritingRefusal.{word_count}
use Rattle.graph_writer.specs.WrittenFiles.{IsWrittenWith}
use Rattle.graph_writer.specs.declared.commit.NewCommit.{NewCommit}
use Rattle.graph_writer.specs.declared.filters.NewFilters.{NewFilters}
use Rattle.graph_writer.specs.declared.levels_below.LevelsBelow.{LevelsBelow}
use Rattle.graph_writer.specs.declared.new_plan.NewPlan.{NewPlan}
use Rattle.graph_writer.specs.declared.view.CommitView.{Ghosts}
use Rattle.graph_writer.proofs.filter_lists.FilteredSteps.{filtered}
use Rattle.graph_writer.proofs.plans.PlanForSteps.{plan-for}
use Rattle.graph_writer.proofs.plans.PlanOfSteps.{planned-count, planned-each}
use Rattle.graph_writer.proofs.plans.PlanSteps.{all-words, is-plan}
use Rattle.graph_writer.proofs.layers.StaysRight.{stays-right}
use Rattle.graph_writer.proofs.layers.TopSteps.{opened-from}
use Rattle.graph_writer.proofs.layers.WriteSteps.{written}

-- what is planned of each commit, by the levels that the plan has
view-planned : {C : Type 0} {G : Ghosts C} (plan : NewPlan C G) (own : List Level) → plan.levels.now ≡ own
    → (p i : ℕ) (commit : NewCommit) → slice_get plan.new.now.order.items p ≡ Some i → slice_get plan.commits.now i ≡ Some commit
    → IsSomeAnd (slice_get (plan_of plan).commits.items p)
    (IsPlanOf commit (parent_list plan.new.now.parents p) (level_at own p).generation)
view-planned plan own same =
    subst
    (λ (ls : List Level). (p i : ℕ) (commit : NewCommit) → slice_get plan.new.now.order.items p ≡ Some i
    → slice_get plan.commits.now i ≡ Some commit
    → IsSomeAnd (slice_get (plan_of plan).commits.items p)
    (IsPlanOf commit (parent_list plan.new.now.parents p) (level_at ls p).generation))
    same (planned-each plan)

-- the plan has as many extra words as the commits
pub view-words : {C : Type 0} {G : Ghosts C} (plan : NewPlan C G) (layers : List Layer) (own : List Level) → plan.levels.now ≡ own
    → IsNewLayer layers plan.commits.now plan.new.now
    → length (all_extra_words (plan_of plan).commits.items) ≡ word_count plan.commits.now
view-words plan layers own same is_new =
    all-words layers plan.commits.now plan.new.now is_new own (plan_of plan) (planned-count plan) (view-planned plan own same)

pub few-words : {C : Type 0} {G : Ghosts C} (plan : NewPlan C G) (layers : List Layer) (own : List Level)
    → length (all_extra_words (plan_of plan).commits.items) < top_bit → plan.levels.now ≡ own
    → IsNewLayer layers plan.commits.now plan.new.now → word_count plan.commits.now < 2 ^ 31
few-words plan layers own few same is_new = omega (arith, few, view-words plan layers own same is_new)

-- one that has too many
pub many-words : {C : Type 0} {G : Ghosts C} (plan : NewPlan C G) (b : Bool) (layers : List Layer) (own : List Level)
    → (IsTrue b ↔ (length (all_extra_words (plan_of plan).commits.items) < top_bit)) → b ≡ false → plan.levels.now ≡ own
    → IsNewLayer layers plan.commits.now plan.new.now → 2 ^ 31 ≤ word_count plan.commits.now
many-words plan b layers own told no_few same is_new =
    ⊎_elim
    (λ (less : word_count plan.commits.now < 2 ^ 31).
    let few : b ≡ true = told.1 (omega (arith, less, view-words plan layers own same is_new)) in
    absurd (cc))
    (λ (many : 2 ^ 31 ≤ word_count plan.commits.now). many)
    (cases_lt (word_count plan.commits.now) (2 ^ 31))

-- a file can hold a plan with few
pub view-fits : {C : Type 0} {G : Ghosts C} (plan : NewPlan C G) (layers : List Layer) (own : List Level)
    → length (all_extra_words (plan_of plan).commits.items) < top_bit → plan.levels.now ≡ own
    → IsNewLayer layers plan.commits.now plan.new.now → new_layer_refusal layers plan.commits.now ≡ None
    → (known : LevelsBelow) → AreLevelsBelow layers known → plan.kind ≡ kind_to_write layers plan.commits.now
    → plan.bases.items ≡ map (λ l. l.checksum) layers → length layers ≤ 255 → length own ≡ commit_count plan.new.now.parents
    → ((p : ℕ) → p < length own → (level_at own p).generation ≤ GENERATION_NUMBER_MAX)
    → IfSome (option_map (λ v. v.items) plan.offsets) (AreOffsets (length plan.new.now.order.items))
    → IfSome (option_map (λ f. f.parts) plan.filters) (AreFilters (length plan.new.now.order.items)) → IsPlan (plan_of plan)
unfolding plan_of
view-fits plan layers own few same is_new none known below kind bases fits leveled capped offsets filters =
    let sized : IfSome (option_map (λ v. v.items) plan.offsets) (AreOffsets (length (plan_of plan).commits.items)) =
    subst (λ (n : ℕ). IfSome (option_map (λ v. v.items) plan.offsets) (AreOffsets n)) (sym (planned-count plan)) offsets in
    let kept : IfSome (option_map (λ f. f.parts) plan.filters) (AreFilters (length (plan_of plan).commits.items)) =
    subst (λ (n : ℕ). IfSome (option_map (λ f. f.parts) plan.filters) (AreFilters n)) (sym (planned-count plan)) filters in
    is-plan layers plan.commits.now plan.new.now is_new own (plan_of plan) (planned-count plan) (view-planned plan own same)
    none known below kind bases fits leveled capped sized kept (omega (arith, few, view-words plan layers own same is_new))

-- its file is what was to be written of the commits
pub view-written : {C : Type 0} {G : Ghosts C} (plan : NewPlan C G) (bytes : List ℕ) → bytes ≡ planned_file (plan_of plan)
    → ((path : List ℕ) → IsFileOf (plan_of plan) bytes path) → (layers : List Layer)
    → IsNewLayer layers plan.commits.now plan.new.now → new_layer_refusal layers plan.commits.now ≡ None
    → (known : LevelsBelow) → AreLevelsBelow layers known → (times : List ℕ)
    → times ≡ map (λ i. get_or (new_times plan.commits.now) i 0) plan.new.now.order.items → (own : List Level)
    → plan.levels.now ≡ own → length own ≡ commit_count plan.new.now.parents
    → ((history : List Node) → HasOnTop history (length known.levels.items) plan.new.now.parents
    → HasLevelGenerations history known.levels.items own → AreLocal history)
    → ((history : List Node) (ts ds : List ℕ) → HasOnTop history (length known.levels.items) plan.new.now.parents
    → HasLevelDates history ts ds known.levels.items own times → AreRight history ts ds)
    → plan.kind ≡ kind_to_write layers plan.commits.now → plan.bases.items ≡ map (λ l. l.checksum) layers
    → length layers ≤ 255
    → MatchOption (option_map (λ v. v.items) plan.offsets) (known.have_dates ≡ false)
    (λ offsets. (known.have_dates ≡ true) × AreOffsetsOf times own offsets)
    → (filters : Option NewFilters) → MaybeInOrder plan.new.now.order.items filters plan.filters
    → IsWrittenWith layers plan.commits.now filters bytes
unfolding plan_of
view-written plan bytes layout files layers is_new none known below times timed own same leveled local right kind bases few has
    filters ordered =
    let commits : List NewCommit = plan.commits.now in
    let counted = planned-count plan in
    let planned = view-planned plan own same in
    let all_written =
    λ (path : List ℕ). written layers commits plan.new.now is_new none known below times timed own leveled local right
    (plan_of plan) kind bases few counted planned has bytes path (files path).0 (files path).1 (files path).2 in
    let first = files [] in
    record {
      planned = (
        plan_of plan,
        plan-for layers commits plan.new.now is_new none known below own leveled (plan_of plan) counted planned first.0 first.2
            times has (all_written []) local filters plan.filters ordered refl kind bases,
        layout,
      );
      file = λ path.
          let here = files path in
          let kept =
          filtered layers commits plan.new.now is_new own (plan_of plan) counted planned here.0 here.2 filters plan.filters
          ordered refl in (
            here.0,
            here.1,
            all_written path,
            kept,
            stays-right layers commits plan.new.now is_new none known below own leveled (plan_of plan) counted planned here.0
                here.2 (opened-from bytes path here.0 here.1) times has (all_written path) filters kept,
          );
    }
