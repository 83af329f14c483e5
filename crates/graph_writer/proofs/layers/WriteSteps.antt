-- What was written of a new layer is what was to be written.
use Rattle.std.proofs.Common.{◌≡◌, ℕ, ◌+◌, ◌≤◌, true, false, List, [], ◌∷◌, ◌++◌, map, length, All, IsSomeAnd, slice_get}
use Rattle.std.proofs.Common.{get_or, Option, Some, None, sym, ◌∙◌, subst, arith}
use Rattle.std.specs.Prelude.{MatchOption}
use Rattle.std.specs.List.{zip}
use Rattle.std.proofs.lemmas.Option.{slice_get_within, same_Some}
use Rattle.graph_walks.specs.Dates.{AreRight}
use Rattle.graph_walks.specs.Generations.{AreLocal}
use Rattle.graph_walks.specs.History.{Node}
use Rattle.graph_format.specs.Layer.{Layer, IsLayer}
use Rattle.graph_format.specs.Lookup.{scan}
use Rattle.graph_format.specs.StoredHistory.{history_of}
use Rattle.gix_commitgraph.specs.Distinct.{AreDistinct}
use Rattle.gix_commitgraph.specs.Graph.{graph_ids}
use Rattle.graph_format.specs.OptionalChunks.{HasDates, times_in, dates_in}
use Rattle.graph_chunks.specs.GraphStoredDates.{times_of, dates_of}
use Rattle.graph_encoder.specs.DateOffsets.{offsets_of}
use Rattle.graph_encoder.specs.Said.{SaysPlan}
use Rattle.graph_encoder.specs.declared.plan.FilePlan.{FilePlan}
use Rattle.graph_levels.specs.OnTop.{level_at, HasOnTop, HasLevelGenerations, HasLevelDates}
use Rattle.graph_levels.specs.ParentLists.{commit_count, parent_list}
use Rattle.graph_levels.specs.declared.level.Level.{Level}
use Rattle.graph_writer.specs.LevelsBelow.{AreLevelsBelow}
use Rattle.graph_writer.specs.NewCommits.{new_times}
use Rattle.graph_writer.specs.NewLayers.{IsNewLayer}
use Rattle.graph_writer.specs.PlannedCommits.{IsPlanOf, AreOffsetsOf}
use Rattle.graph_writer.specs.WriteRefusal.{new_layer_refusal, kind_to_write}
use Rattle.graph_writer.specs.WrittenLayers.{HasNewCommits, IsWrittenLayer}
use Rattle.graph_writer.specs.declared.commit.NewCommit.{NewCommit}
use Rattle.graph_writer.specs.declared.levels_below.LevelsBelow.{LevelsBelow}
use Rattle.graph_writer.specs.declared.new_layer.NewLayer.{NewLayer}
use Rattle.graph_writer.proofs.layers.AcceptedSteps.{scanned-none}
use Rattle.graph_writer.proofs.levels.DateSteps.{right-dates}
use Rattle.graph_writer.proofs.positions.DistinctSteps.{once-more, HoldOnce}
use Rattle.graph_writer.proofs.layers.RightSteps.{sound-top}
use Rattle.graph_writer.proofs.layers.TopSteps.{opened-from, ids-top}
use Rattle.graph_writer.proofs.layers.WrittenSteps.{told, has-commits, as-many}

-- The dates of the plan: offsets, where the graph below has dates.
abbrev pub HasOffsets : LevelsBelow → List ℕ → List Level → FilePlan → Type 0
HasOffsets known times own plan =
    MatchOption (offsets_of plan) (known.have_dates ≡ false)
    (λ offsets. (known.have_dates ≡ true) × AreOffsetsOf times own offsets)

module _ (layers : List Layer) (commits : List NewCommit) (new : NewLayer) (is_new : IsNewLayer layers commits new)
    (none : new_layer_refusal layers commits ≡ None) (known : LevelsBelow) (below : AreLevelsBelow layers known)
    (times : List ℕ) (timed : times ≡ map (λ i. get_or (new_times commits) i 0) new.order.items)
    (own : List Level) (leveled : length own ≡ commit_count new.parents)
    (local : (history : List Node) → HasOnTop history (length known.levels.items) new.parents
    → HasLevelGenerations history known.levels.items own → AreLocal history)
    (right : (history : List Node) (ts ds : List ℕ) → HasOnTop history (length known.levels.items) new.parents
    → HasLevelDates history ts ds known.levels.items own times → AreRight history ts ds)
    (plan : FilePlan) (kind : plan.kind ≡ kind_to_write layers commits)
    (bases : plan.bases.items ≡ map (λ l. l.checksum) layers) (few : length layers ≤ 255)
    (counted : length plan.commits.items ≡ length new.order.items)
    (planned : (p i : ℕ) (commit : NewCommit) → slice_get new.order.items p ≡ Some i → slice_get commits i ≡ Some commit
    → IsSomeAnd (slice_get plan.commits.items p) (IsPlanOf commit (parent_list new.parents p) (level_at own p).generation))
    (has : HasOffsets known times own plan) where
  module _ (bytes path : List ℕ) (layer : Layer) (is : IsLayer bytes path layer) (says : SaysPlan plan layer) where
    abbrev all : List Layer
    all = layers ++ layer ∷ []

    commits-here : HasNewCommits (graph_ids all) commits layer
    commits-here = has-commits layers commits new is_new own plan counted planned layer says

    distinct-top : AreDistinct layers → AreDistinct all
    distinct-top distinct =
        subst HoldOnce (sym (ids-top layers layer))
        (once-more (graph_ids layers) layer.ids distinct
        (has-commits layers commits new is_new own plan counted planned layer says).ascending
        (λ j id here.
        let found =
        told layers commits new is_new own plan counted planned layer says j
        (omega (
          arith,
          slice_get_within layer.ids j id here,
          as-many layers commits new is_new own plan counted planned layer says,
        )) in
        let same : found.1.id ≡ id = same_Some found.1.id id (sym found.3.id ∙ here) in
        subst (λ (x : List ℕ). scan (graph_ids layers) x ≡ None) same
        (scanned-none layers commits none found.0 found.1 found.3.handed)))

    AreDated : Type 0
    AreDated = (All HasDates layers → HasDates layer × AreRight (history_of all) (times_of all) (dates_of all))
        × (¬ All HasDates layers → ¬ HasDates layer)

    dated : (o : Option (List ℕ)) → MatchOption o (known.have_dates ≡ false)
        (λ offsets. (known.have_dates ≡ true) × AreOffsetsOf times own offsets)
        → MatchOption o (HasDates layer → ⊥) (λ offsets.
        HasDates layer × (dates_in layer ≡ map (λ pair. pair.0 + pair.1) (zip (times_in layer) offsets)))
        → AreDated
    unfolding AreDated
    dated None off said = (λ stored. absurd (below.have_none off stored), λ _. said)
    dated (Some offsets) on said =
        let have = below.have_dates on.0 in (
          λ stored. (
            said.0,
            right-dates layers commits new is_new none known below own leveled plan counted planned layer says
                (opened-from bytes path layer is) times timed have offsets on.1 said.1 right,
          ),
          λ not_stored. absurd (not_stored have.stored),
        )

    pub written : IsWrittenLayer layers commits layer
    unfolding AreDated
    written =
        let dates = dated (offsets_of plan) has says.dates in
        record {
          kind = says.kind ∙ kind;
          bases = says.bases ∙ bases;
          commits = commits-here;
          sound =
              sound-top layers commits new is_new none known below own leveled plan counted planned layer says few bases local;
          distinct = distinct-top;
          dates = dates.0;
          no_dates = dates.1;
        }
