-- What is asked for the levels of new commits fits together.
use Rattle.std.proofs.Common.{◌≡◌, ℕ, ◌+◌, ◌<◌, ◌^◌, List, [], map, length, All, Option, Some, None, option_map, is_some}
use Rattle.std.proofs.Common.{unwrap_or, get_or, true, sym, ap, ◌∙◌, subst, arith}
use Rattle.std.specs.Prelude.{IfSome, IfNone}
use Rattle.std.proofs.lemmas.List.{length-map, get_or_default}
use Rattle.std.proofs.lemmas.List.Elements.{All-map}
use Rattle.std.proofs.lemmas.Option.{slice_get-map, get_or_from_slice_get, none-some}
use Rattle.gix_chunk_core.proofs.FirstFaultLemmas.{first_below-none, option_or-none}
use Rattle.graph_walks.specs.Dates.{number_at, AreRight}
use Rattle.graph_walks.specs.History.{generation_at}
use Rattle.graph_format.specs.Layer.{Layer, IsOpened}
use Rattle.graph_format.specs.StoredHistory.{history_of}
use Rattle.gix_commitgraph.specs.Graph.{IsGraph, total}
use Rattle.gix_commitgraph.specs.Sound.{Sound}
use Rattle.gix_commitgraph.proofs.history.HistoryLemmas.{length-history}
use Rattle.gix_commitgraph.proofs.lookup.ElementLemmas.{some-place}
use Rattle.graph_chunks.specs.GraphDates.{graph_dates_refusal, reading_fault, wrong_date}
use Rattle.graph_format.specs.OptionalChunks.{HasDates}
use Rattle.graph_chunks.specs.GraphStoredDates.{times_of, dates_of}
use Rattle.graph_chunks.proofs.StoredDateLemmas.{length-dates_of}
use Rattle.graph_levels.specs.OnTop.{FitTogether, level_at, no_level}
use Rattle.graph_levels.specs.ParentLists.{commit_count, parent_list}
use Rattle.graph_levels.specs.declared.level.Level.{Level}
use Rattle.graph_writer.specs.LevelsBelow.{AreLevelsBelow}
use Rattle.graph_writer.specs.NewCommits.{new_times}
use Rattle.graph_writer.specs.NewLayers.{IsNewLayer}
use Rattle.graph_writer.specs.WriteRefusal.{new_layer_refusal}
use Rattle.graph_writer.specs.declared.commit.NewCommit.{NewCommit}
use Rattle.graph_writer.specs.declared.levels_below.LevelsBelow.{LevelsBelow}
use Rattle.graph_writer.specs.declared.new_layer.NewLayer.{NewLayer}
use Rattle.graph_writer.proofs.layers.AcceptedSteps.{accepted, few}
use Rattle.graph_writer.proofs.levels.TimeSteps.{early-dates}

pub fit-together : (layers : List Layer) (commits : List NewCommit) (new : NewLayer) → IsNewLayer layers commits new
    → new_layer_refusal layers commits ≡ None → (known : LevelsBelow) → AreLevelsBelow layers known → (times : List ℕ)
    → times ≡ map (λ i. get_or (new_times commits) i 0) new.order.items
    → FitTogether known.levels.items new.parents times
fit-together layers commits new is_new none known below times timed = record {
  within = λ i lt.
      let count : total layers + length commits ≡ length known.levels.items + commit_count new.parents =
      omega (arith, below.as_many, is_new.listed) in
      subst (λ (n : ℕ). All (λ q. q < n) (parent_list new.parents i)) count
      (is_new.within i (omega (arith, is_new.listed)));
  timed =
      ap length timed
      ∙ length-map new.order.items (λ (i : ℕ). get_or (new_times commits) i 0)
      ∙ is_new.as_many
      ∙ sym is_new.listed;
  few = omega (arith, below.as_many, is_new.listed, few layers commits none);
  early =
      subst (All (λ time. time < 2 ^ 63)) (sym timed)
      (All-map (λ time. time < 2 ^ 63) (λ (i : ℕ). get_or (new_times commits) i 0) new.order.items
      (λ k d lt.
      let i : ℕ = get_or new.order.items k d in
      let at = some-place commits i (is_new.each k d lt) in
      let time : get_or (new_times commits) i 0 ≡ at.0.time =
      get_or_from_slice_get (new_times commits) i at.0.time 0
      (slice_get-map (λ (c : NewCommit). c.time) commits i ∙ ap (option_map (λ (c : NewCommit). c.time)) at.1) in
      omega (arith, time, (accepted layers commits none i at.0 at.1).time)));
  dates = below.early;
}

none-to-refuse : graph_dates_refusal [] ≡ None
unfolding graph_dates_refusal
none-to-refuse =
    option_or-none _ _ (first_below-none (reading_fault []))
    (first_below-none (wrong_date (history_of []) (times_of []) (dates_of [])))

-- without a graph below
pub no-levels : (known : LevelsBelow) → known.levels.items ≡ [] → known.have_dates ≡ true → AreLevelsBelow [] known
no-levels known empty dated =
    let opened : All IsOpened [] = λ k d lt. absurd (omega arith) in
    let none : length (history_of []) ≡ 0 = length-history [] opened in
    record {
      sound = record {
        rules = record {
          few = omega arith;
          bases = λ i l here. absurd (none-some l here);
          each = λ k d lt. absurd (omega arith);
        };
        parents = λ i l here. absurd (none-some l here);
        generations = λ p lt. absurd (omega (arith, none));
      };
      opened = opened;
      alike = λ i j d before within. absurd (omega arith);
      few = omega arith;
      as_many = ap length empty;
      generations = λ p lt. absurd (omega arith);
      early = subst (All (λ level. level.date < 2 ^ 63)) (sym empty) (λ k d lt. absurd (omega arith));
      have_dates = λ _. record {
        stored = λ k d lt. absurd (omega arith);
        right = record {
          as_many = length-dates_of [] opened ∙ sym none;
          expected = λ p lt. absurd (omega (arith, none));
        };
        dates = λ p lt. absurd (omega arith);
      };
      accepted = λ stored. none-to-refuse;
      have_none = λ off. cc;
    }

-- on a graph that is right
pub graph-levels : (layers : List Layer) (known : LevelsBelow) (dates : Option (List ℕ)) → Sound layers → IsGraph layers
    → length known.levels.items ≡ total layers
    → ((p : ℕ) → p < total layers → generation_at (history_of layers) p ≡ (level_at known.levels.items p).generation)
    → ((p : ℕ) → p < total layers → number_at (unwrap_or dates []) p ≡ (level_at known.levels.items p).date)
    → known.have_dates ≡ is_some dates → IfSome dates (λ _. All HasDates layers) → IfNone dates (¬ All HasDates layers)
    → IfSome dates (λ found. found ≡ dates_of layers)
    → IfSome dates (λ found. AreRight (history_of layers) (times_of layers) found)
    → IfSome dates (λ _. graph_dates_refusal layers ≡ None) → AreLevelsBelow layers known
graph-levels layers known None sound graph many generations dates dated some none stored right accepted = record {
  sound = sound;
  opened = graph.opened;
  alike = graph.makes.alike;
  few = graph.makes.few;
  as_many = many;
  generations = generations;
  early = λ k d lt.
      let date = dates k (omega arith) in
      let same : get_or known.levels.items k no_level ≡ get_or known.levels.items k d =
      get_or_default known.levels.items k no_level d lt in
      subst (λ (level : Level). level.date < 2 ^ 63) same (omega (arith, date));
  have_dates = λ on. cc;
  accepted = λ all. absurd (none all);
  have_none = λ _. none;
}
graph-levels layers known (Some found) sound graph many generations dates dated some none stored right accepted = record {
  sound = sound;
  opened = graph.opened;
  alike = graph.makes.alike;
  few = graph.makes.few;
  as_many = many;
  generations = generations;
  early = λ k d lt.
      let date = dates k (omega arith) in
      let same : get_or known.levels.items k no_level ≡ get_or known.levels.items k d =
      get_or_default known.levels.items k no_level d lt in
      subst (λ (level : Level). level.date < 2 ^ 63) same
      (omega (arith, date, early-dates layers found graph.opened graph.makes.few right k));
  have_dates = λ _. record {
    stored = some;
    right = subst (AreRight (history_of layers) (times_of layers)) stored right;
    dates = λ p lt. ap (λ (ds : List ℕ). number_at ds p) (sym stored) ∙ dates p lt;
  };
  accepted = λ _. accepted;
  have_none = λ off. cc;
}
