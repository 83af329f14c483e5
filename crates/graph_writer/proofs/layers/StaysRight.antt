-- A graph with a new layer on top is right throughout.
use Rattle.std.proofs.Common.{◌≡◌, ℕ, ◌+◌, ◌^◌, ◌<◌, false, true, List, [], ◌∷◌, ◌++◌, length, All, IsSomeAnd, slice_get}
use Rattle.std.proofs.Common.{Option, Some, None, ap, ◌∙◌, subst, arith}
use Rattle.std.specs.Prelude.{MatchOption, codes, option_map, unwrap_or}
use Rattle.std.proofs.lemmas.List.{get_or-append-add, get_or_append_left, length_push}
use Rattle.std.proofs.lemmas.List.Elements.{All-push}
use Rattle.graph_walks.specs.Dates.{number_at}
use Rattle.graph_format.specs.Format.{chunk_of}
use Rattle.graph_format.specs.Layer.{Layer, IsOpened, bytes_of}
use Rattle.graph_format.specs.OptionalChunks.{HasDates, dates_in}
use Rattle.graph_chunks.specs.GraphDates.{graph_dates_refusal}
use Rattle.graph_chunks.specs.GraphStoredDates.{dates_of}
use Rattle.graph_encoder.specs.Chunks.{unless_empty}
use Rattle.graph_encoder.specs.DateOffsets.{offsets_of, offset_words, large_offsets}
use Rattle.graph_encoder.specs.Said.{SaysPlan}
use Rattle.graph_encoder.specs.Written.{words_bytes, longs_bytes}
use Rattle.graph_encoder.specs.declared.plan.FilePlan.{FilePlan}
use Rattle.graph_levels.specs.OnTop.{level_at}
use Rattle.graph_levels.specs.ParentLists.{commit_count, parent_list}
use Rattle.graph_levels.specs.declared.level.Level.{Level}
use Rattle.graph_writer.specs.LevelsBelow.{AreLevelsBelow}
use Rattle.graph_writer.specs.NewFilters.{HasFiltersOf}
use Rattle.graph_writer.specs.NewLayers.{IsNewLayer}
use Rattle.graph_writer.specs.PlannedCommits.{IsPlanOf, AreOffsetsOf}
use Rattle.graph_writer.specs.WriteRefusal.{new_layer_refusal}
use Rattle.graph_writer.specs.WrittenFiles.{StaysRightWith}
use Rattle.graph_writer.specs.WrittenLayers.{IsWrittenLayer}
use Rattle.graph_writer.specs.declared.commit.NewCommit.{NewCommit}
use Rattle.graph_writer.specs.declared.filters.NewFilters.{NewFilters}
use Rattle.graph_writer.specs.declared.levels_below.LevelsBelow.{LevelsBelow}
use Rattle.graph_writer.specs.declared.new_layer.NewLayer.{NewLayer}
use Rattle.graph_writer.proofs.layers.AcceptedSteps.{few}
use Rattle.graph_writer.proofs.levels.ReadDates.{readable, none-refused}
use Rattle.graph_writer.proofs.filter_lists.ReadFilters.{filters-right}
use Rattle.graph_writer.proofs.layers.RightSteps.{total-top}
use Rattle.graph_writer.proofs.levels.TimeSteps.{early-dates}
use Rattle.graph_writer.proofs.layers.TopSteps.{dates-top}
use Rattle.graph_writer.proofs.layers.WriteSteps.{HasOffsets}

module _ (layers : List Layer) (commits : List NewCommit) (new : NewLayer) (is_new : IsNewLayer layers commits new)
    (none : new_layer_refusal layers commits ≡ None) (known : LevelsBelow) (below : AreLevelsBelow layers known)
    (own : List Level) (leveled : length own ≡ commit_count new.parents)
    (plan : FilePlan) (counted : length plan.commits.items ≡ length new.order.items)
    (planned : (p i : ℕ) (commit : NewCommit) → slice_get new.order.items p ≡ Some i → slice_get commits i ≡ Some commit
    → IsSomeAnd (slice_get plan.commits.items p) (IsPlanOf commit (parent_list new.parents p) (level_at own p).generation))
    (layer : Layer) (says : SaysPlan plan layer) (opened : IsOpened layer) (times : List ℕ)
    (has : HasOffsets known times own plan) (written : IsWrittenLayer layers commits layer) where
  abbrev all : List Layer
  all = layers ++ layer ∷ []

  opened-all : All IsOpened all
  opened-all = All-push IsOpened layers layer below.opened opened

  few-all : length commits < 2 ^ 31
  few-all = omega (arith, few layers commits none)

  -- each date of the layer is early, as all of the graph are
  early : All HasDates layers → (p : ℕ) → number_at (dates_in layer) p < 2 ^ 63
  early stored p =
      let right = (written.dates stored).1 in
      let total = total-top layers commits new is_new none known below own leveled plan counted planned layer says in
      let bound =
      early-dates all (dates_of all) opened-all (omega (arith, total, few layers commits none)) right
      (length (dates_of layers) + p) in
      let same : number_at (dates_of all) (length (dates_of layers) + p) ≡ number_at (dates_in layer) p =
      ap (λ (ds : List ℕ). number_at ds (length (dates_of layers) + p)) (dates-top layers layer)
      ∙ get_or-append-add (dates_of layers) (dates_in layer) p 0 in
      omega (arith, bound, same)

  stays : (o : Option (List ℕ)) → MatchOption o (known.have_dates ≡ false)
      (λ offsets. (known.have_dates ≡ true) × AreOffsetsOf times own offsets)
      → chunk_of (bytes_of layer) (codes "GDA2") ≡ option_map (λ offsets. words_bytes (offset_words offsets)) o
      → chunk_of (bytes_of layer) (codes "GDO2") ≡ unless_empty (longs_bytes (large_offsets (unwrap_or o [])))
      → All HasDates layers → graph_dates_refusal all ≡ None
  stays None off first second stored = absurd (below.have_none off stored)
  stays (Some offsets) on first second stored =
      let sized : length offsets ≡ length layer.records =
      omega (arith, on.1.as_many, leveled, is_new.listed, says.count, counted, is_new.as_many) in
      let read =
      readable layer offsets sized (omega (arith, sized, says.count, counted, is_new.as_many, few-all)) on.1.fit first second
      (λ p lt. early stored p) in
      none-refused layers layer (below.accepted stored) read opened-all (written.dates stored).1

  front-dates : All HasDates all → All HasDates layers
  front-dates stored i d lt =
      subst HasDates (get_or_append_left layers (layer ∷ []) d i lt)
      (stored i d (omega (arith, lt, length_push layers layer)))

  pub stays-right : (filters : Option NewFilters) → HasFiltersOf commits filters layer → StaysRightWith layers filters layer
  stays-right filters has_filters named filters_below asked = record {
    sound = written.sound named;
    dates = λ stored. stays (offsets_of plan) has says.offsets says.overflow (front-dates stored);
    filters = filters-right layers layer filters_below commits filters has_filters asked;
  }
