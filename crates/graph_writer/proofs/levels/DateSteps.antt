-- The corrected dates of a graph with a new layer on top are right, as those below were.
use Rattle.std.proofs.Common.{◌≡◌, ℕ, zero, suc, ◌+◌, ◌-◌, ◌<◌, List, [], ◌∷◌, ◌++◌, map, length, All, IsSomeAnd, slice_get}
use Rattle.std.proofs.Common.{get_or, Option, Some, None, option_map, unwrap_or, sym, ap, ◌∙◌, subst, arith}
use Rattle.std.specs.List.{zip}
use Rattle.std.proofs.lemmas.List.{length-map}
use Rattle.std.proofs.lemmas.List.Elements.{All-push}
use Rattle.std.proofs.lemmas.Option.{slice_get-map, slice_get-get_or, get_or_from_slice_get}
use Rattle.graph_walks.specs.Dates.{AreRight}
use Rattle.graph_walks.specs.History.{Node}
use Rattle.graph_format.specs.Format.{Record}
use Rattle.graph_format.specs.Layer.{Layer, IsOpened, record_at, no_record, positions_from}
use Rattle.graph_format.specs.StoredHistory.{layer_history, history_of}
use Rattle.graph_format.proofs.PieceLemmas.{get-map-range}
use Rattle.gix_commitgraph.specs.Graph.{graph_commits}
use Rattle.gix_commitgraph.proofs.history.HistoryLemmas.{length-history}
use Rattle.gix_commitgraph.proofs.layers.PositionLemmas.{length-graph_commits}
use Rattle.graph_format.specs.OptionalChunks.{times_in, dates_in}
use Rattle.graph_chunks.specs.GraphStoredDates.{times_of, dates_of}
use Rattle.graph_chunks.proofs.StoredDateLemmas.{length-dates_of}
use Rattle.graph_encoder.specs.Said.{SaysPlan}
use Rattle.graph_encoder.specs.declared.plan.FilePlan.{FilePlan}
use Rattle.graph_levels.specs.OnTop.{level_at, HasOnTop, HasLevelDates}
use Rattle.graph_levels.specs.ParentLists.{commit_count, parent_list}
use Rattle.graph_levels.specs.declared.level.Level.{Level}
use Rattle.graph_writer.specs.LevelsBelow.{AreLevelsBelow, HaveDatesBelow}
use Rattle.graph_writer.specs.NewCommits.{new_times}
use Rattle.graph_writer.specs.NewLayers.{IsNewLayer}
use Rattle.graph_writer.specs.PlannedCommits.{IsPlanOf, AreOffsetsOf}
use Rattle.graph_writer.specs.WriteRefusal.{new_layer_refusal}
use Rattle.graph_writer.specs.declared.commit.NewCommit.{NewCommit}
use Rattle.graph_writer.specs.declared.levels_below.LevelsBelow.{LevelsBelow}
use Rattle.graph_writer.specs.declared.new_layer.NewLayer.{NewLayer}
use Rattle.graph_writer.proofs.positions.KnownSteps.{get-back}
use Rattle.graph_writer.proofs.layers.RightSteps.{on-top, parents-below}
use Rattle.graph_writer.proofs.layers.TopSteps.{history-top, times-top, dates-top, number-front, date-front}
use Rattle.graph_writer.proofs.layers.WrittenSteps.{IsTold, told, as-many}

pub zip-at : {X Y : Type 0} (xs : List X) (ys : List Y) (i : ℕ) (x : X) (y : Y) → slice_get xs i ≡ Some x
    → slice_get ys i ≡ Some y → slice_get (zip xs ys) i ≡ Some (x, y)
zip-at [] ys i x y here there = cc
zip-at (a ∷ xs) [] i x y here there = cc
zip-at (a ∷ xs) (b ∷ ys) zero x y here there = cc
zip-at (a ∷ xs) (b ∷ ys) (suc i) x y here there = zip-at xs ys i x y here there

abbrev time_of : Layer × ℕ → ℕ
time_of place = (record_at place.0 place.1).time

module _ (layers : List Layer) (commits : List NewCommit) (new : NewLayer) (is_new : IsNewLayer layers commits new)
    (none : new_layer_refusal layers commits ≡ None) (known : LevelsBelow) (below : AreLevelsBelow layers known)
    (own : List Level) (leveled : length own ≡ commit_count new.parents)
    (plan : FilePlan) (counted : length plan.commits.items ≡ length new.order.items)
    (planned : (p i : ℕ) (commit : NewCommit) → slice_get new.order.items p ≡ Some i → slice_get commits i ≡ Some commit
    → IsSomeAnd (slice_get plan.commits.items p) (IsPlanOf commit (parent_list new.parents p) (level_at own p).generation))
    (layer : Layer) (says : SaysPlan plan layer) (opened : IsOpened layer)
    (times : List ℕ) (timed : times ≡ map (λ i. get_or (new_times commits) i 0) new.order.items)
    (have : HaveDatesBelow layers known) (offsets : List ℕ) (are : AreOffsetsOf times own offsets)
    (stored : dates_in layer ≡ map (λ pair. pair.0 + pair.1) (zip (times_in layer) offsets)) where
  abbrev all : List Layer
  all = layers ++ layer ∷ []

  abbrev a : List Node
  a = history_of layers

  abbrev b : List Node
  b = layer_history layer

  told-here : (p : ℕ) → p < length commits
      → (i : ℕ) × (commit : NewCommit) × (r : Record) × IsTold commits new own layer p i commit r
  told-here = told layers commits new is_new own plan counted planned layer says

  abbrev own_times : List ℕ
  own_times = map time_of (positions_from layer 0)

  opened-all : All IsOpened all
  opened-all = All-push IsOpened layers layer below.opened opened

  as-many-times : length (times_of layers) ≡ length a
  unfolding times_of
  as-many-times =
      length-map (graph_commits layers) time_of ∙ length-graph_commits layers ∙ sym (length-history layers below.opened)

  time-at : (p : ℕ) → (lt : p < length commits) → slice_get own_times p ≡ Some (told-here p lt).1.time
  unfolding record_at
  time-at p lt =
      let is = (told-here p lt).3 in
      slice_get-map time_of (positions_from layer 0) p
      ∙ ap (option_map time_of)
      (get-map-range (λ (pos : ℕ). (layer, pos)) 0 (length layer.ids - 0) p
      (omega (arith, as-many layers commits new is_new own plan counted planned layer says)))
      ∙ ap (λ (n : ℕ). Some (record_at layer n).time) (omega arith)
      ∙ ap (λ (o : Option Record). Some (unwrap_or o no_record).time) is.recorded
      ∙ ap (λ (t : ℕ). Some t) is.time

  handed-time : (p : ℕ) → (lt : p < length commits) → get_or times p 0 ≡ (told-here p lt).1.time
  handed-time p lt =
      let is = (told-here p lt).3 in
      let i = (told-here p lt).0 in
      let commit = (told-here p lt).1 in
      let time : get_or (new_times commits) i 0 ≡ commit.time =
      get_or_from_slice_get (new_times commits) i commit.time 0
      (slice_get-map (λ (c : NewCommit). c.time) commits i ∙ ap (option_map (λ (c : NewCommit). c.time)) is.handed) in
      get_or_from_slice_get times p commit.time 0
      (ap (λ (ts : List ℕ). slice_get ts p) timed
      ∙ slice_get-map (λ (n : ℕ). get_or (new_times commits) n 0) new.order.items p
      ∙ ap (option_map (λ (n : ℕ). get_or (new_times commits) n 0)) is.ordered
      ∙ ap (λ (t : ℕ). Some t) time)

  date-at : (p : ℕ) → p < length commits → slice_get (dates_in layer) p ≡ Some (level_at own p).date
  date-at p lt =
      let is = (told-here p lt).3 in
      let commit = (told-here p lt).1 in
      let inside : p < length own = omega (arith, leveled, is_new.listed) in
      let stored_time : slice_get (times_in layer) p ≡ Some commit.time =
      slice_get-map (λ (r : Record). r.time) layer.records p
      ∙ ap (option_map (λ (r : Record). r.time)) is.recorded
      ∙ ap (λ (t : ℕ). Some t) is.time in
      let offset : slice_get offsets p ≡ Some (get_or offsets p 0) =
      slice_get-get_or offsets p 0 (omega (arith, are.as_many)) in
      let sum : commit.time + get_or offsets p 0 ≡ (level_at own p).date =
      omega (arith, are.each p inside, handed-time p lt) in
      ap (λ (ds : List ℕ). slice_get ds p) stored
      ∙ slice_get-map (λ (pair : ℕ × ℕ). pair.0 + pair.1) (zip (times_in layer) offsets) p
      ∙ ap (option_map (λ (pair : ℕ × ℕ). pair.0 + pair.1)) (zip-at (times_in layer) offsets p _ _ stored_time offset)
      ∙ ap (λ (d : ℕ). Some d) sum

  base-is : length known.levels.items ≡ length a
  base-is = below.as_many ∙ sym (length-history layers below.opened)

  has-dates : HasLevelDates (a ++ b) (times_of layers ++ own_times) (dates_of layers ++ dates_in layer) known.levels.items own
      times
  has-dates = record {
    as_many =
        ap length (sym (dates-top layers layer))
        ∙ length-dates_of all opened-all
        ∙ sym (length-history all opened-all)
        ∙ ap length (history-top layers layer);
    lower = λ p lt.
        number-front a b (times_of layers) (dates_of layers) own_times (dates_in layer) as-many-times have.right.as_many p
        (omega (arith, base-is))
        ∙ have.dates p (omega (arith, below.as_many));
    upper = λ i lt.
        let here = date-at i (omega (arith, leveled, is_new.listed)) in
        get_or_from_slice_get (dates_of layers ++ dates_in layer) (length known.levels.items + i) (level_at own i).date 0
        (ap (λ (n : ℕ). slice_get (dates_of layers ++ dates_in layer) (n + i)) (base-is ∙ sym have.right.as_many)
        ∙ get-back (dates_of layers) (dates_in layer) i
        ∙ here);
    upper_times = λ i lt.
        let inside : i < length commits = omega (arith, leveled, is_new.listed) in
        let time = (told-here i inside).1.time in
        get_or_from_slice_get (times_of layers ++ own_times) (length known.levels.items + i) time 0
        (ap (λ (n : ℕ). slice_get (times_of layers ++ own_times) (n + i)) (base-is ∙ sym as-many-times)
        ∙ get-back (times_of layers) own_times i
        ∙ time-at i inside)
        ∙ sym (handed-time i inside);
    right = λ p lt.
        let inside : p < length a = omega (arith, base-is) in
        number-front a b (times_of layers) (dates_of layers) own_times (dates_in layer) as-many-times have.right.as_many p inside
        ∙ have.right.expected p inside
        ∙ sym
        (date-front a b (times_of layers) (dates_of layers) own_times (dates_in layer) as-many-times have.right.as_many p inside
        (parents-below layers commits new is_new none known below own leveled plan counted planned layer says p));
  }

  pub right-dates : ((history : List Node) (ts ds : List ℕ) → HasOnTop history (length known.levels.items) new.parents
      → HasLevelDates history ts ds known.levels.items own times → AreRight history ts ds)
      → AreRight (history_of all) (times_of all) (dates_of all)
  right-dates right =
      subst (λ (h : List Node). AreRight h (times_of all) (dates_of all)) (sym (history-top layers layer))
      (subst (λ (ts : List ℕ). AreRight (a ++ b) ts (dates_of all)) (sym (times-top layers layer))
      (subst (λ (ds : List ℕ). AreRight (a ++ b) (times_of layers ++ own_times) ds) (sym (dates-top layers layer))
      (right (a ++ b) (times_of layers ++ own_times) (dates_of layers ++ dates_in layer)
      (on-top layers commits new is_new none known below own leveled plan counted planned layer says) has-dates)))
