-- The plan that was made of new commits is the one for them.
use Rattle.std.proofs.Common.{◌≡◌, ℕ, ◌+◌, ◌-◌, ◌<◌, false, true, List, [], ◌∷◌, ◌++◌, map, length, All, IsSomeAnd}
use Rattle.std.proofs.Common.{slice_get, Option, Some, None, option_map, sym, ap, ◌∙◌, subst, arith}
use Rattle.std.specs.Prelude.{MatchOption, unwrap_or}
use Rattle.std.specs.List.{zip}
use Rattle.std.specs.Option.{option_map_or}
use Rattle.std.proofs.lemmas.List.{length-map, same_lists}
use Rattle.std.proofs.lemmas.List.FromFn.{length-map-range_with_len}
use Rattle.std.proofs.lemmas.Option.{slice_get_within, slice_get-map, slice_get-get_or, get_or_from_slice_get, same_Some}
use Rattle.graph_walks.specs.Dates.{AreRight}
use Rattle.graph_walks.specs.Generations.{AreLocal}
use Rattle.graph_walks.specs.History.{Node}
use Rattle.graph_walks.specs.Walks.{CountWalks}
use Rattle.graph_format.specs.Format.{Record}
use Rattle.graph_format.specs.Layer.{Layer, positions_from, record_at, no_record}
use Rattle.graph_format.specs.OptionalChunks.{HasDates, times_in, dates_in}
use Rattle.graph_format.specs.Order.{AreAscending}
use Rattle.graph_format.specs.Parents.{parents_of}
use Rattle.graph_format.specs.StoredHistory.{node_of, layer_history, history_of}
use Rattle.graph_format.specs.declared.Position.{Position}
use Rattle.graph_format.proofs.PieceLemmas.{get-map-range}
use Rattle.graph_format.proofs.ScanLemmas.{scan-found}
use Rattle.gix_commitgraph.specs.Graph.{graph_ids}
use Rattle.gix_commitgraph.proofs.lookup.ElementLemmas.{some-place}
use Rattle.graph_chunks.specs.GraphStoredDates.{times_of, dates_of}
use Rattle.graph_encoder.specs.DateOffsets.{offsets_of}
use Rattle.graph_encoder.specs.Said.{SaysPlan, SaysCommit}
use Rattle.graph_encoder.specs.Written.{ids_of}
use Rattle.graph_encoder.specs.declared.plan.FilePlan.{FilePlan}
use Rattle.graph_encoder.specs.declared.plan.PlanCommit.{PlanCommit}
use Rattle.graph_levels.specs.OnTop.{level_at, HasOnTop, HasLevelGenerations}
use Rattle.graph_levels.specs.ParentLists.{commit_count, parent_list}
use Rattle.graph_levels.specs.declared.level.Level.{Level}
use Rattle.graph_writer.specs.FiltersInOrder.{AreFiltersInOrder, MaybeInOrder}
use Rattle.graph_writer.specs.LayerPlans.{IsPlanFor, PlansCommit, PlansFilters, AreRightOffsets, filter_for, graph_ids_with}
use Rattle.graph_writer.specs.LayerPlans.{history_with, times_with, dates_with, planned_times}
use Rattle.graph_writer.specs.LevelsBelow.{AreLevelsBelow}
use Rattle.graph_writer.specs.NewCommits.{new_ids, AreFirst}
use Rattle.graph_writer.specs.NewFilters.{new_filter}
use Rattle.graph_writer.specs.NewLayers.{IsNewLayer, ids_in_order}
use Rattle.graph_writer.specs.PlannedCommits.{IsPlanOf, AreOffsetsOf}
use Rattle.graph_writer.specs.SortedPlaces.{IsOrder}
use Rattle.graph_writer.specs.WriteRefusal.{new_layer_refusal, kind_to_write}
use Rattle.graph_writer.specs.WrittenLayers.{IsWrittenLayer}
use Rattle.graph_writer.specs.declared.commit.NewCommit.{NewCommit}
use Rattle.graph_writer.specs.declared.filters.NewFilters.{NewFilters}
use Rattle.graph_writer.specs.declared.levels_below.LevelsBelow.{LevelsBelow}
use Rattle.graph_writer.specs.declared.new_layer.NewLayer.{NewLayer}
use Rattle.graph_writer.proofs.filter_lists.FilterLists.{filters-are, flat-lists}
use Rattle.graph_writer.proofs.positions.MixedSteps.{distinct}
use Rattle.graph_writer.proofs.positions.NewIdSteps.{id-at}
use Rattle.graph_writer.proofs.layers.RightSteps.{counts-top}
use Rattle.graph_writer.proofs.layers.TopSteps.{history-top, times-top, dates-top}
use Rattle.graph_writer.proofs.layers.WriteSteps.{HasOffsets}
use Rattle.graph_writer.proofs.layers.WrittenSteps.{some-and, own-ids, planned-at, plain-positions}

-- what is said of a value that is there
pub and-some : {X : Type 0} (o : Option X) (P : X → Type 0) (x : X) → o ≡ Some x → P x → IsSomeAnd o P
and-some {X} o P x here says = subst (λ (q : Option X). IsSomeAnd q P) (sym here) says

-- what the records of a layer say is what its plan says
module _ (plan : FilePlan) (layer : Layer) (says : SaysPlan plan layer) where
  records-say : {X : Type 0} (f : Record → X) (h : PlanCommit → X)
      → ((index : ℕ) (c : PlanCommit) (r : Record) → SaysCommit layer.edges index c r → f r ≡ h c)
      → map f layer.records ≡ map h plan.commits.items
  records-say f h same =
      same_lists (map f layer.records) (map h plan.commits.items)
      (length-map layer.records f ∙ says.count ∙ sym (length-map plan.commits.items h))
      (λ p d lt.
      let here = some-place plan.commits.items p (omega (arith, lt, length-map layer.records f, says.count)) in
      let found = some-and _ _ (says.commits p here.0 here.1) in
      get_or_from_slice_get (map f layer.records) p (h here.0) d
      (slice_get-map f layer.records p ∙ ap (option_map f) found.1 ∙ ap (λ x. Some x) (same _ here.0 found.0 found.2))
      ∙ sym
      (get_or_from_slice_get (map h plan.commits.items) p (h here.0) d
      (slice_get-map h plan.commits.items p ∙ ap (option_map h) here.1)))

  abbrev planned_node : PlanCommit → Node
  planned_node c = record { generation = c.generation; parents = c.parents.items }

  nodes-planned : layer_history layer ≡ map planned_node plan.commits.items
  unfolding layer_history
  nodes-planned =
      records-say (node_of layer) planned_node
      (λ index c r said.
      ap
      (λ (n : ℕ). let node : Node =
      record { generation = n; parents = map (λ (pos : Position). pos.0) (parents_of r layer.edges).positions } in node)
      said.generation
      ∙ ap (λ (ps : List ℕ). let node : Node = record { generation = c.generation; parents = ps } in node)
      (ap (λ d. map (λ (pos : Position). pos.0) d.positions) said.parents ∙ plain-positions c.parents.items))

  times-planned : times_in layer ≡ planned_times plan
  times-planned = records-say (λ (r : Record). r.time) (λ (c : PlanCommit). c.time) (λ index c r said. said.time)

  abbrev time_of : Layer × ℕ → ℕ
  time_of place = (record_at place.0 place.1).time

  as-many-records : length layer.ids ≡ length layer.records
  as-many-records =
      ap length says.ids ∙ length-map plan.commits.items (λ (c : PlanCommit). c.id) ∙ sym says.count

  times-there : map time_of (positions_from layer 0) ≡ times_in layer
  unfolding record_at
  times-there =
      let positions : length (map time_of (positions_from layer 0)) ≡ length layer.ids =
      length-map (positions_from layer 0) time_of ∙ length-positions in
      same_lists (map time_of (positions_from layer 0)) (times_in layer)
      (positions ∙ as-many-records ∙ sym (length-map layer.records (λ (r : Record). r.time)))
      (λ p d lt.
      let here = some-place layer.records p (omega (arith, lt, positions, as-many-records)) in
      get_or_from_slice_get (map time_of (positions_from layer 0)) p here.0.time d
      (slice_get-map time_of (positions_from layer 0) p
      ∙ ap (option_map time_of)
      (get-map-range (λ (pos : ℕ). (layer, pos)) 0 (length layer.ids - 0) p (omega (arith, lt, positions)))
      ∙ ap (λ (n : ℕ). Some (record_at layer n).time) (omega arith)
      ∙ ap (λ (o : Option Record). Some (unwrap_or o no_record).time) here.1)
      ∙ sym
      (get_or_from_slice_get (times_in layer) p here.0.time d
      (slice_get-map (λ (r : Record). r.time) layer.records p ∙ ap (option_map (λ (r : Record). r.time)) here.1)))
    where
      length-positions : length (positions_from layer 0) ≡ length layer.ids
      length-positions =
          length-map-range_with_len (λ (pos : ℕ). (layer, pos)) 0 (length layer.ids - 0)
          ∙ (let same : length layer.ids - 0 ≡ length layer.ids = omega arith in same)

  module _ (layers : List Layer) where
    pub history-planned : history_of (layers ++ layer ∷ []) ≡ history_with layers plan
    history-planned = history-top layers layer ∙ ap (λ (b : List Node). history_of layers ++ b) nodes-planned

    pub times-all : times_of (layers ++ layer ∷ []) ≡ times_with layers plan
    times-all =
        times-top layers layer ∙ ap (λ (ts : List ℕ). times_of layers ++ ts) (times-there ∙ times-planned)

    pub dates-all : (offsets : List ℕ) → dates_in layer ≡ map (λ pair. pair.0 + pair.1) (zip (times_in layer) offsets)
        → dates_of (layers ++ layer ∷ []) ≡ dates_with layers plan offsets
    dates-all offsets stored =
        dates-top layers layer
        ∙ ap (λ (ds : List ℕ). dates_of layers ++ ds)
        (stored ∙ ap (λ (ts : List ℕ). map (λ (pair : ℕ × ℕ). pair.0 + pair.1) (zip ts offsets)) times-planned)

module _ (layers : List Layer) (commits : List NewCommit) (new : NewLayer) (is_new : IsNewLayer layers commits new)
    (none : new_layer_refusal layers commits ≡ None) (known : LevelsBelow) (below : AreLevelsBelow layers known)
    (own : List Level) (leveled : length own ≡ commit_count new.parents)
    (plan : FilePlan) (counted : length plan.commits.items ≡ length new.order.items)
    (planned : (p i : ℕ) (commit : NewCommit) → slice_get new.order.items p ≡ Some i → slice_get commits i ≡ Some commit
    → IsSomeAnd (slice_get plan.commits.items p) (IsPlanOf commit (parent_list new.parents p) (level_at own p).generation))
    (layer : Layer) (says : SaysPlan plan layer) where
  abbrev order : List ℕ
  order = new.order.items

  abbrev sorted : List (List ℕ)
  sorted = ids_in_order commits new.order.items

  ids-planned : ids_of plan.commits.items ≡ sorted
  ids-planned = sym says.ids ∙ own-ids layers commits new is_new own plan counted planned layer says

  ordered : IsOrder commits order
  ordered = record {
    mixed = record { as_many = is_new.as_many; each = is_new.each; all = is_new.all };
    ascending = is_new.ascending;
  }

  plans : (p i : ℕ) (commit : NewCommit) (c : PlanCommit) → slice_get order p ≡ Some i → slice_get commits i ≡ Some commit
      → IsPlanOf commit (parent_list new.parents p) (level_at own p).generation c
      → PlansCommit (graph_ids_with layers plan) commit c
  plans p i commit c at here is = record {
    id = is.id;
    tree = is.tree;
    parents =
        subst (λ (ids : List (List ℕ)). AreFirst (graph_ids layers ++ ids) c.parents.items commit.parents.items)
        (sym ids-planned)
        (subst (λ (ps : List ℕ). AreFirst (graph_ids layers ++ sorted) ps commit.parents.items) (sym is.parents)
        (is_new.parents p i commit at here));
    time = is.time;
  }

  -- each commit that was handed in is planned
  all-planned : (i : ℕ) (commit : NewCommit) → slice_get commits i ≡ Some commit
      → (p : ℕ) × IsSomeAnd (slice_get plan.commits.items p) (PlansCommit (graph_ids_with layers plan) commit)
  all-planned i commit here =
      let place = is_new.all i (slice_get_within commits i commit here) in
      let p = place.0 in
      let at : slice_get order p ≡ Some i =
      slice_get-get_or order p i place.1 ∙ ap (λ (n : ℕ). Some n) place.2 in
      let found = some-and _ _ (planned p i commit at here) in (
        p,
        and-some (slice_get plan.commits.items p) (PlansCommit (graph_ids_with layers plan) commit) found.0 found.1
            (plans p i commit found.0 at here found.2),
      )

  -- and no other
  only-planned : (p : ℕ) (c : PlanCommit) → slice_get plan.commits.items p ≡ Some c
      → (i : ℕ) × IsSomeAnd (slice_get commits i) (λ commit. PlansCommit (graph_ids_with layers plan) commit c)
  only-planned p c there =
      let lt : p < length commits =
      omega (arith, slice_get_within plan.commits.items p c there, counted, is_new.as_many) in
      let at = planned-at layers commits new is_new own plan counted planned p lt in
      let same : at.4 ≡ c = same_Some at.4 c (sym at.5 ∙ there) in (
        at.0,
        and-some (slice_get commits at.0) (λ (commit : NewCommit). PlansCommit (graph_ids_with layers plan) commit c) at.1 at.3
            (subst (λ (x : PlanCommit). PlansCommit (graph_ids_with layers plan) at.1 x) same
            (plans p at.0 at.1 at.4 at.2 at.3 at.6)),
      )

  -- the filter of a commit is the one that was handed in with it
  filter-there : (filters : NewFilters) (i : ℕ) (commit : NewCommit) → slice_get commits i ≡ Some commit
      → filter_for commits filters commit.id ≡ new_filter filters i
  filter-there filters i commit here =
      let at = id-at commits i commit here in
      ap (λ (o : Option ℕ). option_map_or (new_filter filters) o [])
      (scan-found (new_ids commits) commit.id i at
      (λ j before other. distinct commits order ordered j i commit.id before other at))

  plans-filters : (filters in_order : NewFilters) → AreFiltersInOrder order filters in_order
      → PlansFilters commits filters (ids_of plan.commits.items) in_order.parts
  plans-filters filters in_order is =
      let each_filter : List ℕ → List ℕ = filter_for commits filters in
      let ids : List (List ℕ) = ids_of plan.commits.items in
      let size : length ids ≡ length commits =
      length-map plan.commits.items (λ (c : PlanCommit). c.id) ∙ counted ∙ is_new.as_many in
      let lists =
      filters-are in_order (map each_filter ids)
      (is.as_many ∙ is_new.as_many ∙ sym (length-map ids each_filter ∙ size))
      (λ p lt.
      let at = planned-at layers commits new is_new own plan counted planned p (omega (arith, lt, is.as_many, is_new.as_many)) in
      let id : slice_get ids p ≡ Some at.1.id =
      slice_get-map (λ (c : PlanCommit). c.id) plan.commits.items p
      ∙ ap (option_map (λ (c : PlanCommit). c.id)) at.5
      ∙ ap (λ (x : List ℕ). Some x) at.6.id in
      is.each p at.0 at.2
      ∙ sym (filter-there filters at.0 at.1 at.3)
      ∙ sym
      (get_or_from_slice_get (map each_filter ids) p (each_filter at.1.id) []
      (slice_get-map each_filter ids p ∙ ap (option_map each_filter) id))) in
      record {
        numbers = is.numbers;
        ends = lists.0;
        bytes = lists.1 ∙ flat-lists each_filter ids;
      }

  filters-planned : (filters in_order : Option NewFilters) → MaybeInOrder order filters in_order
      → plan.filters ≡ option_map (λ f. f.parts) in_order
      → MatchOption filters (plan.filters ≡ None)
      (λ handed. IsSomeAnd plan.filters (PlansFilters commits handed (ids_of plan.commits.items)))
  filters-planned None None is has = has
  filters-planned None (Some in_order) is has = absurd is
  filters-planned (Some filters) None is has = absurd is
  filters-planned (Some filters) (Some in_order) is has =
      and-some plan.filters (PlansFilters commits filters (ids_of plan.commits.items)) in_order.parts has
      (plans-filters filters in_order is)

  module _ (times : List ℕ) (has : HasOffsets known times own plan) (written : IsWrittenLayer layers commits layer)
      (local : (history : List Node) → HasOnTop history (length known.levels.items) new.parents
      → HasLevelGenerations history known.levels.items own → AreLocal history) where
    dates-planned : (o : Option (List ℕ)) → MatchOption o (known.have_dates ≡ false)
        (λ offsets. (known.have_dates ≡ true) × AreOffsetsOf times own offsets)
        → MatchOption o (HasDates layer → ⊥) (λ offsets.
        HasDates layer × (dates_in layer ≡ map (λ pair. pair.0 + pair.1) (zip (times_in layer) offsets)))
        → MatchOption o (¬ All HasDates layers) (λ offsets. All HasDates layers × AreRightOffsets layers plan offsets)
    dates-planned None off said = below.have_none off
    dates-planned (Some offsets) on said =
        let have = below.have_dates on.0 in
        let right = (written.dates have.stored).1 in (
          have.stored,
          record {
            as_many = omega (arith, on.1.as_many, leveled, is_new.listed, counted, is_new.as_many);
            right =
                subst (λ (h : List Node). AreRight h (times_with layers plan) (dates_with layers plan offsets))
                (history-planned plan layer says layers)
                (subst (λ (ts : List ℕ). AreRight (history_of (layers ++ layer ∷ [])) ts (dates_with layers plan offsets))
                (times-all plan layer says layers)
                (subst (λ (ds : List ℕ). AreRight (history_of (layers ++ layer ∷ [])) (times_of (layers ++ layer ∷ [])) ds)
                (dates-all plan layer says layers offsets said.1) right));
          },
        )

    pub plan-for : (filters in_order : Option NewFilters) → MaybeInOrder order filters in_order
        → plan.filters ≡ option_map (λ f. f.parts) in_order → plan.kind ≡ kind_to_write layers commits
        → plan.bases.items ≡ map (λ l. l.checksum) layers → IsPlanFor layers commits filters plan
    plan-for filters in_order is has_filters kind bases = record {
      kind = kind;
      bases = bases;
      ascending = subst (λ ids. AreAscending ids) (sym ids-planned) is_new.ascending;
      all = all-planned;
      only = only-planned;
      generations =
          subst (λ (h : List Node). CountWalks h) (history-planned plan layer says layers)
          (counts-top layers commits new is_new none known below own leveled plan counted planned layer says local);
      dates = dates-planned (offsets_of plan) has says.dates;
      filters = filters-planned filters in_order is has_filters;
    }
