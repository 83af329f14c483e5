use Rattle.std.proofs.Common.{◌≡◌, ◌≤◌, ℕ, true, false, List, Option, Some, None, map, length}
use Rattle.std.proofs.Common.{option_map, sym, ap, ◌∙◌, subst, arith}
use Rattle.std.specs.Prelude.{IfSome, IfNone, MatchOption}
use Rattle.std.proofs.lemmas.List.{length-map}
use Rattle.std.proofs.lemmas.Result.{err_from_is_err_and}
use Rattle.graph_walks.specs.Dates.{AreRight}
use Rattle.graph_walks.specs.Generations.{AreLocal}
use Rattle.graph_walks.specs.History.{Node}
use Rattle.graph_format.specs.Layer.{Layer}
use Rattle.graph_encoder.specs.Plan.{AreOffsets}
use Rattle.graph_levels.specs.OnTop.{FitTogether, HasOnTop, HasLevelGenerations, HasLevelDates}
use Rattle.graph_levels.specs.OnTop.{AreClosedBelow, HasNoCycleOnTop}
use Rattle.graph_levels.specs.declared.level.Level.{Level}
use Rattle.graph_writer.specs.Cycles.{HaveNoCycle}
use Rattle.graph_writer.specs.LevelsBelow.{AreLevelsBelow}
use Rattle.graph_writer.specs.FiltersInOrder.{MaybeInOrder}
use Rattle.graph_writer.specs.NewCommits.{layers_of_below}
use Rattle.graph_writer.specs.NewFilters.{filters_handed}
use Rattle.graph_writer.specs.NewLayers.{IsNewLayer}
use Rattle.graph_writer.specs.OwnLevels.{MayHaveNoLevels}
use Rattle.graph_writer.specs.PlannedCommits.{AreOffsetsOf}
use Rattle.graph_writer.specs.WriteRefusal.{new_layer_refusal}
use Rattle.graph_writer.specs.NewFilters.{filter_count}
use Rattle.graph_writer.specs.SortedPlaces.{IsMixed}
use Rattle.graph_writer.specs.declared.commit.NewCommit.{NewCommit}
use Rattle.graph_writer.specs.declared.filters.NewFilters.{NewFilters}
use Rattle.graph_writer.specs.declared.levels_below.LevelsBelow.{LevelsBelow}
use Rattle.graph_writer.specs.declared.new_layer.NewLayer.{NewLayer}
use Rattle.graph_writer.proofs.levels.AcyclicSteps.{acyclic}
use Rattle.graph_writer.proofs.levels.FitSteps.{fit-together}
use Rattle.graph_writer.proofs.layers.ReasonSteps.{refused-new, refused-dates, refused-levels, refused-layers}
use Rattle.graph_writer.proofs.layers.ReasonSteps.{refused-edges}
use Rattle.graph_writer.proofs.plans.ViewSteps.{few-words, many-words, view-fits, view-written}
use Rattle.graph_writer.proofs.filter_lists.FilteredSteps.{kept-fit, mixed}
use Rattle.graph_writer.proofs.write.write_handed.Goals as goal

-- a list that may be missing
match-items : {X : Type 0} (items : X → List ℕ) (o : Option X) (F : Type 0) (P : List ℕ → Type 0) → IfSome o (λ x. P (items x))
    → IfNone o F → MatchOption (option_map items o) F P
match-items items None F P some none = none
match-items items (Some x) F P some none = some

offsets-fit : (o : Option (List ℕ)) (F T : Type 0) (times : List ℕ) (own : List Level) (n : ℕ) → n ≡ length own
    → MatchOption o F (λ offsets. T × AreOffsetsOf times own offsets) → IfSome o (AreOffsets n)
offsets-fit None F T times own n same h = tt
offsets-fit (Some offsets) F T times own n same h = record { count = h.1.as_many ∙ sym same; fit = h.1.fit }

pub returns-in_err-new-clause-refusal : goal.returns-in_err-new-clause-refusal
returns-in_err-new-clause-refusal g c =
    let handed = err_from_is_err_and c.from_residual.result c.from_residual.ensures.1 in
    rw (handed.1, handed.2)
    (refused-new (layers_of_below c.args.below) c.args.commits.now _ c.in_err-new.ensures.refusal)

-- levels leave no cycle
no-cycle-left : (layers : List Layer) (commits : List NewCommit) (new : NewLayer) → IsNewLayer layers commits new
    → new_layer_refusal layers commits ≡ None → (known : LevelsBelow) → AreLevelsBelow layers known → (read : List Level)
    → read ≡ known.levels.items
    → ((h : List Node) → HasOnTop h (length read) new.parents → AreClosedBelow h (length read) → HasNoCycleOnTop h (length read))
    → HaveNoCycle commits
no-cycle-left layers commits new is_new none known below read same h =
    acyclic layers commits new is_new none
    (subst
    (λ (n : ℕ). (h : List Node) → HasOnTop h n new.parents → AreClosedBelow h n → HasNoCycleOnTop h n)
    (ap length same ∙ below.as_many) h)

pub returns-in_err-known-clause-refusal : goal.returns-in_err-known-clause-refusal
returns-in_err-known-clause-refusal g c =
    let handed = err_from_is_err_and c.from_residual-in_err-known.result c.from_residual-in_err-known.ensures.1 in
    rw (handed.1, handed.2)
    (refused-dates (layers_of_below c.args.below) c.args.commits.now c.in_ok-new.ensures.accepted _
    c.in_err-known.ensures.refusal)

pub own_levels-requires-clause-fits : goal.own_levels-requires-clause-fits
own_levels-requires-clause-fits g c =
    subst (λ (ls : List Level). FitTogether ls c.in_ok-new.new.parents c.deref-2.result.now) (sym c.deref.ensures.value)
    (subst (λ (ts : List ℕ). FitTogether c.in_ok-known.known.levels.items c.in_ok-new.new.parents ts)
    (sym c.deref-2.ensures.value)
    (fit-together (layers_of_below c.args.below) c.args.commits.now c.in_ok-new.new c.in_ok-new.ensures.layer
    c.in_ok-new.ensures.accepted c.in_ok-known.known c.in_ok-known.ensures.levels c.in_ok-new.times.items
    c.in_ok-new.ensures.times))

-- the filters in the order of the layer
in-order : (filters sorted : Option NewFilters) (lent order : List ℕ) → lent ≡ order → MaybeInOrder lent filters sorted
    → MaybeInOrder order filters sorted
in-order filters sorted lent order same is = subst (λ (xs : List ℕ). MaybeInOrder xs filters sorted) same is

pub filters_in_order-requires : goal.filters_in_order-requires
filters_in_order-requires g c =
    subst (λ (order : List ℕ). IfSome (filters_handed c.args.filters) (λ f. IsMixed (filter_count f) order))
    (sym c.deref-6.ensures.value)
    (mixed (filters_handed c.args.filters) (layers_of_below c.args.below) c.args.commits.now c.in_ok-new.new
    c.in_ok-new.ensures.layer c.requires)

pub returns-in_err-own-clause-refusal : goal.returns-in_err-own-clause-refusal
returns-in_err-own-clause-refusal g c =
    let handed = err_from_is_err_and c.from_residual-in_err-own.result c.from_residual-in_err-own.ensures.1 in
    let base = ap length c.deref.ensures.value ∙ c.in_ok-known.ensures.levels.as_many in
    rw (handed.1, handed.2)
    (refused-levels (layers_of_below c.args.below) c.args.commits.now c.in_ok-new.ensures.accepted
    c.in_ok-known.ensures.levels.accepted c.in_ok-new.new c.in_ok-new.ensures.layer _
    (subst (λ (n : ℕ). MayHaveNoLevels n c.in_ok-new.new c.in_err-own.field-0.0) base c.in_err-own.ensures.refusal))

pub returns-then-len-gt-MOST_BELOW-clause-refusal : goal.returns-then-len-gt-MOST_BELOW-clause-refusal
returns-then-len-gt-MOST_BELOW-clause-refusal g c =
    let layers : List Layer = layers_of_below c.args.below in
    refused-layers layers c.args.commits.now c.in_ok-new.ensures.accepted c.in_ok-known.ensures.levels.accepted
    (no-cycle-left layers c.args.commits.now c.in_ok-new.new c.in_ok-new.ensures.layer c.in_ok-new.ensures.accepted
    c.in_ok-known.known c.in_ok-known.ensures.levels c.deref.result.now c.deref.ensures.value c.in_ok-own.ensures.acyclic)
    (omega (
      arith,
      c.if-len-gt-MOST_BELOW.true,
      c.len.ensures,
      ap length c.in_ok-checksums_below.ensures,
      length-map layers (λ (l : Layer). l.checksum),
    ))

-- so few layers are below
few-below : (layers : List Layer) (bases : List (List ℕ)) (n : ℕ) → bases ≡ map (λ (l : Layer). l.checksum) layers
    → n ≡ length bases → n ≤ 255 → length layers ≤ 255
few-below layers bases n same counted few =
    omega (arith, few, counted, ap length same, length-map layers (λ (l : Layer). l.checksum))

pub returns-then-not-has_few_extra_words-clause-refusal : goal.returns-then-not-has_few_extra_words-clause-refusal
returns-then-not-has_few_extra_words-clause-refusal g c =
    let layers : List Layer = layers_of_below c.args.below in
    let commits : List NewCommit = c.args.commits.now in
    let few : length layers ≤ 255 =
    few-below layers c.in_ok-checksums_below.field-0.items c.len.result c.in_ok-checksums_below.ensures
    (c.len.ensures ∙ c.in_ok-checksums_below.field-0.ok.0) c.if-len-gt-MOST_BELOW.false in
    refused-edges layers commits c.in_ok-new.ensures.accepted c.in_ok-known.ensures.levels.accepted
    (no-cycle-left layers commits c.in_ok-new.new c.in_ok-new.ensures.layer c.in_ok-new.ensures.accepted
    c.in_ok-known.known c.in_ok-known.ensures.levels c.deref.result.now c.deref.ensures.value c.in_ok-own.ensures.acyclic)
    few
    (many-words _ c.has_few_extra_words.result layers c.in_ok-own.own.items c.has_few_extra_words.ensures
    c.if-not-has_few_extra_words.true c.deref-3.ensures.value c.in_ok-new.ensures.layer)

pub build_view-requires : goal.build_view-requires
build_view-requires g c =
    let layers : List Layer = layers_of_below c.args.below in
    let own : List Level = c.in_ok-own.own.items in
    let match_offsets =
    match-items (λ v. v.items) c.in_ok-offsets_of.field-0 (c.in_ok-known.known.have_dates ≡ false)
    (λ offsets. (c.in_ok-known.known.have_dates ≡ true) × AreOffsetsOf c.deref-4.result.now c.deref-5.result.now offsets)
    c.in_ok-offsets_of.ensures.some c.in_ok-offsets_of.ensures.none in
    let size : length c.in_ok-new.new.order.items ≡ length c.deref-5.result.now =
    c.in_ok-new.ensures.layer.as_many
    ∙ sym c.in_ok-new.ensures.layer.listed
    ∙ sym c.in_ok-own.ensures.len
    ∙ sym (ap length c.deref-5.ensures.value) in
    view-fits _ layers own (c.has_few_extra_words.ensures.0 c.if-not-has_few_extra_words.false) c.deref-3.ensures.value
    c.in_ok-new.ensures.layer c.in_ok-new.ensures.accepted c.in_ok-known.known c.in_ok-known.ensures.levels
    c.kind_to_write.ensures c.in_ok-checksums_below.ensures
    (few-below layers c.in_ok-checksums_below.field-0.items c.len.result c.in_ok-checksums_below.ensures
    (c.len.ensures ∙ c.in_ok-checksums_below.field-0.ok.0) c.if-len-gt-MOST_BELOW.false)
    c.in_ok-own.ensures.len (λ p lt. (c.in_ok-own.ensures.bounds p lt).0)
    (offsets-fit (option_map (λ v. v.items) c.in_ok-offsets_of.field-0) _ _ c.deref-4.result.now c.deref-5.result.now
    (length c.in_ok-new.new.order.items) size match_offsets)
    (kept-fit (filters_handed c.args.filters) c.in_ok-filters_in_order.field-0 c.in_ok-new.new.order.items
    (in-order (filters_handed c.args.filters) c.in_ok-filters_in_order.field-0 c.deref-6.result.now
    c.in_ok-new.new.order.items c.deref-6.ensures.value c.in_ok-filters_in_order.ensures))

pub returns-clause-written : goal.returns-clause-written
returns-clause-written g c =
    let layers : List Layer = layers_of_below c.args.below in
    let commits : List NewCommit = c.args.commits.now in
    let new = c.in_ok-new.new in
    let known = c.in_ok-known.known in
    let own : List Level = c.in_ok-own.own.items in
    let times : List ℕ = c.in_ok-new.times.items in
    let match_offsets =
    match-items (λ v. v.items) c.in_ok-offsets_of.field-0 (known.have_dates ≡ false)
    (λ offsets. (known.have_dates ≡ true) × AreOffsetsOf c.deref-4.result.now c.deref-5.result.now offsets)
    c.in_ok-offsets_of.ensures.some c.in_ok-offsets_of.ensures.none in
    let Has : List ℕ → List Level → Type 0 =
    λ ts ls. MatchOption (option_map (λ v. v.items) c.in_ok-offsets_of.field-0) (known.have_dates ≡ false)
    (λ offsets. (known.have_dates ≡ true) × AreOffsetsOf ts ls offsets) in
    let has : Has times own =
    subst (λ (ts : List ℕ). Has ts own) c.deref-4.ensures.value
    (subst (λ (ls : List Level). Has c.deref-4.result.now ls) c.deref-5.ensures.value match_offsets) in
    let local =
    subst (λ (ls : List Level). (history : List Node) → HasOnTop history (length ls) new.parents
    → HasLevelGenerations history ls own → AreLocal history) c.deref.ensures.value c.in_ok-own.ensures.generations in
    let right =
    subst (λ (ls : List Level). (history : List Node) (ts ds : List ℕ) → HasOnTop history (length ls) new.parents
    → HasLevelDates history ts ds ls own times → AreRight history ts ds) c.deref.ensures.value
    (subst (λ (all : List ℕ). (history : List Node) (ts ds : List ℕ)
    → HasOnTop history (length c.deref.result.now) new.parents
    → HasLevelDates history ts ds c.deref.result.now own all → AreRight history ts ds) c.deref-2.ensures.value
    c.in_ok-own.ensures.dates) in
    view-written _ c.in_ok-build_view.field-0.items c.in_ok-build_view.ensures.layout c.in_ok-build_view.ensures.layer layers
    c.in_ok-new.ensures.layer c.in_ok-new.ensures.accepted known
    c.in_ok-known.ensures.levels times
    c.in_ok-new.ensures.times
    own c.deref-3.ensures.value c.in_ok-own.ensures.len local right c.kind_to_write.ensures c.in_ok-checksums_below.ensures
    (few-below layers c.in_ok-checksums_below.field-0.items c.len.result c.in_ok-checksums_below.ensures
    (c.len.ensures ∙ c.in_ok-checksums_below.field-0.ok.0) c.if-len-gt-MOST_BELOW.false)
    has (filters_handed c.args.filters)
    (in-order (filters_handed c.args.filters) c.in_ok-filters_in_order.field-0 c.deref-6.result.now
    c.in_ok-new.new.order.items c.deref-6.ensures.value c.in_ok-filters_in_order.ensures)

pub returns-clause-accepted : goal.returns-clause-accepted
returns-clause-accepted g c =
    let layers : List Layer = layers_of_below c.args.below in
    let commits : List NewCommit = c.args.commits.now in
    record {
      new = c.in_ok-new.ensures.accepted;
      dates = c.in_ok-known.ensures.levels.accepted;
      acyclic =
          no-cycle-left layers commits c.in_ok-new.new c.in_ok-new.ensures.layer c.in_ok-new.ensures.accepted
          c.in_ok-known.known c.in_ok-known.ensures.levels c.deref.result.now c.deref.ensures.value
          c.in_ok-own.ensures.acyclic;
      layers_below =
          few-below layers c.in_ok-checksums_below.field-0.items c.len.result c.in_ok-checksums_below.ensures
          (c.len.ensures ∙ c.in_ok-checksums_below.field-0.ok.0) c.if-len-gt-MOST_BELOW.false;
      edges =
          few-words _ layers c.in_ok-own.own.items (c.has_few_extra_words.ensures.0 c.if-not-has_few_extra_words.false)
          c.deref-3.ensures.value c.in_ok-new.ensures.layer;
    }
