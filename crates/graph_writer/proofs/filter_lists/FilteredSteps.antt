-- The layer that was written has the filters that were handed in.
use Rattle.std.proofs.Common.{◌≡◌, ℕ, ◌<◌, List, length, Option, Some, None, option_map, IsSomeAnd, slice_get}
use Rattle.std.proofs.Common.{All, refl, sym, ap, ◌∙◌, subst, arith}
use Rattle.std.specs.Prelude.{IfSome}
use Rattle.std.proofs.lemmas.Option.{slice_get_within, slice_get-get_or, same_Some}
use Rattle.graph_format.specs.Layer.{Layer}
use Rattle.changed_paths.specs.Filters.{filter_of, filters_refusal}
use Rattle.graph_chunks.specs.GraphFilters.{filter_in}
use Rattle.graph_format.specs.OptionalChunks.{index_in, data_in}
use Rattle.graph_chunks.specs.StoredFilters.{layer_filters_refusal}
use Rattle.graph_encoder.specs.Plan.{AreFilters}
use Rattle.graph_encoder.specs.Said.{SaysPlan}
use Rattle.graph_encoder.specs.StoredNumbers.{stored_filter_numbers, numbers_at_head}
use Rattle.graph_encoder.specs.Written.{filter_index, filter_data}
use Rattle.graph_encoder.specs.declared.filters.FilterNumbers.{FilterNumbers}
use Rattle.graph_encoder.specs.declared.plan.FilePlan.{FilePlan}
use Rattle.graph_levels.specs.OnTop.{level_at}
use Rattle.graph_levels.specs.ParentLists.{parent_list}
use Rattle.graph_levels.specs.declared.level.Level.{Level}
use Rattle.graph_writer.specs.FiltersInOrder.{AreFiltersInOrder, MaybeInOrder}
use Rattle.graph_writer.specs.NewFilters.{filter_count, AreRightNumbers, HasNewFilters, HasFiltersOf}
use Rattle.graph_writer.specs.NewLayers.{IsNewLayer}
use Rattle.graph_writer.specs.PlannedCommits.{IsPlanOf}
use Rattle.graph_writer.specs.SortedPlaces.{IsMixed}
use Rattle.graph_writer.specs.declared.commit.NewCommit.{NewCommit}
use Rattle.graph_writer.specs.declared.filters.NewFilters.{NewFilters}
use Rattle.graph_writer.specs.declared.new_layer.NewLayer.{NewLayer}
use Rattle.graph_writer.proofs.filter_lists.FilterSteps.{read-filter, read-numbers, accepted}
use Rattle.graph_writer.proofs.layers.WrittenSteps.{told, as-many}

-- a filter of a layer, the numbers before them, and why its filters are refused, where both chunks are there
filter-with : (layer : Layer) (index body : List ℕ) (p : ℕ) → index_in layer ≡ Some index → data_in layer ≡ Some body
    → filter_in layer p ≡ filter_of index body p
unfolding filter_in
filter-with layer index body p has_index has_body = rw (has_index, has_body) refl

numbers-with : (layer : Layer) (index body : List ℕ) → index_in layer ≡ Some index → data_in layer ≡ Some body
    → stored_filter_numbers layer ≡ numbers_at_head body
unfolding stored_filter_numbers
numbers-with layer index body has_index has_body = rw (has_index, has_body) refl

refusal-with : (layer : Layer) (index body : List ℕ) → index_in layer ≡ Some index → data_in layer ≡ Some body
    → layer_filters_refusal layer ≡ filters_refusal (length layer.ids) index body
unfolding layer_filters_refusal
refusal-with layer index body has_index has_body = rw (has_index, has_body) refl

module _ (layers : List Layer) (commits : List NewCommit) (new : NewLayer) (is_new : IsNewLayer layers commits new)
    (own : List Level) (plan : FilePlan) (counted : length plan.commits.items ≡ length new.order.items)
    (planned : (p i : ℕ) (commit : NewCommit) → slice_get new.order.items p ≡ Some i → slice_get commits i ≡ Some commit
    → IsSomeAnd (slice_get plan.commits.items p) (IsPlanOf commit (parent_list new.parents p) (level_at own p).generation))
    (layer : Layer) (says : SaysPlan plan layer) where
  has-filters : (filters sorted : NewFilters) → AreFiltersInOrder new.order.items filters sorted
      → plan.filters ≡ Some sorted.parts → HasNewFilters commits filters layer
  has-filters filters sorted is has =
      let index : index_in layer ≡ Some (filter_index sorted.parts) = says.index ∙ ap (option_map filter_index) has in
      let body : data_in layer ≡ Some (filter_data sorted.parts) = says.filters ∙ ap (option_map filter_data) has in
      record {
        numbers =
            numbers-with layer (filter_index sorted.parts) (filter_data sorted.parts) index body
            ∙ read-numbers sorted
            ∙ ap (λ (n : FilterNumbers). Some n) is.numbers;
        each = λ i commit here.
            let place = is_new.all i (slice_get_within commits i commit here) in
            let p = place.0 in
            let at : slice_get new.order.items p ≡ Some i =
            slice_get-get_or new.order.items p i place.1 ∙ ap (λ (n : ℕ). Some n) place.2 in
            let found =
            told layers commits new is_new own plan counted planned layer says p (omega (arith, place.1, is_new.as_many)) in
            let said = found.3 in
            let number : found.0 ≡ i = same_Some found.0 i (sym said.ordered ∙ at) in
            let same : found.1 ≡ commit =
            same_Some found.1 commit (sym said.handed ∙ ap (slice_get commits) number ∙ here) in (
              p,
              said.id ∙ ap (λ (c : NewCommit). Some c.id) same,
              filter-with layer (filter_index sorted.parts) (filter_data sorted.parts) p index body
                  ∙ read-filter sorted p (omega (arith, place.1, is.as_many))
                  ∙ is.each p i at,
            );
        accepted = λ right.
            refusal-with layer (filter_index sorted.parts) (filter_data sorted.parts) index body
            ∙ accepted sorted (length layer.ids)
            (as-many layers commits new is_new own plan counted planned layer says
            ∙ sym (is.as_many ∙ is_new.as_many))
            (subst AreRightNumbers (sym is.numbers) right);
      }

  pub filtered : (filters sorted : Option NewFilters) → MaybeInOrder new.order.items filters sorted
      → plan.filters ≡ option_map (λ f. f.parts) sorted → HasFiltersOf commits filters layer
  filtered None None is has = (says.index ∙ ap (option_map filter_index) has, says.filters ∙ ap (option_map filter_data) has)
  filtered None (Some sorted) is has = absurd is
  filtered (Some filters) None is has = absurd is
  filtered (Some filters) (Some sorted) is has = has-filters filters sorted is has

-- each number of the commits, where each has a filter
pub mixed : (filters : Option NewFilters) (layers : List Layer) (commits : List NewCommit) (new : NewLayer)
    → IsNewLayer layers commits new → IfSome filters (λ f. filter_count f ≡ length commits)
    → IfSome filters (λ f. IsMixed (filter_count f) new.order.items)
mixed None layers commits new is_new counted = tt
mixed (Some filters) layers commits new is_new counted = record {
  as_many = is_new.as_many ∙ sym counted;
  each = subst (λ (n : ℕ). All (λ i. i < n) new.order.items) (sym counted) is_new.each;
  all = λ i lt. is_new.all i (omega (arith, lt, counted));
}

-- a file has room for filters that are handed in
pub kept-fit : (filters sorted : Option NewFilters) (order : List ℕ) → MaybeInOrder order filters sorted
    → IfSome (option_map (λ f. f.parts) sorted) (AreFilters (length order))
kept-fit None None order is = tt
kept-fit None (Some sorted) order is = absurd is
kept-fit (Some filters) None order is = absurd is
kept-fit (Some filters) (Some sorted) order is = record { count = is.as_many; room = sorted.few }
