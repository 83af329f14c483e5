-- What is known of sorted commits and of their parents makes a new layer.
use Rattle.std.proofs.Common.{◌≡◌, ℕ, suc, ◌+◌, ◌<◌, List, [], ◌∷◌, ◌++◌, length, get_or, map, slice_get, Some, option_map}
use Rattle.std.proofs.Common.{All, refl, sym, ap, ◌∙◌, subst, arith}
use Rattle.std.proofs.lemmas.List.{length-map}
use Rattle.std.proofs.lemmas.List.Elements.{All-map}
use Rattle.std.proofs.lemmas.Option.{slice_get_within, slice_get-get_or, get_or_from_slice_get, slice_get-map}
use Rattle.gix_commitgraph.specs.Graph.{graph_ids, total}
use Rattle.graph_format.specs.Layer.{Layer}
use Rattle.graph_format.specs.Order.{AreAscending}
use Rattle.graph_levels.specs.ParentLists.{commit_count, parent_list}
use Rattle.graph_writer.specs.NewCommits.{new_ids, AreFirst}
use Rattle.graph_writer.specs.NewLayers.{IsNewLayer, ids_in_order}
use Rattle.graph_writer.specs.SortedPlaces.{ArePlaces, IsMixed, IsOrder, sorted_ids}
use Rattle.graph_writer.specs.declared.commit.NewCommit.{NewCommit}
use Rattle.graph_writer.specs.declared.new_layer.NewLayer.{NewLayer}
use Rattle.graph_writer.specs.declared.order.IdPlace.{IdPlace}

abbrev pub numbers_in : List IdPlace → List ℕ
numbers_in places = map (λ place. place.commit) places

-- the ids in the order of the numbers are those of the places
pub ids-in_order : (commits : List NewCommit) (places : List IdPlace)
    → ((p : ℕ) (place : IdPlace) → slice_get places p ≡ Some place → slice_get (new_ids commits) place.commit ≡ Some place.id)
    → ids_in_order commits (numbers_in places) ≡ sorted_ids places
ids-in_order commits [] each = refl
ids-in_order commits (place ∷ places) each =
    let first : get_or (new_ids commits) place.commit [] ≡ place.id =
    get_or_from_slice_get (new_ids commits) place.commit place.id [] (each 0 place refl) in
    let rest : ids_in_order commits (numbers_in places) ≡ sorted_ids places =
    ids-in_order commits places (λ p other at. each (suc p) other at) in
    ap (λ (id : List ℕ). id ∷ ids_in_order commits (numbers_in places)) first
    ∙ ap (λ (ids : List (List ℕ)). place.id ∷ ids) rest

module _ (commits : List NewCommit) (places : List IdPlace) (are : ArePlaces commits places) where
  number-at : (p : ℕ) (place : IdPlace) → slice_get places p ≡ Some place → slice_get (numbers_in places) p ≡ Some place.commit
  number-at p place at =
      slice_get-map (λ (x : IdPlace). x.commit) places p ∙ ap (option_map (λ (x : IdPlace). x.commit)) at

  pub same-ids : ids_in_order commits (numbers_in places) ≡ sorted_ids places
  same-ids = ids-in_order commits places (λ p place at. (are.each p place at).1)

  -- the numbers of the places are in the order of ids
  pub order-of_places : (order : List ℕ) → order ≡ numbers_in places → AreAscending (sorted_ids places) → IsOrder commits order
  order-of_places order is ascending = record {
    mixed =
        subst (IsMixed (length commits)) (sym is)
        (record {
          as_many = length-map places (λ (x : IdPlace). x.commit) ∙ are.as_many;
          each =
              All-map (λ i. i < length commits) (λ (x : IdPlace). x.commit) places
              (λ k d lt. (are.each k (get_or places k d) (slice_get-get_or places k d lt)).0);
          all = λ i lt.
              let found = are.all i lt in
              let at = number-at found.0 found.1.0 found.1.1 in (
                found.0,
                slice_get_within (numbers_in places) found.0 found.1.0.commit at,
                get_or_from_slice_get (numbers_in places) found.0 found.1.0.commit i at ∙ found.1.2,
              );
        });
    ascending = subst AreAscending (sym same-ids ∙ ap (ids_in_order commits) (sym is)) ascending;
  }

-- commits in the order of their ids, with the parents of each
pub new-layer : (commits : List NewCommit) (layers : List Layer) (new : NewLayer) → IsOrder commits new.order.items
    → commit_count new.parents ≡ length new.order.items
    → ((p : ℕ) → p < commit_count new.parents → All (λ q. q < total layers + length commits) (parent_list new.parents p))
    → ((p i : ℕ) (commit : NewCommit) → slice_get new.order.items p ≡ Some i → slice_get commits i ≡ Some commit
    → AreFirst (graph_ids layers ++ ids_in_order commits new.order.items) (parent_list new.parents p) commit.parents.items)
    → IsNewLayer layers commits new
new-layer commits layers new order listed within parents = record {
  as_many = order.mixed.as_many;
  each = order.mixed.each;
  all = order.mixed.all;
  ascending = order.ascending;
  listed = listed ∙ order.mixed.as_many;
  within = λ p lt. within p (omega (arith, lt, listed, order.mixed.as_many));
  parents = parents;
}
