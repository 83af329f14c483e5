-- The file of what was planned of a new layer says what was handed in.
use Rattle.std.proofs.Common.{◌≡◌, ℕ, ◌<◌, List, [], ◌∷◌, ◌++◌, map, length, IsSomeAnd, slice_get}
use Rattle.std.proofs.Common.{get_or, Option, Some, None, option_map, refl, sym, ap, ◌∙◌, subst, arith}
use Rattle.std.proofs.lemmas.List.{length-map, same_lists}
use Rattle.std.proofs.lemmas.Option.{slice_get_within, slice_get-map, slice_get-get_or, get_or_from_slice_get, same_Some}
use Rattle.graph_format.specs.Format.{Record}
use Rattle.graph_format.specs.Layer.{Layer}
use Rattle.graph_format.specs.Parents.{parents_of}
use Rattle.graph_format.specs.Order.{AreAscending}
use Rattle.graph_format.specs.declared.Position.{Position}
use Rattle.gix_commitgraph.specs.Graph.{graph_ids}
use Rattle.gix_commitgraph.proofs.lookup.ElementLemmas.{some-place, all-at}
use Rattle.graph_encoder.specs.Said.{SaysPlan, planned_parents}
use Rattle.graph_encoder.specs.declared.plan.FilePlan.{FilePlan}
use Rattle.graph_encoder.specs.declared.plan.PlanCommit.{PlanCommit}
use Rattle.graph_levels.specs.OnTop.{level_at}
use Rattle.graph_levels.specs.ParentLists.{parent_list}
use Rattle.graph_levels.specs.declared.level.Level.{Level}
use Rattle.graph_writer.specs.NewCommits.{new_ids, HoldIds}
use Rattle.graph_writer.specs.NewLayers.{IsNewLayer, ids_in_order}
use Rattle.graph_writer.specs.PlannedCommits.{IsPlanOf}
use Rattle.graph_writer.specs.WrittenLayers.{SaysNewCommit, HasNewCommits}
use Rattle.graph_writer.specs.declared.commit.NewCommit.{NewCommit}
use Rattle.graph_writer.specs.declared.new_layer.NewLayer.{NewLayer}
use Rattle.graph_writer.proofs.positions.FirstSteps.{first-hold}
use Rattle.graph_writer.proofs.layers.TopSteps.{ids-top}

-- what is there, where something is said of it
pub some-and : {X : Type 0} (o : Option X) (P : X → Type 0) → IsSomeAnd o P → (x : X) × (o ≡ Some x) × P x
some-and None P h = absurd h
some-and (Some x) P h = (x, refl, h)

pub plain-positions : (positions : List ℕ) → map (λ (pos : Position). pos.0) (planned_parents positions).positions ≡ positions
plain-positions [] = refl
plain-positions (p ∷ positions) = ap (λ (ps : List ℕ). p ∷ ps) (plain-positions positions)

-- Commit i stands at place p of the layer, and this is its record there.
pub record IsTold (commits : List NewCommit) (new : NewLayer) (own : List Level) (layer : Layer) (p i : ℕ)
    (commit : NewCommit) (r : Record) : Type 0 where
  pub ordered : slice_get new.order.items p ≡ Some i
  pub handed : slice_get commits i ≡ Some commit
  pub id : slice_get layer.ids p ≡ Some commit.id
  pub recorded : slice_get layer.records p ≡ Some r
  pub tree : r.tree ≡ commit.tree
  pub time : r.time ≡ commit.time
  pub parents : parents_of r layer.edges ≡ planned_parents (parent_list new.parents p)
  pub generation : r.generation ≡ (level_at own p).generation

module _ (layers : List Layer) (commits : List NewCommit) (new : NewLayer) (is_new : IsNewLayer layers commits new)
    (own : List Level) (plan : FilePlan) (counted : length plan.commits.items ≡ length new.order.items)
    (planned : (p i : ℕ) (commit : NewCommit) → slice_get new.order.items p ≡ Some i → slice_get commits i ≡ Some commit
    → IsSomeAnd (slice_get plan.commits.items p) (IsPlanOf commit (parent_list new.parents p) (level_at own p).generation)) where
  -- what is planned of the commit at a place
  pub planned-at : (p : ℕ) → p < length commits → (i : ℕ) × (commit : NewCommit) × (slice_get new.order.items p ≡ Some i)
      × (slice_get commits i ≡ Some commit)
      × (c : PlanCommit) × (slice_get plan.commits.items p ≡ Some c)
      × IsPlanOf commit (parent_list new.parents p) (level_at own p).generation c
  planned-at p within =
      let at = some-place new.order.items p (omega (arith, is_new.as_many)) in
      let here = some-place commits at.0 (all-at (λ i. i < length commits) new.order.items p at.0 is_new.each at.1) in
      let found = some-and _ _ (planned p at.0 here.0 at.1 here.1) in
      (at.0, here.0, at.1, here.1, found.0, found.1, found.2)

  module _ (layer : Layer) (says : SaysPlan plan layer) where
    pub told : (p : ℕ) → p < length commits
        → (i : ℕ) × (commit : NewCommit) × (r : Record) × IsTold commits new own layer p i commit r
    told p within =
        let at = planned-at p within in
        let c = at.4 in
        let is = at.6 in
        let found = some-and _ _ (says.commits p c at.5) in
        let r = found.0 in
        let said = found.2 in (
          at.0,
          at.1,
          r,
          record {
            ordered = at.2;
            handed = at.3;
            id =
                ap (λ (ids : List (List ℕ)). slice_get ids p) says.ids
                ∙ slice_get-map (λ (x : PlanCommit). x.id) plan.commits.items p
                ∙ ap (option_map (λ (x : PlanCommit). x.id)) at.5
                ∙ ap (λ (id : List ℕ). Some id) is.id;
            recorded = found.1;
            tree = said.tree ∙ is.tree;
            time = said.time ∙ is.time;
            parents = said.parents ∙ ap planned_parents is.parents;
            generation = said.generation ∙ is.generation;
          },
        )

    pub as-many : length layer.ids ≡ length commits
    as-many =
        ap length says.ids ∙ length-map plan.commits.items (λ (x : PlanCommit). x.id) ∙ counted ∙ is_new.as_many

    pub as-many-records : length layer.records ≡ length commits
    as-many-records = says.count ∙ counted ∙ is_new.as_many

    -- the ids are those of the commits, in their order
    pub own-ids : layer.ids ≡ ids_in_order commits new.order.items
    own-ids =
        same_lists layer.ids (ids_in_order commits new.order.items)
        (as-many ∙ sym (length-map new.order.items (λ (i : ℕ). get_or (new_ids commits) i []) ∙ is_new.as_many))
        (λ p d within.
        let found = told p (omega (arith, as-many)) in
        let is = found.3 in
        let id : slice_get (new_ids commits) found.0 ≡ Some found.1.id =
        slice_get-map (λ (x : NewCommit). x.id) commits found.0 ∙ ap (option_map (λ (x : NewCommit). x.id)) is.handed in
        get_or_from_slice_get layer.ids p found.1.id d is.id
        ∙ sym
        (get_or_from_slice_get (ids_in_order commits new.order.items) p found.1.id d
        (slice_get-map (λ (i : ℕ). get_or (new_ids commits) i []) new.order.items p
        ∙ ap (option_map (λ (i : ℕ). get_or (new_ids commits) i [])) is.ordered
        ∙ ap (λ (id : List ℕ). Some id) (get_or_from_slice_get (new_ids commits) found.0 found.1.id [] id))))

    pub all-ids : graph_ids (layers ++ layer ∷ []) ≡ graph_ids layers ++ ids_in_order commits new.order.items
    all-ids = ids-top layers layer ∙ ap (λ (ids : List (List ℕ)). graph_ids layers ++ ids) own-ids

    -- what the record of each commit says
    said : (i : ℕ) (commit : NewCommit) → slice_get commits i ≡ Some commit → (p : ℕ) × (slice_get layer.ids p ≡ Some commit.id)
        × IsSomeAnd (slice_get layer.records p) (SaysNewCommit (graph_ids (layers ++ layer ∷ [])) layer commit)
    said i commit here =
        let place = is_new.all i (slice_get_within commits i commit here) in
        let p = place.0 in
        let at : slice_get new.order.items p ≡ Some i =
        slice_get-get_or new.order.items p i place.1 ∙ ap (λ (n : ℕ). Some n) place.2 in
        let found = told p (omega (arith, place.1, is_new.as_many)) in
        let is = found.3 in
        let r = found.2 in
        let number : found.0 ≡ i = same_Some found.0 i (sym is.ordered ∙ at) in
        let same : found.1 ≡ commit =
        same_Some found.1 commit (sym is.handed ∙ ap (slice_get commits) number ∙ here) in
        let positions : map (λ (pos : Position). pos.0) (parents_of r layer.edges).positions ≡ parent_list new.parents p =
        ap (λ d. map (λ (pos : Position). pos.0) d.positions) is.parents ∙ plain-positions (parent_list new.parents p) in
        let holds : HoldIds (graph_ids layers ++ ids_in_order commits new.order.items) (parent_list new.parents p)
        commit.parents.items = first-hold _ _ _ (is_new.parents p i commit at here) in
        let says_it : SaysNewCommit (graph_ids (layers ++ layer ∷ [])) layer commit r = record {
          tree = is.tree ∙ ap (λ (c : NewCommit). c.tree) same;
          time = is.time ∙ ap (λ (c : NewCommit). c.time) same;
          decoded = ap (λ d. d.fault) is.parents;
          parents =
              subst (λ (all : List (List ℕ)). HoldIds all (map (λ (pos : Position). pos.0) (parents_of r layer.edges).positions)
              commit.parents.items) (sym all-ids)
              (subst (λ (ps : List ℕ). HoldIds (graph_ids layers ++ ids_in_order commits new.order.items) ps commit.parents.items)
              (sym positions) holds);
        } in (
          p,
          is.id ∙ ap (λ (c : NewCommit). Some c.id) same,
          subst (λ (o : Option Record). IsSomeAnd o (SaysNewCommit (graph_ids (layers ++ layer ∷ [])) layer commit))
              (sym is.recorded) says_it,
        )

    pub has-commits : HasNewCommits (graph_ids (layers ++ layer ∷ [])) commits layer
    has-commits = record {
      as_many = as-many;
      ascending = subst AreAscending (sym own-ids) is_new.ascending;
      each = said;
    }
