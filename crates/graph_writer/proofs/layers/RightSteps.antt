-- A graph with a new layer on top is right, as the one below was.
use Rattle.std.proofs.Common.{◌≡◌, ℕ, ◌+◌, ◌<◌, ◌≤◌, inl, inr, List, [], ◌∷◌, ◌++◌, map, length, take, All, slice_get}
use Rattle.std.proofs.Common.{IsSomeAnd, get_or, Option, Some, None, option_map, sym, ap, ◌∙◌, subst, arith}
use Rattle.std.specs.Option.{option_map_or}
use Rattle.std.proofs.Math.Seq.{take-append_seam}
use Rattle.std.proofs.lemmas.List.{length-append, length_push, take-append-le}
use Rattle.std.proofs.lemmas.List.Elements.{All-push, All-map}
use Rattle.std.proofs.lemmas.List.Sums.{sum_by-append}
use Rattle.std.proofs.lemmas.Option.{slice_get_within, slice_get-map, slice_get-get_or, same_Some}
use Rattle.graph_walks.specs.Generations.{AreLocal}
use Rattle.graph_walks.specs.Walks.{CountWalks}
use Rattle.graph_walks.specs.History.{Node, parents_at}
use Rattle.graph_walks.proofs.WalkLemmas.{local_from_counts, counts_from_local}
use Rattle.graph_format.specs.Format.{Record}
use Rattle.graph_format.specs.Layer.{Layer}
use Rattle.graph_format.specs.NameRule.{KeepsNameRule}
use Rattle.graph_format.specs.Parents.{parents_of}
use Rattle.graph_format.specs.RightLayer.{IsRightLayer, IsNull}
use Rattle.graph_format.specs.StoredHistory.{node_of, layer_history, history_of}
use Rattle.graph_format.specs.declared.Position.{Position}
use Rattle.graph_format.proofs.LayerHistoryLemmas.{length-layer_history}
use Rattle.gix_commitgraph.specs.Graph.{stop, total}
use Rattle.gix_commitgraph.specs.Sound.{Sound, AreParentsKnown}
use Rattle.gix_commitgraph.proofs.history.HistoryLemmas.{length-history}
use Rattle.gix_commitgraph.proofs.history.KnownParentLemmas.{known-within}
use Rattle.gix_commitgraph.proofs.layers.LayerListLemmas.{start-all}
use Rattle.gix_commitgraph.proofs.lookup.ElementLemmas.{pushed}
use Rattle.gix_hash_core.specs.Digest.{digest_of}
use Rattle.graph_encoder.specs.Said.{SaysPlan, planned_parents}
use Rattle.graph_encoder.specs.declared.plan.FilePlan.{FilePlan}
use Rattle.graph_levels.specs.OnTop.{level_at, HasOnTop, HasLevelGenerations}
use Rattle.graph_levels.specs.ParentLists.{commit_count, parent_list}
use Rattle.graph_levels.specs.declared.level.Level.{Level}
use Rattle.graph_writer.specs.LevelsBelow.{AreLevelsBelow}
use Rattle.graph_writer.specs.NewLayers.{IsNewLayer}
use Rattle.graph_writer.specs.PlannedCommits.{IsPlanOf}
use Rattle.graph_writer.specs.WriteRefusal.{new_layer_refusal}
use Rattle.graph_writer.specs.declared.commit.NewCommit.{NewCommit}
use Rattle.graph_writer.specs.declared.levels_below.LevelsBelow.{LevelsBelow}
use Rattle.graph_writer.specs.declared.new_layer.NewLayer.{NewLayer}
use Rattle.graph_writer.proofs.layers.AcceptedSteps.{accepted}
use Rattle.graph_writer.proofs.layers.TopSteps.{history-top, start-front, generation-front, expected-front, node-back}
use Rattle.graph_writer.proofs.layers.WrittenSteps.{IsTold, told, as-many, as-many-records, has-commits, plain-positions}

positions-within : (n : ℕ) (positions : List ℕ) → All (λ q. q < n) positions
    → All (λ (pos : Position). pos.0 < n) (planned_parents positions).positions
positions-within n positions within = All-map (λ (pos : Position). pos.0 < n) (λ (p : ℕ). record { 0 = p }) positions within

module _ (layers : List Layer) (commits : List NewCommit) (new : NewLayer) (is_new : IsNewLayer layers commits new)
    (none : new_layer_refusal layers commits ≡ None) (known : LevelsBelow) (below : AreLevelsBelow layers known)
    (own : List Level) (leveled : length own ≡ commit_count new.parents)
    (plan : FilePlan) (counted : length plan.commits.items ≡ length new.order.items)
    (planned : (p i : ℕ) (commit : NewCommit) → slice_get new.order.items p ≡ Some i → slice_get commits i ≡ Some commit
    → IsSomeAnd (slice_get plan.commits.items p) (IsPlanOf commit (parent_list new.parents p) (level_at own p).generation))
    (layer : Layer) (says : SaysPlan plan layer) where
  abbrev all : List Layer
  all = layers ++ layer ∷ []

  abbrev a : List Node
  a = history_of layers

  abbrev b : List Node
  b = layer_history layer

  told-here : (p : ℕ) → p < length commits
      → (i : ℕ) × (commit : NewCommit) × (r : Record) × IsTold commits new own layer p i commit r
  told-here = told layers commits new is_new own plan counted planned layer says

  length-a : length a ≡ total layers
  length-a = length-history layers below.opened

  -- what the history tells of a new commit
  node-at : (p : ℕ) → p < length commits
      → slice_get b p ≡ Some (record { generation = (level_at own p).generation; parents = parent_list new.parents p })
  unfolding layer_history
  node-at p within =
      let found = told-here p within in
      let is = found.3 in
      slice_get-map (node_of layer) layer.records p
      ∙ ap (option_map (node_of layer)) is.recorded
      ∙ ap
      (λ (g : ℕ). Some (record {
        generation = g;
        parents = map (λ (pos : Position). pos.0) (parents_of found.2 layer.edges).positions;
      }))
      is.generation
      ∙ ap (λ (ps : List ℕ). Some (record { generation = (level_at own p).generation; parents = ps }))
      (ap (λ d. map (λ (pos : Position). pos.0) d.positions) is.parents ∙ plain-positions (parent_list new.parents p))

  node-on-top : (p : ℕ) → p < length commits → slice_get (a ++ b) (length known.levels.items + p)
      ≡ Some (record { generation = (level_at own p).generation; parents = parent_list new.parents p })
  node-on-top p within =
      ap (λ (n : ℕ). slice_get (a ++ b) (n + p)) (below.as_many ∙ sym length-a) ∙ node-back a b p _ (node-at p within)

  pub on-top : HasOnTop (a ++ b) (length known.levels.items) new.parents
  on-top = record {
    as_many =
        omega (
          arith,
          length-append a b,
          length-a,
          below.as_many,
          length-layer_history layer,
          as-many-records layers commits new is_new own plan counted planned layer says,
          is_new.listed,
        );
    own = λ i lt.
        ap (λ (o : Option Node). option_map_or (λ (node : Node). node.parents) o [])
        (node-on-top i (omega (arith, is_new.listed)));
  }

  -- parents of the commits below are commits below
  pub parents-below : (p : ℕ) → All (λ q. q < length a) (parents_at a p)
  parents-below p =
      subst (λ (n : ℕ). All (λ q. q < n) (parents_at a p)) (sym length-a) (known-within layers p below.opened below.sound)

  has-generations : HasLevelGenerations (a ++ b) known.levels.items own
  has-generations = record {
    lower = λ p lt.
        generation-front a b p (omega (arith, below.as_many, length-a)) ∙ below.generations p (omega (arith, below.as_many));
    upper = λ i lt.
        ap (λ (o : Option Node). option_map_or (λ (node : Node). node.generation) o 0)
        (node-on-top i (omega (arith, is_new.listed)));
    right = λ p lt.
        let inside : p < length a = omega (arith, below.as_many, length-a) in
        generation-front a b p inside
        ∙ local_from_counts a below.sound.generations p inside
        ∙ sym (expected-front a b p inside (parents-below p));
  }

  -- the layer is right by itself
  right-layer : KeepsNameRule layer.path layer.checksum → IsRightLayer layer
  right-layer named = record {
    checksum = says.checksum ∙ ap (λ k. digest_of k layer.body) (sym says.kind);
    name = named;
    ascending = (has-commits layers commits new is_new own plan counted planned layer says).ascending;
    ids = λ p d lt.
        let found = told-here p (omega (arith, as-many layers commits new is_new own plan counted planned layer says)) in
        let is = found.3 in
        subst (λ (id : List ℕ). ¬ IsNull id)
        (same_Some found.1.id (get_or layer.ids p d) (sym is.id ∙ slice_get-get_or layer.ids p d lt))
        (accepted layers commits none found.0 found.1 is.handed).id;
    trees = λ p d lt.
        let found = told-here p (omega (arith, as-many-records layers commits new is_new own plan counted planned layer says)) in
        let is = found.3 in
        subst (λ (r : Record). ¬ IsNull r.tree)
        (same_Some found.2 (get_or layer.records p d) (sym is.recorded ∙ slice_get-get_or layer.records p d lt))
        (subst (λ (tree : List ℕ). ¬ IsNull tree) (sym is.tree) (accepted layers commits none found.0 found.1 is.handed).tree);
    fan = λ byte lt. says.fan byte lt;
  }

  pub total-top : total all ≡ total layers + length commits
  total-top =
      omega (
        arith,
        sum_by-append (λ (l : Layer). length l.ids) layers (layer ∷ []),
        as-many layers commits new is_new own plan counted planned layer says,
      )

  known-top : AreParentsKnown all (length layers) layer
  known-top = record {
    decoded = λ p d lt.
        let found = told-here p (omega (arith, as-many-records layers commits new is_new own plan counted planned layer says)) in
        let is = found.3 in
        subst (λ (r : Record). (parents_of r layer.edges).fault ≡ None)
        (same_Some found.2 (get_or layer.records p d) (sym is.recorded ∙ slice_get-get_or layer.records p d lt))
        (ap (λ x. x.fault) is.parents);
    within = λ p d lt.
        let inside : p < length commits =
        omega (arith, as-many-records layers commits new is_new own plan counted planned layer says) in
        let found = told-here p inside in
        let is = found.3 in
        let end : stop all (length layers) ≡ total layers + length commits =
        start-all all (length layers + 1) (omega (arith, length_push layers layer)) ∙ total-top in
        subst (λ (r : Record). All (λ (q : Position). q.0 < stop all (length layers)) (parents_of r layer.edges).positions)
        (same_Some found.2 (get_or layer.records p d) (sym is.recorded ∙ slice_get-get_or layer.records p d lt))
        (subst (λ x. All (λ (q : Position). q.0 < stop all (length layers)) x.positions) (sym is.parents)
        (subst (λ (n : ℕ). All (λ (q : Position). q.0 < n) (planned_parents (parent_list new.parents p)).positions) (sym end)
        (positions-within (total layers + length commits) (parent_list new.parents p) (is_new.within p inside))));
  }

  -- what holds of the parents of a layer below still does
  known-below : (i : ℕ) (l : Layer) → slice_get layers i ≡ Some l → AreParentsKnown all i l
  known-below i l here =
      let lt = slice_get_within layers i l here in
      let was = below.sound.parents i l here in
      record {
        decoded = was.decoded;
        within =
            subst (λ (n : ℕ). All (λ r. All (λ (q : Position). q.0 < n) (parents_of r l.edges).positions) l.records)
            (sym (start-front layers layer (i + 1) (omega arith))) was.within;
      }

  -- the generation numbers of all count walks
  pub counts-top : ((history : List Node) → HasOnTop history (length known.levels.items) new.parents
      → HasLevelGenerations history known.levels.items own → AreLocal history) → CountWalks (history_of all)
  counts-top local =
      subst (λ (h : List Node). CountWalks h) (sym (history-top layers layer))
      (counts_from_local (a ++ b) (local (a ++ b) on-top has-generations))

  module _ (few : length layers ≤ 255) (bases : plan.bases.items ≡ map (λ l. l.checksum) layers)
      (local : (history : List Node) → HasOnTop history (length known.levels.items) new.parents
      → HasLevelGenerations history known.levels.items own → AreLocal history) where
    bases-top : (i : ℕ) (l : Layer) → slice_get all i ≡ Some l → l.bases ≡ map (λ x. x.checksum) (take i all)
    bases-top i l here =
        elim (pushed layers layer l i here) [
          | inl old ↦
              below.sound.rules.bases i l old
              ∙ ap (map (λ (x : Layer). x.checksum))
              (sym (take-append-le i layers (layer ∷ []) (omega (arith, slice_get_within layers i l old))))
          | inr last ↦
              ap (λ (x : Layer). x.bases) (sym last.1)
              ∙ says.bases
              ∙ bases
              ∙ ap (map (λ (x : Layer). x.checksum))
              (sym (ap (λ (n : ℕ). take n all) last.0 ∙ take-append_seam layers (layer ∷ [])))
        ]

    pub sound-top : KeepsNameRule layer.path layer.checksum → Sound all
    sound-top named = record {
      rules = record {
        few = omega (arith, length_push layers layer);
        bases = bases-top;
        each = All-push IsRightLayer layers layer below.sound.rules.each (right-layer named);
      };
      parents = λ i l here.
          elim (pushed layers layer l i here) [
            | inl old ↦ known-below i l old
            | inr last ↦
                subst (AreParentsKnown all i) last.1 (subst (λ (n : ℕ). AreParentsKnown all n layer) (sym last.0) known-top)
          ];
      generations = counts-top local;
    }
