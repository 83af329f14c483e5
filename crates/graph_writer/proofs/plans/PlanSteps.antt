-- A file can hold what was planned of a new layer, unless there are too many extra edges.
use Rattle.std.proofs.Common.{◌≡◌, ℕ, zero, suc, ◌+◌, ◌^◌, ◌<◌, ◌≤◌, true, List, [], ◌∷◌, ◌++◌, map, length}
use Rattle.std.proofs.Common.{All, AllPairs, IsSomeAnd, slice_get, get_or, Some, None, option_map, refl, sym, ap, ◌∙◌}
use Rattle.std.proofs.Common.{subst, arith}
use Rattle.std.specs.Prelude.{IfSome}
use Rattle.std.specs.List.{flat_map}
use Rattle.std.proofs.lemmas.Bool.{and_parts, eqb-true}
use Rattle.std.proofs.lemmas.List.{length-map, same_lists}
use Rattle.std.proofs.lemmas.List.Elements.{All-map, All-weaker}
use Rattle.std.proofs.lemmas.List.FromFn.{length-map-range_with_len}
use Rattle.std.proofs.lemmas.Option.{slice_get-map, slice_get-get_or, get_or_from_slice_get, same_Some}
use Rattle.gix_hash_core.specs.Kind.{id_len}
use Rattle.graph_format.specs.Layer.{Layer}
use Rattle.graph_format.proofs.PieceLemmas.{get-map-range}
use Rattle.gix_commitgraph.specs.Graph.{total}
use Rattle.graph_encoder.specs.DateOffsets.{offsets_of}
use Rattle.graph_encoder.specs.ExtraEdges.{extra_words, all_extra_words, no_parent}
use Rattle.graph_encoder.specs.Plan.{IsPlan, IsPlannedCommit, AreOffsets, AreFilters}
use Rattle.graph_encoder.specs.declared.plan.FilePlan.{FilePlan}
use Rattle.graph_encoder.specs.declared.plan.PlanCommit.{PlanCommit}
use Rattle.graph_levels.specs.OnTop.{level_at}
use Rattle.graph_levels.specs.ParentLists.{commit_count, parent_list}
use Rattle.graph_levels.specs.declared.level.Level.{Level}
use Rattle.graph_walks.specs.declared.TheConstants.{GENERATION_NUMBER_MAX}
use Rattle.graph_writer.specs.LevelsBelow.{AreLevelsBelow}
use Rattle.graph_writer.specs.NewLayers.{IsNewLayer}
use Rattle.graph_writer.specs.PlannedCommits.{IsPlanOf}
use Rattle.graph_writer.specs.WriteRefusal.{new_layer_refusal, kind_to_write, is_of_kind}
use Rattle.graph_writer.specs.WritingRefusal.{word_count}
use Rattle.graph_writer.specs.declared.commit.NewCommit.{NewCommit}
use Rattle.graph_writer.specs.declared.levels_below.LevelsBelow.{LevelsBelow}
use Rattle.graph_writer.specs.declared.new_layer.NewLayer.{NewLayer}
use Rattle.graph_writer.proofs.layers.AcceptedSteps.{accepted, few}
use Rattle.graph_writer.proofs.plans.WordSteps.{lists_of, same-words}
use Rattle.graph_writer.proofs.layers.WrittenSteps.{planned-at}

-- the layers below are of the kind that is written
kinds-below : (layers : List Layer) (commits : List NewCommit) → AllPairs (λ layer later. layer.kind ≡ later.kind) layers
    → (k : ℕ) (d : Layer) → k < length layers → (get_or layers k d).kind ≡ kind_to_write layers commits
kinds-below [] commits alike k d lt = absurd (omega arith)
kinds-below (layer ∷ layers) commits alike zero d lt = refl
kinds-below (layer ∷ layers) commits alike (suc k) d lt = sym (alike 0 (suc k) d (omega arith) lt)

lists-words : (commits : List PlanCommit)
    → flat_map (λ c. extra_words c.parents.items) commits ≡ flat_map extra_words (map (λ c. c.parents.items) commits)
lists-words [] = refl
lists-words (c ∷ commits) = ap (λ (words : List ℕ). extra_words c.parents.items ++ words) (lists-words commits)

module _ (layers : List Layer) (commits : List NewCommit) (new : NewLayer) (is_new : IsNewLayer layers commits new)
    (own : List Level) (plan : FilePlan) (counted : length plan.commits.items ≡ length new.order.items)
    (planned : (p i : ℕ) (commit : NewCommit) → slice_get new.order.items p ≡ Some i → slice_get commits i ≡ Some commit
    → IsSomeAnd (slice_get plan.commits.items p) (IsPlanOf commit (parent_list new.parents p) (level_at own p).generation)) where
  planned-lists : map (λ c. c.parents.items) plan.commits.items ≡ lists_of new
  planned-lists =
      same_lists (map (λ c. c.parents.items) plan.commits.items) (lists_of new)
      (length-map plan.commits.items (λ (c : PlanCommit). c.parents.items)
      ∙ counted
      ∙ is_new.as_many
      ∙ sym (length-map-range_with_len (parent_list new.parents) 0 (commit_count new.parents) ∙ is_new.listed))
      (λ p d lt.
      let inside : p < length commits =
      omega (arith, length-map plan.commits.items (λ (c : PlanCommit). c.parents.items), is_new.as_many) in
      let at = planned-at layers commits new is_new own plan counted planned p inside in
      get_or_from_slice_get (map (λ c. c.parents.items) plan.commits.items) p (parent_list new.parents p) d
      (slice_get-map (λ (c : PlanCommit). c.parents.items) plan.commits.items p
      ∙ ap (option_map (λ (c : PlanCommit). c.parents.items)) at.5
      ∙ ap (λ (ps : List ℕ). Some ps) at.6.parents)
      ∙ sym
      (get_or_from_slice_get (lists_of new) p (parent_list new.parents p) d
      (get-map-range (parent_list new.parents) 0 (commit_count new.parents) p (omega (arith, is_new.listed))
      ∙ ap (λ (n : ℕ). Some (parent_list new.parents n)) (omega arith))))

  pub all-words : length (all_extra_words plan.commits.items) ≡ word_count commits
  unfolding all_extra_words
  all-words =
      ap length (lists-words plan.commits.items ∙ ap (flat_map extra_words) planned-lists)
      ∙ same-words layers commits new is_new

  module _ (none : new_layer_refusal layers commits ≡ None) (known : LevelsBelow) (below : AreLevelsBelow layers known)
      (kind : plan.kind ≡ kind_to_write layers commits) (bases : plan.bases.items ≡ map (λ l. l.checksum) layers)
      (fits : length layers ≤ 255) (leveled : length own ≡ commit_count new.parents)
      (capped : (p : ℕ) → p < length own → (level_at own p).generation ≤ GENERATION_NUMBER_MAX)
      (offsets : IfSome (offsets_of plan) (AreOffsets (length plan.commits.items)))
      (filters : IfSome plan.filters (AreFilters (length plan.commits.items)))
      (words : word_count commits < 2 ^ 31) where
    of-kind : (id : List ℕ) → is_of_kind (kind_to_write layers commits) id ≡ true → length id ≡ id_len plan.kind
    of-kind id is = eqb-true (length id) (id_len (kind_to_write layers commits)) is ∙ ap id_len (sym kind)

    fits-record : (c : PlanCommit) (commit : NewCommit) (i p : ℕ) → p < length commits → slice_get commits i ≡ Some commit
        → IsPlanOf commit (parent_list new.parents p) (level_at own p).generation c → IsPlannedCommit plan.kind c
    fits-record c commit i p inside here is =
        let own_facts = accepted layers commits none i commit here in
        let kinds = and_parts _ _ (and_parts _ _ own_facts.kinds).0 in
        record {
          id = ap length is.id ∙ of-kind commit.id kinds.0;
          tree = ap length is.tree ∙ of-kind commit.tree kinds.1;
          parents =
              subst (All (λ q. q < no_parent)) (sym is.parents)
              (All-weaker (λ q. q < total layers + length commits) (λ q. q < no_parent)
              (λ q lt. omega (arith, few layers commits none)) (parent_list new.parents p) (is_new.within p inside));
          generation = omega (arith, is.generation, capped p (omega (arith, leveled, is_new.listed)));
          time = omega (arith, is.time, own_facts.time);
        }

    pub is-plan : IsPlan plan
    is-plan = record {
      few_bases = omega (arith, ap length bases, length-map layers (λ (l : Layer). l.checksum));
      bases =
          subst (All (λ id. length id ≡ id_len plan.kind)) (sym bases)
          (All-map (λ id. length id ≡ id_len plan.kind) (λ (l : Layer). l.checksum) layers
          (λ k d lt.
          (below.opened k d lt).whole ∙ ap id_len (kinds-below layers commits below.alike k d lt ∙ sym kind)));
      few_commits = omega (arith, counted, is_new.as_many, few layers commits none);
      commits = λ p d lt.
          let inside : p < length commits = omega (arith, counted, is_new.as_many) in
          let at = planned-at layers commits new is_new own plan counted planned p inside in
          subst (IsPlannedCommit plan.kind)
          (same_Some at.4 (get_or plan.commits.items p d) (sym at.5 ∙ slice_get-get_or plan.commits.items p d lt))
          (fits-record at.4 at.1 at.0 p inside at.3 at.6);
      few_words = omega (arith, all-words);
      offsets = offsets;
      filters = filters;
    }
