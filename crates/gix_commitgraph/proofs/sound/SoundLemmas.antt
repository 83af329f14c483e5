-- The check of a graph names no fault exactly where the graph is right.
use Rattle.std.proofs.Common.{◌≡◌, ℕ, ◌+◌, ◌<◌, ◌≤◌, Bool, true, false, if◌then◌else◌, List, length, take, get_or, slice_get, All}
use Rattle.std.proofs.Common.{Option, Some, None, Result, refl, sym, subst, ◌∙◌}
use Rattle.std.specs.Prelude.{◌↔◌, IsTrue}
use Rattle.std.proofs.lemmas.Bool.{ltb-false, le-ltb}
use Rattle.std.proofs.lemmas.List.Elements.{All-weaker}
use Rattle.std.proofs.lemmas.Option.{none-some, slice_get-get_or}
use Rattle.gix_chunk_core.proofs.FirstFaultLemmas.{then_some-false, when-none}
use Rattle.graph_format.specs.Layer.{Layer}
use Rattle.gix_commitgraph.specs.Graph.{graph_ids, start}
use Rattle.graph_format.specs.Layer.{IsOpened}
use Rattle.gix_commitgraph.specs.GraphLaw.{IsInOrder}
use Rattle.gix_commitgraph.specs.GraphLookup.{FoundIn}
use Rattle.graph_format.specs.Lookup.{scan}
use Rattle.graph_walks.specs.History.{generations}
use Rattle.graph_format.specs.StoredHistory.{history_of}
use Rattle.graph_walks.specs.Walks.{MatchesLongestWalk}
use Rattle.graph_format.specs.Faults.{layer_fault, commit_fault, id_at}
use Rattle.graph_format.specs.Points.{Point, first_fault, PassesAll, IsRefused}
use Rattle.graph_walks.specs.Generations.{longest_path}
use Rattle.gix_commitgraph.specs.Verify.{base_ids_refusal, duplicate_refusal, parents_refusal, generation_refusal, commit_points}
use Rattle.gix_commitgraph.specs.Verify.{layer_points, points_with, graph_points, Summarizes}
use Rattle.graph_format.specs.RightLayer.{IsRightLayer}
use Rattle.gix_commitgraph.specs.Sound.{Sound}
use Rattle.gix_commitgraph.specs.Distinct.{AreDistinct, IsSoundWith}
use Rattle.gix_commitgraph.specs.declared.verify.Outcome.{Outcome}
use Rattle.gix_commitgraph.specs.declared.verify.VerifyError.{VerifyError}
use Rattle.gix_commitgraph.specs.declared.verify.VerifyOptions.{VerifyOptions}
use Rattle.gix_commitgraph.proofs.layers.GraphLemmas.{scanned}
use Rattle.gix_commitgraph.proofs.lookup.DuplicateLemmas.{ids-none}
use Rattle.gix_commitgraph.proofs.lookup.DistinctLemmas.{distinct-none, distinct-from}
use Rattle.graph_format.proofs.FaultFreeLemmas.{option_map-none, check-none, enumerate-none, range-none}
use Rattle.graph_format.proofs.LayerHistoryLemmas.{opened_is_paired}
use Rattle.gix_commitgraph.proofs.lookup.ElementLemmas.{all-at}
use Rattle.gix_commitgraph.proofs.sound.BaseFaultFreeLemmas.{bases-iff}
use Rattle.graph_format.proofs.RightLayerLemmas.{layer_fault-iff}
use Rattle.graph_format.proofs.CommitFaultFreeLemmas.{commit_faults-iff}
use Rattle.gix_commitgraph.proofs.sound.ParentFaultFreeLemmas.{parents-iff, generations-iff}
use Rattle.graph_walks.proofs.WalkLemmas.{counts_from_local, local_from_counts, longest_is_told}

-- the layers of a right graph are ordered
ordered-right : (layer : Layer) → IsRightLayer layer → IsInOrder layer
ordered-right layer right = (right.ascending, right.fan)

pub ordered-all : (layers : List Layer) → Sound layers → All IsInOrder layers
ordered-all layers sound = All-weaker IsRightLayer IsInOrder ordered-right layers sound.rules.each

-- No condition on a commit fails.
pub record IsPassedCommit (E : Type 0) (options : VerifyOptions) (layers : List Layer) (i : ℕ) (layer : Layer) (pos : ℕ)
    : Type 0 where
  pub ids : commit_fault layer pos ≡ None
  pub asked : (if options.distinct_ids then duplicate_refusal {E = E} layers i layer pos else None) ≡ None
  pub parents : parents_refusal {E = E} layers i layer pos ≡ None
  pub generation : generation_refusal {E = E} (history_of layers) (start layers i + pos) ≡ None

-- No condition on a layer fails.
pub record IsPassedLayer (E : Type 0) (options : VerifyOptions) (layers : List Layer) (i : ℕ) (layer : Layer) : Type 0 where
  pub bases : base_ids_refusal {E = E} layers i layer ≡ None
  pub whole : layer_fault layer ≡ None
  pub commits : (pos : ℕ) → pos < length layer.ids → IsPassedCommit E options layers i layer pos

-- no condition on a layer of a graph fails
abbrev ArePassed : Type 0 → VerifyOptions → List Layer → Type 0
ArePassed E options layers = (i : ℕ) (layer : Layer) → slice_get layers i ≡ Some layer → IsPassedLayer E options layers i layer

module _ {E : Type 0} where
  commit_points-iff : (options : VerifyOptions) (layers : List Layer) (i : ℕ) (layer : Layer) (pos : ℕ)
      → (first_fault (commit_points {E = E} options layers i layer pos) ≡ None) ↔ IsPassedCommit E options layers i layer pos
  commit_points-iff options layers i layer pos = (
    λ h.
        let ids = (check-none _ _).0 h in
        let parents = (check-none _ _).0 ids.1 in
        let generation = (check-none _ _).0 parents.1 in
        let own = (ids-none options layers i layer pos).0 ids.0 in
        record { ids = own.0; asked = own.1; parents = parents.0; generation = generation.0 },
    λ passed.
        (check-none _ _).1 (
          (ids-none options layers i layer pos).1 (passed.ids, passed.asked),
          (check-none _ _).1 (passed.parents, (check-none _ _).1 (passed.generation, refl)),
        ),
  )

  pub layer_points-iff : (options : VerifyOptions) (layers : List Layer) (i : ℕ) (layer : Layer)
      → (first_fault (layer_points {E = E} options layers i layer) ≡ None) ↔ IsPassedLayer E options layers i layer
  layer_points-iff options layers i layer =
      let each = range-none (commit_points {E = E} options layers i layer) (length layer.ids) in (
        λ h.
            let bases = (check-none _ _).0 h in
            let whole = (check-none _ _).0 bases.1 in
            record {
              bases = bases.0;
              whole = (option_map-none _ (layer_fault layer)).0 whole.0;
              commits = λ pos within. (commit_points-iff options layers i layer pos).0 (each.0 whole.1 pos within);
            },
        λ passed.
            (check-none _ _).1 (
              passed.bases,
              (check-none _ _).1 (
                (option_map-none _ (layer_fault layer)).1 passed.whole,
                each.1 (λ pos within. (commit_points-iff options layers i layer pos).1 (passed.commits pos within)),
              ),
            ),
      )

  graph_points-iff : (options : VerifyOptions) (layers : List Layer)
      → (first_fault (points_with {E = E} options layers) ≡ None) ↔ ((length layers ≤ 256) × ArePassed E options layers)
  graph_points-iff options layers =
      let each = enumerate-none (layer_points {E = E} options layers) layers in (
        λ h.
            let few = (check-none _ _).0 h in (
              ltb-false 256 (length layers) (when-none _ _ few.0),
              λ i layer here. (layer_points-iff options layers i layer).0 (each.0 few.1 i layer here),
            ),
        λ h.
            (check-none _ _).1 (
              then_some-false _ _ (le-ltb 256 (length layers) h.0),
              each.1 (λ i layer here. (layer_points-iff options layers i layer).1 (h.1 i layer here)),
            ),
      )

  right-from_passed : (options : VerifyOptions) (layers : List Layer) (i : ℕ) (layer : Layer) → IsOpened layer
      → IsPassedLayer E options layers i layer → IsRightLayer layer
  right-from_passed options layers i layer opened passed =
      let whole = (layer_fault-iff layer).0 passed.whole in
      let ids = (commit_faults-iff layer (opened_is_paired layer opened)).0 (λ pos within. (passed.commits pos within).ids) in
      record {
        checksum = whole.checksum;
        name = whole.name;
        ascending = ids.ascending;
        ids = ids.ids;
        trees = ids.trees;
        fan =
            whole.fan;
      }

  sound-from_passed : (options : VerifyOptions) (layers : List Layer) → All IsOpened layers → length layers ≤ 256
      → ArePassed E options layers → Sound layers
  sound-from_passed options layers opened few passed = record {
    rules = record {
      few = few;
      bases = λ i layer here. (bases-iff layers i layer here).0 (passed i layer here).bases;
      each = λ k d within.
          let layer = get_or layers k d in
          let here = slice_get-get_or layers k d within in
          right-from_passed options layers k layer (opened k d within) (passed k layer here);
    };
    parents = λ i layer here. (parents-iff {E = E} layers i layer (all-at IsOpened layers i layer opened here)).0 (λ pos within.
        ((passed i layer here).commits pos within).parents);
    generations =
        counts_from_local (history_of layers) ((generations-iff {E = E} layers opened).0 (λ i layer here pos within.
        ((passed i layer here).commits pos within).generation));
  }

  -- no id is asked about, or none stands in an earlier layer
  asked-none : (asked : Bool) (layers : List Layer) (i pos : ℕ) (layer : Layer) → (IsTrue asked → AreDistinct layers)
      → slice_get layers i ≡ Some layer → pos < length layer.ids
      → (if asked then duplicate_refusal {E = E} layers i layer pos else None) ≡ None
  asked-none true layers i pos layer distinct here within =
      (option_map-none _ (scan (graph_ids (take i layers)) (id_at layer pos))).1
      (distinct-none layers i pos layer (distinct refl) here within)
  asked-none false layers i pos layer distinct here within = refl

  pub passed-from_sound : (options : VerifyOptions) (layers : List Layer) → All IsOpened layers → IsSoundWith options layers
      → ArePassed E options layers
  passed-from_sound options layers opened right_graph i layer here =
      let sound = right_graph.sound in
      let own = all-at IsOpened layers i layer opened here in
      let right = all-at IsRightLayer layers i layer sound.rules.each here in
      let ids =
      (commit_faults-iff layer (opened_is_paired layer own)).1
      (record { ascending = right.ascending; ids = right.ids; trees = right.trees }) in
      let parents = (parents-iff {E = E} layers i layer own).1 (sound.parents i layer here) in
      let generations = (generations-iff {E = E} layers opened).1 (local_from_counts (history_of layers) sound.generations) in
      record {
        bases = (bases-iff layers i layer here).1 (sound.rules.bases i layer here);
        whole = (layer_fault-iff layer).1 (record { checksum = right.checksum; name = right.name; fan = right.fan });
        commits = λ pos within. record {
          ids = ids pos within;
          asked = asked-none options.distinct_ids layers i pos layer right_graph.distinct here within;
          parents = parents pos within;
          generation = generations i layer here pos within;
        };
      }

  -- no id stands in an earlier layer, where that is asked
  none-asked : (asked : Bool) (layers : List Layer) (i pos : ℕ) (layer : Layer) → IsTrue asked
      → (if asked then duplicate_refusal {E = E} layers i layer pos else None) ≡ None
      → scan (graph_ids (take i layers)) (id_at layer pos) ≡ None
  none-asked true layers i pos layer is none = (option_map-none _ (scan (graph_ids (take i layers)) (id_at layer pos))).0 none
  none-asked false layers i pos layer is none = cc

  -- where the check finds no fault, the graph is right
  pub sound_with-from_none : (options : VerifyOptions) (layers : List Layer) → All IsOpened layers
      → first_fault (points_with {E = E} options layers) ≡ None → IsSoundWith options layers
  sound_with-from_none options layers opened h =
      let parts = (graph_points-iff options layers).0 h in
      let sound = sound-from_passed options layers opened parts.0 parts.1 in
      record {
        sound = sound;
        distinct = λ is.
            distinct-from layers (All-weaker IsRightLayer IsInOrder ordered-right layers sound.rules.each)
            (record {
              each = λ i layer here pos within. none-asked options.distinct_ids layers i pos layer is
                  ((parts.1 i layer here).commits pos within).asked;
            });
      }

  -- and where it is right, the check finds none
  pub none-from_sound_with : (options : VerifyOptions) (layers : List Layer) → All IsOpened layers → IsSoundWith options layers
      → first_fault (points_with {E = E} options layers) ≡ None
  none-from_sound_with options layers opened right =
      (graph_points-iff options layers).1 (
        right.sound.rules.few,
        passed-from_sound options layers opened right,
      )

  -- the same where nothing is asked for besides
  pub sound-from_none : (layers : List Layer) → All IsOpened layers → first_fault (graph_points {E = E} layers) ≡ None
      → Sound layers
  sound-from_none layers opened h = (sound_with-from_none (record { distinct_ids = false }) layers opened h).sound

  pub none-from_sound : (layers : List Layer) → All IsOpened layers → Sound layers
      → first_fault (graph_points {E = E} layers) ≡ None
  none-from_sound layers opened sound =
      none-from_sound_with (record { distinct_ids = false }) layers opened
      (record { sound = sound; distinct = λ is. let never : false ≡ true = is in cc })

  -- the ids of a layer that passes are ordered
  pub ordered-passed : (options : VerifyOptions) (layers : List Layer) (i : ℕ) (layer : Layer) → All IsOpened layers
      → slice_get layers i ≡ Some layer
      → first_fault (layer_points {E = E} options layers i layer) ≡ None → IsInOrder layer
  ordered-passed options layers i layer opened here none =
      ordered-right layer (right-from_passed options layers i layer (all-at IsOpened layers i layer opened here)
      ((layer_points-iff options layers i layer).0 none))

-- What a check of a graph says of it, with a processor and its states before and after the check. The points that it goes over
-- may be some of all, where the others have no fault.
module _ {F E : Type 0} (step : F → ℕ → Result (Unit {0}) E → F → Type 0) (options : VerifyOptions) (layers : List Layer)
    (points : List (Point (VerifyError E))) (whole : first_fault points ≡ first_fault (points_with {E = E} options layers))
    (f g : F) where
  -- only a right graph passes
  pub sound-from_passes : All IsOpened layers → PassesAll step points f g → IsSoundWith options layers
  sound-from_passes opened passes = sound_with-from_none {E = E} options layers opened (sym whole ∙ passes.no_fault)

  -- and a right graph is never refused
  pub sound-not_refused : All IsOpened layers → IsSoundWith options layers → (x : VerifyError E)
      → IsRefused step points f g x → ⊥
  sound-not_refused opened sound x refused =
      none-some x (sym (none-from_sound_with options layers opened sound) ∙ sym whole ∙ refused.fault)

-- a lookup in a right graph is a plain scan
pub sound-scanned : (layers : List Layer) (id : List ℕ) (answer : Option ℕ) → Sound layers → FoundIn layers id answer
    → answer ≡ scan (graph_ids layers) id
sound-scanned layers id answer sound found =
    scanned layers (All-weaker IsRightLayer IsInOrder ordered-right layers sound.rules.each) id answer found

-- and what its generation numbers tell of the longest walk is so
pub sound-longest : (layers : List Layer) → Sound layers
    → MatchesLongestWalk (history_of layers) (longest_path (generations (history_of layers)))
sound-longest layers sound = longest_is_told (history_of layers) sound.generations

pub summarized-longest : (layers : List Layer) (outcome : Outcome) → Sound layers → Summarizes (history_of layers) outcome
    → MatchesLongestWalk (history_of layers) outcome.longest_path_length
summarized-longest layers outcome sound sums =
    subst (MatchesLongestWalk (history_of layers)) (sym sums.longest_path_length) (sound-longest layers sound)
