-- Where the lowest layers of a graph are right, the check of the graph finds no fault in them.
use Rattle.std.proofs.Common.{◌≡◌, ℕ, zero, suc, ◌+◌, ◌<◌, ◌≤◌, min, if◌then◌else◌, List, [], ◌∷◌, ◌++◌, map, length}
use Rattle.std.proofs.Common.{take, drop, slice_get, get_or, nat_lt, All, Option, Some, None, option_map, refl, sym, ap, subst}
use Rattle.std.proofs.Common.{◌∙◌, arith, ⊎_elim}
use Rattle.std.specs.List.{flat_map}
use Rattle.std.specs.Option.{option_map_or}
use Rattle.std.proofs.lemmas.Grind.{flat_map-append}
use Rattle.std.proofs.Math.Seq.{take-append_seam}
use Rattle.std.proofs.lemmas.List.{take-take, take-append-drop}
use Rattle.gix_chunk_core.specs.FirstFault.{◌when◌}
use Rattle.std.proofs.lemmas.List.Elements.{All-take, All-head, All-tail}
use Rattle.std.proofs.lemmas.Option.{slice_get-get_or, slice_get_cases}
use Rattle.graph_walks.specs.Counts.{greatest}
use Rattle.graph_walks.specs.Generations.{expected_generation}
use Rattle.graph_walks.specs.History.{Node, generation_at, parents_at}
use Rattle.graph_walks.specs.declared.TheConstants.{GENERATION_NUMBER_MAX}
use Rattle.graph_walks.proofs.WalkLemmas.{local_from_counts}
use Rattle.graph_format.specs.Faults.{id_at}
use Rattle.graph_format.specs.Layer.{Layer, IsOpened}
use Rattle.graph_format.specs.Lookup.{scan}
use Rattle.graph_format.specs.Parents.{position_of}
use Rattle.graph_format.specs.Points.{Point, check, first_fault}
use Rattle.graph_format.specs.StoredHistory.{layer_history, history_of}
use Rattle.graph_format.proofs.PointLemmas.{first_fault-append}
use Rattle.gix_commitgraph.specs.Distinct.{IsSoundWith}
use Rattle.gix_commitgraph.specs.Graph.{graph_ids, total, start, stop}
use Rattle.gix_commitgraph.specs.Sound.{Sound}
use Rattle.gix_commitgraph.specs.Statistics.{AreNumbered}
use Rattle.gix_commitgraph.specs.Tallies.{decoded_at}
use Rattle.gix_commitgraph.specs.Verify.{duplicate_refusal, generation_refusal, layer_points, layer_points_from, points_from}
use Rattle.gix_commitgraph.specs.ListedTallies.{AreWithin}
use Rattle.gix_commitgraph.specs.Verify.{points_with}
use Rattle.gix_commitgraph.specs.declared.verify.VerifyError.{VerifyError}
use Rattle.gix_commitgraph.specs.declared.verify.VerifyError.TheVariants as error
use Rattle.gix_commitgraph.specs.declared.verify.VerifyOptions.{VerifyOptions}
use Rattle.gix_commitgraph.proofs.sound.BaseFaultFreeLemmas.{bases-iff, checksums}
use Rattle.gix_commitgraph.proofs.lookup.DuplicateLemmas.{take-layer, start-take}
use Rattle.gix_commitgraph.proofs.check.GraphCheckLemmas.{layer_points_from-next}
use Rattle.gix_commitgraph.proofs.history.HistoryLemmas.{length-history}
use Rattle.gix_commitgraph.proofs.history.KnownParentLemmas.{known-within}
use Rattle.gix_commitgraph.proofs.layers.LayerListLemmas.{get-front, start-more, start-fits}
use Rattle.gix_commitgraph.proofs.sound.ParentFaultFreeLemmas.{unrefused-iff, generation-iff}
use Rattle.gix_commitgraph.proofs.sound.SoundLemmas.{IsPassedLayer, passed-from_sound, layer_points-iff}

-- what the first commits of a history say
generation-front : (a b : List Node) (p : ℕ) → p < length a → generation_at (a ++ b) p ≡ generation_at a p
generation-front a b p within =
    ap (λ (o : Option Node). option_map_or (λ (node : Node). node.generation) o 0) (get-front a b p within)

parents-front : (a b : List Node) (p : ℕ) → p < length a → parents_at (a ++ b) p ≡ parents_at a p
parents-front a b p within =
    ap (λ (o : Option Node). option_map_or (λ (node : Node). node.parents) o []) (get-front a b p within)

generations-front : (a b : List Node) (ps : List ℕ) → All (λ p. p < length a) ps
    → map (generation_at (a ++ b)) ps ≡ map (generation_at a) ps
generations-front a b [] within = refl
generations-front a b (p ∷ ps) within =
    ap (λ (n : ℕ). n ∷ map (generation_at (a ++ b)) ps) (generation-front a b p (All-head (λ q. q < length a) p ps within))
    ∙ ap (λ (ns : List ℕ). generation_at a p ∷ ns) (generations-front a b ps (All-tail (λ q. q < length a) p ps within))

-- what is expected of one of them, whose parents are among them
expected-front : (a b : List Node) (p : ℕ) → p < length a → All (λ q. q < length a) (parents_at a p)
    → expected_generation (a ++ b) p ≡ expected_generation a p
unfolding expected_generation
expected-front a b p within parents =
    ap (λ (ps : List ℕ). min GENERATION_NUMBER_MAX (1 + greatest (map (generation_at (a ++ b)) ps))) (parents-front a b p within)
    ∙ ap (λ (ns : List ℕ). min GENERATION_NUMBER_MAX (1 + greatest ns)) (generations-front a b (parents_at a p) parents)

-- the commits of the lowest layers come first
history-split : (layers : List Layer) (i : ℕ) → history_of layers ≡ history_of (take i layers) ++ history_of (drop i layers)
unfolding history_of
history-split layers i =
    ap (λ (ls : List Layer). flat_map layer_history ls) (sym (take-append-drop i layers))
    ∙ flat_map-append layer_history (take i layers) (drop i layers)

pub history-none : history_of [] ≡ []
unfolding history_of
history-none = refl

first_fault-same : {X : Type 0} (o : Option X) (a b : List (Point X)) → first_fault a ≡ first_fault b
    → first_fault (check o ∷ a) ≡ first_fault (check o ∷ b)
first_fault-same None a b same = same
first_fault-same (Some x) a b same = refl

opened-below : (layers : List Layer) (i : ℕ) → All IsOpened layers → All IsOpened (take i layers)
opened-below layers i opened = All-take IsOpened i layers opened

-- the layers before one of the lowest
before : (layers : List Layer) (i j : ℕ) → j ≤ i → take j (take i layers) ≡ take j layers
before layers i j h = take-take j i layers h

-- Layers of which the lowest i keep what the options ask for.
module _ {E : Type 0} (options : VerifyOptions) (layers : List Layer) (i : ℕ) (opened : All IsOpened layers)
    (fits : i ≤ length layers) (right : IsSoundWith options (take i layers)) where
  duplicate-below : (j pos : ℕ) (layer : Layer) → j ≤ i
      → duplicate_refusal {E = E} (take i layers) j layer pos ≡ duplicate_refusal layers j layer pos
  duplicate-below j pos layer h =
      ap
      (λ (first : ℕ). option_map (λ earlier. error.DuplicateId (position_of (first + pos)) (position_of earlier))
      (scan (graph_ids (take j (take i layers))) (id_at layer pos)))
      (start-take layers i j h)
      ∙ ap
      (λ (ls : List Layer).
      option_map (λ earlier. error.DuplicateId (position_of (start layers j + pos)) (position_of earlier))
      (scan (graph_ids ls) (id_at layer pos)))
      (before layers i j h)

  generation-below : (p : ℕ) → p < total (take i layers)
      → generation_refusal {E = E} (history_of (take i layers)) p ≡ None → generation_refusal {E = E} (history_of layers) p ≡ None
  generation-below p within none =
      let a = history_of (take i layers) in
      let b = history_of (drop i layers) in
      let counted : length a ≡ total (take i layers) = length-history (take i layers) (opened-below layers i opened) in
      let here : p < length a = omega (arith, counted, within) in
      let parents : All (λ q. q < length a) (parents_at a p) =
      subst (λ (n : ℕ). All (λ q. q < n) (parents_at a p)) (sym counted)
      (known-within (take i layers) p (opened-below layers i opened) right.sound) in
      subst (λ (h : List Node). generation_refusal {E = E} h p ≡ None) (sym (history-split layers i))
      ((generation-iff {E = E} (a ++ b) p).1
      (generation-front a b p here ∙ (generation-iff {E = E} a p).0 none ∙ sym (expected-front a b p here parents)))

  -- no condition fails on a layer below that is checked as one of all
  passed-below : (j : ℕ) (layer : Layer) → j < i → slice_get layers j ≡ Some layer → IsPassedLayer E options layers j layer
  passed-below j layer below here =
      let there : slice_get (take i layers) j ≡ Some layer = take-layer layers i j layer fits below here in
      let passed : IsPassedLayer E options (take i layers) j layer =
      passed-from_sound options (take i layers) (opened-below layers i opened) right j layer there in
      let first : start (take i layers) j ≡ start layers j = start-take layers i j (omega arith) in
      let last : stop (take i layers) j ≡ stop layers j = start-take layers i (j + 1) (omega arith) in
      record {
        bases =
            (bases-iff layers j layer here).1
            (right.sound.rules.bases j layer there ∙ ap checksums (before layers i j (omega arith)));
        whole = passed.whole;
        commits = λ pos within.
            let commit = passed.commits pos within in
            let parents = (unrefused-iff {E = E} (take i layers) j layer pos).0 commit.parents in
            let inside : start layers j + pos < total (take i layers) =
            omega (arith, first, start-more (take i layers) j layer there, start-fits (take i layers) (j + 1)) in
            record {
              ids = commit.ids;
              asked =
                  ap (λ (o : Option (VerifyError E)). if options.distinct_ids then o else None)
                  (sym (duplicate-below j pos layer (omega arith)))
                  ∙ commit.asked;
              parents =
                  (unrefused-iff {E = E} layers j layer pos).1
                  (subst (λ (n : ℕ). AreWithin n (decoded_at layer pos)) last parents);
              generation =
                  generation-below (start layers j + pos) inside
                  (subst (λ (n : ℕ). generation_refusal {E = E} (history_of (take i layers)) (n + pos) ≡ None) first
                  commit.generation);
            };
      }

  none-below : (n k : ℕ) → k + n ≡ i
      → first_fault (layer_points_from {E = E} options layers k) ≡ first_fault (layer_points_from {E = E} options layers i)
  none-below zero k e = ap (λ (m : ℕ). first_fault (layer_points_from {E = E} options layers m)) (omega arith)
  none-below (suc n) k e =
      ⊎_elim
      (λ (found : (layer : Layer) × (k < length layers) × (slice_get layers k ≡ Some layer) × (get_or layers k layer ≡ layer)).
      ap first_fault (layer_points_from-next options layers k found.0 found.2)
      ∙ first_fault-append (layer_points options layers k found.0) (layer_points_from options layers (k + 1))
      ((layer_points-iff options layers k found.0).1 (passed-below k found.0 (omega arith) found.2))
      ∙ none-below n (k + 1) (omega arith))
      (λ (past : (length layers ≤ k) × (slice_get layers k ≡ None)). absurd (omega (arith, past.0)))
      (slice_get_cases layers k).1

  -- so the first fault of the layers above them is that of all
  pub whole_fault : first_fault (points_from {E = E} options layers i) ≡ first_fault (points_with {E = E} options layers)
  whole_fault =
      first_fault-same (error.TooManyFiles when nat_lt 256 (length layers)) (layer_points_from options layers i)
      (layer_points_from options layers 0) (sym (none-below i 0 (omega arith)))

-- the generation numbers of a right graph
pub numbered : (layers : List Layer) → Sound layers → AreNumbered (history_of layers)
unfolding expected_generation
numbered layers sound = λ k d within.
    let h = history_of layers in
    let node : Node = get_or h k d in
    let at : generation_at h k ≡ node.generation =
    ap (λ (o : Option Node). option_map_or (λ (node : Node). node.generation) o 0) (slice_get-get_or h k d within) in
    let same : generation_at h k ≡ expected_generation h k = local_from_counts h sound.generations k within in
    (omega arith, omega arith)

-- the commits below layer i of all
pub history-below : (layers : List Layer) (i : ℕ) → All IsOpened layers
    → take (start layers i) (history_of layers) ≡ history_of (take i layers)
unfolding start
history-below layers i opened =
    let a = history_of (take i layers) in
    let b = history_of (drop i layers) in
    let counted : length a ≡ start layers i = length-history (take i layers) (opened-below layers i opened) in
    ap (λ (h : List Node). take (start layers i) h) (history-split layers i)
    ∙ ap (λ (n : ℕ). take n (a ++ b)) (sym counted)
    ∙ take-append_seam a b
