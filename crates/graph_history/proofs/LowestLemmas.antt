-- The lowest layers of a graph that keeps what a check asks for keep it too.
use Rattle.std.proofs.Common.{◌≡◌, ℕ, ◌+◌, ◌<◌, ◌≤◌, min, List, [], ◌∷◌, ◌++◌, map, length, take, drop, slice_get, All}
use Rattle.std.proofs.Common.{Option, Some, None, refl, sym, ap, subst, ◌∙◌, arith, length-append}
use Rattle.std.specs.List.{flat_map}
use Rattle.std.specs.Option.{option_map}
use Rattle.std.specs.Option.{option_map_or}
use Rattle.std.proofs.lemmas.Grind.{flat_map-append}
use Rattle.std.proofs.lemmas.List.{take-take, take-append-drop, length-take-le, get_or-take}
use Rattle.std.proofs.lemmas.List.Elements.{All-take, All-head, All-tail, All-map, All-nil}
use Rattle.std.proofs.lemmas.Option.{slice_get-get_or, slice_get_within, get_or_from_slice_get}
use Rattle.graph_walks.specs.Counts.{greatest}
use Rattle.graph_walks.specs.Generations.{expected_generation, AreLocal}
use Rattle.graph_walks.specs.History.{Node, generation_at, parents_at}
use Rattle.graph_walks.specs.declared.TheConstants.{GENERATION_NUMBER_MAX}
use Rattle.graph_walks.proofs.WalkLemmas.{counts_from_local, local_from_counts}
use Rattle.graph_format.specs.Layer.{Layer, IsOpened}
use Rattle.graph_format.specs.RightLayer.{IsRightLayer}
use Rattle.graph_format.specs.StoredHistory.{history_of, layer_history}
use Rattle.graph_format.specs.declared.Position.{Position}
use Rattle.gix_commitgraph.specs.Distinct.{IsSoundWith}
use Rattle.gix_commitgraph.specs.Graph.{graph_commits, graph_ids, start, total}
use Rattle.gix_commitgraph.specs.Sound.{AreParentsKnown, LayerRules, Sound}
use Rattle.gix_commitgraph.specs.Tallies.{decoded_at}
use Rattle.gix_commitgraph.specs.declared.verify.VerifyOptions.{VerifyOptions}
use Rattle.gix_commitgraph.proofs.history.HistoryLemmas.{node_at, history-told, length-history, parents-at}
use Rattle.gix_commitgraph.proofs.history.KnownParentLemmas.{known-at}
use Rattle.gix_commitgraph.proofs.layers.GraphLemmas.{commit-lies}
use Rattle.gix_commitgraph.proofs.layers.LayerListLemmas.{get-front, start-fits, start-more}
use Rattle.gix_commitgraph.proofs.lookup.DuplicateLemmas.{start-take}
use Rattle.gix_commitgraph.proofs.lookup.ElementLemmas.{all-at}
use Rattle.graph_history.proofs.BelowLemmas.{generation_stays, parents_stay}

-- a layer of the lowest is one of all, at its place
pub lowest-layer : (layers : List Layer) (n i : ℕ) (layer : Layer) → n ≤ length layers
    → slice_get (take n layers) i ≡ Some layer → (i < n) × (slice_get layers i ≡ Some layer)
lowest-layer layers n i layer fits here =
    let below : i < n =
    omega (arith, slice_get_within (take n layers) i layer here, length-take-le n layers fits) in (
      below,
      slice_get-get_or layers i layer (omega (arith, below, fits))
          ∙ ap (λ (l : Layer). Some l)
          (sym (get_or-take n layers i layer below) ∙ get_or_from_slice_get (take n layers) i layer layer here),
    )

generations-front : (a b : List Node) (ps : List ℕ) → All (λ p. p < length a) ps
    → map (generation_at (a ++ b)) ps ≡ map (generation_at a) ps
generations-front a b [] within = refl
generations-front a b (p ∷ ps) within =
    ap (λ (n : ℕ). n ∷ map (generation_at (a ++ b)) ps) (generation_stays a b p (All-head (λ q. q < length a) p ps within))
    ∙ ap (λ (ns : List ℕ). generation_at a p ∷ ns) (generations-front a b ps (All-tail (λ q. q < length a) p ps within))

-- what is expected of a commit whose parents are among the first
expected-front : (a b : List Node) (p : ℕ) → p < length a → All (λ q. q < length a) (parents_at a p)
    → expected_generation (a ++ b) p ≡ expected_generation a p
unfolding expected_generation
expected-front a b p within parents =
    ap (λ (ps : List ℕ). min GENERATION_NUMBER_MAX (1 + greatest (map (generation_at (a ++ b)) ps))) (parents_stay a b p within)
    ∙ ap (λ (ns : List ℕ). min GENERATION_NUMBER_MAX (1 + greatest ns)) (generations-front a b (parents_at a p) parents)

history-split : (layers : List Layer) (n : ℕ) → history_of layers ≡ history_of (take n layers) ++ history_of (drop n layers)
unfolding history_of
history-split layers n =
    ap (λ (ls : List Layer). flat_map layer_history ls) (sym (take-append-drop n layers))
    ∙ flat_map-append layer_history (take n layers) (drop n layers)

module _ (layers : List Layer) (n : ℕ) (opened : All IsOpened layers) (fits : n ≤ length layers) (sound : Sound layers) where
  opened-lowest : All IsOpened (take n layers)
  opened-lowest = All-take IsOpened n layers opened

  rules-lowest : LayerRules (take n layers)
  rules-lowest = record {
    few = omega (arith, length-take-le n layers fits, sound.rules.few, fits);
    bases = λ i layer here.
        let all = lowest-layer layers n i layer fits here in
        sound.rules.bases i layer all.1
        ∙ ap (λ (ls : List Layer). map (λ (l : Layer). l.checksum) ls) (sym (take-take i n layers (omega (arith, all.0))));
    each = All-take IsRightLayer n layers sound.rules.each;
  }

  parents-lowest : (i : ℕ) (layer : Layer) → slice_get (take n layers) i ≡ Some layer → AreParentsKnown (take n layers) i layer
  parents-lowest i layer here =
      let all = lowest-layer layers n i layer fits here in
      let known = sound.parents i layer all.1 in
      let same : start (take n layers) (i + 1) ≡ start layers (i + 1) = start-take layers n (i + 1) (omega (arith, all.0)) in
      record {
        decoded = known.decoded;
        within = λ k d h j e g. omega (arith, same, known.within k d h j e g);
      }

  there-at : (p : ℕ) (o : Option (Layer × ℕ)) → slice_get (graph_commits (take n layers)) p ≡ o
      → All (λ q. q < total (take n layers)) (parents_at (history_of (take n layers)) p)
  there-at p None here =
      let none = history-told (take n layers) p opened-lowest ∙ ap (option_map node_at) here in
      subst (λ (qs : List ℕ). All (λ q. q < total (take n layers)) qs)
      (sym (ap (λ o. option_map_or (λ (node : Node). node.parents) o []) none))
      (All-nil (λ q. q < total (take n layers)))
  there-at p (Some (layer, pos)) here =
      let place = commit-lies (take n layers) p pos layer here in
      let lies = place.1 in
      let known =
      known-at (take n layers) place.0 pos layer (all-at IsOpened (take n layers) place.0 layer opened-lowest lies.there)
      (parents-lowest place.0 layer lies.there)
      (omega (arith, place.2, lies.from, lies.below, start-more (take n layers) place.0 layer lies.there)) in
      subst (λ (qs : List ℕ). All (λ q. q < total (take n layers)) qs)
      (sym (parents-at (take n layers) p pos layer opened-lowest here))
      (All-map (λ q. q < total (take n layers)) (λ (q : Position). q.0) (decoded_at layer pos).positions
      (λ k d h. omega (arith, known.below k d h, start-fits (take n layers) (place.0 + 1))))

  local-lowest : AreLocal (history_of (take n layers))
  local-lowest p within =
      let a = history_of (take n layers) in
      let b = history_of (drop n layers) in
      let counted : length a ≡ total (take n layers) = length-history (take n layers) opened-lowest in
      let closed : All (λ q. q < length a) (parents_at a p) =
      subst (λ (m : ℕ). All (λ q. q < m) (parents_at a p)) (sym counted)
      (there-at p (slice_get (graph_commits (take n layers)) p) refl) in
      let long : p < length (history_of layers) =
      omega (arith, within, ap length (history-split layers n), length-append a b) in
      let whole : generation_at (a ++ b) p ≡ expected_generation (a ++ b) p =
      subst (λ (h : List Node). generation_at h p ≡ expected_generation h p) (history-split layers n)
      (local_from_counts (history_of layers) sound.generations p long) in
      sym (generation_stays a b p within) ∙ whole ∙ expected-front a b p within closed

  pub sound-lowest : Sound (take n layers)
  sound-lowest = record {
    rules = rules-lowest;
    parents = parents-lowest;
    generations = counts_from_local (history_of (take n layers)) local-lowest;
  }

-- an id of the lowest layers stands at the same position of all
ids-lowest : (layers : List Layer) (n p : ℕ) (id : List ℕ) → slice_get (graph_ids (take n layers)) p ≡ Some id
    → slice_get (graph_ids layers) p ≡ Some id
ids-lowest layers n p id here =
    ap (λ (ls : List Layer). slice_get (graph_ids ls) p) (sym (take-append-drop n layers))
    ∙ ap (λ (ids : List (List ℕ)). slice_get ids p) (flat_map-append (λ (l : Layer). l.ids) (take n layers) (drop n layers))
    ∙ get-front (graph_ids (take n layers)) (graph_ids (drop n layers)) p
    (slice_get_within (graph_ids (take n layers)) p id here)
    ∙ here

pub lowest_right : (options : VerifyOptions) (layers : List Layer) (n : ℕ) → All IsOpened layers → n ≤ length layers
    → IsSoundWith options layers → IsSoundWith options (take n layers)
lowest_right options layers n opened fits right = record {
  sound = sound-lowest layers n opened fits right.sound;
  distinct = λ asked p q id at_p at_q.
      right.distinct asked p q id (ids-lowest layers n p id at_p) (ids-lowest layers n q id at_q);
}
