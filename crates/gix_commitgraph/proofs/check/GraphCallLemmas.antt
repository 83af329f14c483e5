-- The checks call on each position once, in order.
use Rattle.std.proofs.Common.{◌≡◌, ℕ, suc, ◌+◌, List, [], ◌∷◌, ◌++◌, refl, sym, ap, ◌∙◌, arith}
use Rattle.std.specs.List.{flat_map, range_with_len, enumerate_from}
use Rattle.std.proofs.lemmas.List.Sums.{sum_by-cons}
use Rattle.graph_format.specs.Layer.{Layer}
use Rattle.gix_commitgraph.specs.Graph.{total, start}
use Rattle.graph_format.specs.Points.{Point, calls}
use Rattle.gix_commitgraph.specs.Verify.{commit_points, layer_points, points_with}
use Rattle.gix_commitgraph.specs.declared.verify.VerifyError.{VerifyError}
use Rattle.gix_commitgraph.specs.declared.verify.VerifyOptions.{VerifyOptions}
use Rattle.gix_commitgraph.proofs.layers.LayerListLemmas.{size, start-none, start-cons}
use Rattle.graph_format.proofs.PointLemmas.{calls-append}
use Rattle.graph_format.proofs.CallRangeLemmas.{range-append, calls-range}

module _ (E : Type 0) (options : VerifyOptions) where
  calls-layer_at : (layers : List Layer) (i : ℕ) (layer : Layer)
      → calls (layer_points {E = E} options layers i layer) ≡ range_with_len (start layers i) (size layer)
  calls-layer_at layers i layer =
      calls-range (commit_points options layers i layer) (start layers i) (λ pos. refl) 0 (size layer)
      ∙ ap (λ (p : ℕ). range_with_len p (size layer)) (omega arith)

  -- the layers from layer i on, which are the last of all
  calls-layers : (layers rest : List Layer) (i : ℕ) → ((j : ℕ) → start layers (i + j) ≡ start layers i + start rest j)
      → calls (flat_map (λ e. layer_points {E = E} options layers e.0 e.1) (enumerate_from i rest))
      ≡ range_with_len (start layers i) (total rest)
  calls-layers layers [] i follow = refl
  calls-layers layers (layer ∷ rest) i follow =
      let later : List (Point (VerifyError E)) =
      flat_map (λ e. layer_points {E = E} options layers e.0 e.1) (enumerate_from (i + 1) rest) in
      let next : start layers (i + 1) ≡ start layers i + size layer =
      follow 1 ∙ ap (λ (n : ℕ). start layers i + n) (start-cons layer rest 0 ∙ ap (λ (n : ℕ). size layer + n) (start-none rest)
      ∙ omega arith) in
      let follow_next : (j : ℕ) → start layers (i + 1 + j) ≡ start layers (i + 1) + start rest j =
      λ j. ap (start layers) (omega arith) ∙ follow (suc j) ∙ omega (arith, next, start-cons layer rest j) in
      calls-append (layer_points options layers i layer) later
      ∙ ap (λ (ps : List ℕ). ps ++ calls later) (calls-layer_at layers i layer)
      ∙ ap (λ (ps : List ℕ). range_with_len (start layers i) (size layer) ++ ps) (calls-layers layers rest (i + 1) follow_next)
      ∙ ap (λ (p : ℕ). range_with_len (start layers i) (size layer) ++ range_with_len p (total rest)) next
      ∙ range-append (start layers i) (size layer) (total rest)
      ∙ ap (range_with_len (start layers i)) (sym (sum_by-cons size layer rest))

  -- the check of a graph
  pub calls-graph : (layers : List Layer) → calls (points_with {E = E} options layers) ≡ range_with_len 0 (total layers)
  calls-graph layers =
      let none : start layers 0 ≡ 0 = start-none layers in
      let follow : (j : ℕ) → start layers (0 + j) ≡ start layers 0 + start layers j =
      λ j. let same : 0 + j ≡ j = omega arith in ap (start layers) same ∙ omega (arith, none) in
      calls-layers layers layers 0 follow ∙ ap (λ (p : ℕ). range_with_len p (total layers)) none
