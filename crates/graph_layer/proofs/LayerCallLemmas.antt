-- The check of a layer calls on each position once, in order.
use Rattle.std.proofs.Common.{◌≡◌, ℕ, [], ◌∷◌, length, ap, ◌∙◌, arith}
use Rattle.std.specs.List.{range_with_len}
use Rattle.graph_format.specs.Layer.{Layer}
use Rattle.graph_format.specs.Points.{calls}
use Rattle.graph_layer.specs.Traverse.{traverse_points_at, traverse_points}
use Rattle.graph_format.proofs.CallRangeLemmas.{calls-range}

module _ (E : Type 0) where
  -- the check of one layer
  pub calls-layer : (layer : Layer) → calls (traverse_points {E = E} layer) ≡ range_with_len 0 (length layer.ids)
  calls-layer layer =
      calls-range (traverse_points_at layer) 0 (λ pos. ap (λ (p : ℕ). p ∷ []) (omega arith)) 0 (length layer.ids)
      ∙ ap (λ (p : ℕ). range_with_len p (length layer.ids)) (omega arith)
