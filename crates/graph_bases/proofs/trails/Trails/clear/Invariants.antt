use Rattle.std.proofs.Common.{◌≡◌, ℕ, ◌<◌, length}
use Rattle.graph_bases.specs.Trails.{trail_at, trail_in}
use Rattle.graph_bases.specs.declared.paint.Paint.TheVariants.{Bare}
use Rattle.graph_bases.proofs.trails.Trails.clear.Given as goal

abbrev pub invariant-loop-layer : goal.invariant-loop-layer
invariant-loop-layer l = record {
  long : length l.self.layers.items ≡ l.layer-end;
  bare : (i w : ℕ) → i < l.layer → trail_at (trail_in l.self.layers.items i) w ≡ Bare;
}
