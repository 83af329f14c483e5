use Rattle.std.proofs.Common.{◌≡◌, ℕ, ◌+◌, ◌-◌, length}
use Rattle.graph_bases.specs.Trails.{trail_in}
use Rattle.graph_bases.proofs.trails.Trails.grow_to.Given as goal

abbrev pub invariant-loop-self : goal.invariant-loop-self
invariant-loop-self l = (i : ℕ) → trail_in l.self.layers.items i ≡ trail_in l.initial.self.layers.items i

abbrev pub decreases-loop-self : goal.decreases-loop-self
decreases-loop-self l = (l.layer + 1) - length l.self.layers.items
