use Rattle.std.proofs.Common.{◌≡◌, length}
use Rattle.gix_commitgraph.specs.GraphRemaining.{cursor_left}
use Rattle.gix_commitgraph.proofs.iter.LayerCursor.next.Given as goal

abbrev pub invariant-loop-self : goal.invariant-loop-self
invariant-loop-self l = cursor_left l.self ≡ cursor_left l.fn.self

abbrev pub decreases-loop-self : goal.decreases-loop-self
decreases-loop-self l = length l.self.rest.now
