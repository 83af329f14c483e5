use Rattle.std.proofs.Common.{◌≡◌, ◌-◌, length}
use Rattle.graph_bases.specs.Trails.{AreTrailStarts}
use Rattle.graph_bases.proofs.TrailLemmas.{AreTrailStartsBut}
use Rattle.graph_bases.proofs.trails.Trail.clear.Given as goal

abbrev pub invariant-loop-at : goal.invariant-loop-at
invariant-loop-at l = record {
  same : l.self-inside.starts.items ≡ l.initial.self-inside.starts.items;
  starts : AreTrailStartsBut l.self-inside.words.items l.self-inside.starts.items l.at;
}

abbrev pub decreases-loop-at : goal.decreases-loop-at
decreases-loop-at l = length l.self-inside.words.items - l.at

abbrev pub invariant-loop-start : goal.invariant-loop-start
invariant-loop-start l = AreTrailStarts l.self-inside.words.items l.self-inside.starts.items

abbrev pub decreases-loop-start : goal.decreases-loop-start
decreases-loop-start l = length l.self-inside.starts.items
