-- The layers so far have dates.
use Rattle.std.proofs.Common.{All, take}
use Rattle.graph_parts.proofs.OffsetLemmas.{ShowsDates}
use Rattle.graph_parts.proofs.parts.GraphParts.has_dates.Given as goal

abbrev pub invariant-loop-part : goal.invariant-loop-part
invariant-loop-part l = All ShowsDates (take l.part-index l.self.layers.items)
