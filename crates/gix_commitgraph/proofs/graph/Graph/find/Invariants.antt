use Rattle.std.proofs.Common.{take}
use Rattle.gix_hash_core.specs.Oid.{oid_bytes}
use Rattle.gix_commitgraph.proofs.lookup.GraphLookupLemmas.{IsMissed}
use Rattle.gix_commitgraph.proofs.graph.Graph.find.Given as goal

-- no layer so far finds the id
abbrev pub invariant-loop-below : goal.invariant-loop-below
invariant-loop-below l = IsMissed (take l.layer l.self) (oid_bytes l.id) l.below
