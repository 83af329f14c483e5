use Rattle.std.proofs.Common.{take}
use Rattle.gix_hash_core.specs.Oid.{oid_bytes}
use Rattle.graph_uses.specs.IdAnswers.{AreThose, IsMergedInto}
use Rattle.graph_uses.proofs.reaching.merged.Given as goal

abbrev pub invariant-loop-commit : goal.invariant-loop-commit
invariant-loop-commit l =
    AreThose (IsMergedInto l.graph.layers (oid_bytes l.into)) (take l.commit-index l.commits) l.merged.items
