use Rattle.std.proofs.Common.{length}
use Rattle.commit_objects.proofs.ParentLemmas.{ArePassed}
use Rattle.commit_objects.proofs.parse.after_parents.Given as goal

abbrev pub invariant-loop-kind : goal.invariant-loop-kind
invariant-loop-kind l = ArePassed l.kind l.initial.rest l.rest

abbrev pub decreases-loop-kind : goal.decreases-loop-kind
decreases-loop-kind l = length l.rest
