use Rattle.std.proofs.Common.{◌≡◌, length}
use Rattle.commit_objects.specs.Time.{without_git_spaces}
use Rattle.commit_objects.proofs.time.without_git_spaces.Given as goal

abbrev pub invariant-loop-rest : goal.invariant-loop-rest
invariant-loop-rest l = without_git_spaces l.rest ≡ without_git_spaces l.initial.rest

abbrev pub decreases-loop-rest : goal.decreases-loop-rest
decreases-loop-rest l = length l.rest
