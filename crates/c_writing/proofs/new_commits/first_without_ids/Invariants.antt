-- The commits that were looked at have ids.
use Rattle.std.proofs.Common.{All, take}
use Rattle.c_writing.specs.HandedIn.{HaveIds}
use Rattle.c_writing.specs.SaidCommits.{HasFewParents}
use Rattle.c_writing.proofs.new_commits.first_without_ids.Given as goal

abbrev pub invariant-loop-number : goal.invariant-loop-number
invariant-loop-number l = record {
  ids : HaveIds (take l.number l.commits);
  few : All HasFewParents (take l.number l.commits);
}
