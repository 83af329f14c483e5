use Rattle.std.proofs.Common.{Contains, take}
use Rattle.commit_requests.proofs.completing.number_of.Given as goal

-- it is none of the first
abbrev pub invariant-loop-number : goal.invariant-loop-number
invariant-loop-number l = ¬ Contains (take l.number l.ids) l.id
