use Rattle.std.proofs.Common.{◌≡◌, length}
use Rattle.graph_vectors.proofs.rows.plan_of_rows.Given as goal

-- a commit for each row so far
abbrev pub invariant-loop-byte : goal.invariant-loop-byte
invariant-loop-byte l = length l.commits.items ≡ l.byte-index
