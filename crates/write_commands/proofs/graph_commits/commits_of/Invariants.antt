-- The commits so far are those at the positions below.
use Rattle.std.proofs.Common.{◌≡◌, ℕ, Some, length, slice_get}
use Rattle.graph_writer.specs.declared.commit.NewCommit.{NewCommit}
use Rattle.write_commands.specs.GraphCommits.{IsCommitAt}
use Rattle.write_commands.proofs.graph_commits.commits_of.Given as goal

abbrev pub invariant-loop-number : goal.invariant-loop-number
invariant-loop-number l = record {
  as_many : length l.commits.items ≡ l.number;
  each : (p : ℕ) (commit : NewCommit) → slice_get l.commits.items p ≡ Some commit → IsCommitAt l.graph.layers p commit;
}
