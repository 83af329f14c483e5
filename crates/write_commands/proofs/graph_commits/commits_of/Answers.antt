-- The commit at one position more is added.
use Rattle.std.proofs.Common.{◌+◌, ℕ, List, length, slice_get, sym, ap, ◌∙◌}
use Rattle.std.proofs.lemmas.List.{length_push}
use Rattle.graph_writer.specs.declared.commit.NewCommit.{NewCommit}
use Rattle.graph_writer.proofs.positions.LoopSteps.{more-places}
use Rattle.write_commands.specs.GraphCommits.{IsCommitAt}
use Rattle.write_commands.proofs.graph_commits.commits_of.Goals as goal

pub loop-number-preserved : goal.loop-number-preserved
loop-number-preserved c =
    let inv = c.loop-number.invariant in
    record {
      as_many = ap length c.in_ok-push.ensures.items ∙ length_push _ _ ∙ ap (λ (n : ℕ). n + 1) inv.as_many;
      each = λ p commit at.
          more-places (IsCommitAt c.args.graph.now.layers) c.loop-number.commits.items _ c.loop-number.number inv.as_many
          inv.each c.in_ok-commit_at.ensures p commit
          (ap (λ (commits : List NewCommit). slice_get commits p) (sym c.in_ok-push.ensures.items) ∙ at);
    }
