use Rattle.std.proofs.Common.{arith}
use Rattle.graph_objects.proofs.CommitWalkLemmas.{leads, reaches}
use Rattle.graph_objects.proofs.law.walks_of_a_graph_that_matches_are_those_along_parent_lines.Goals as goal

pub returns : goal.returns
returns c = record {
  only = λ layers kind bytes stream p q opened alike.
      leads layers kind stream.contents opened alike stream.agree (omega (arith, stream.counted)) p q;
  exactly = λ layers kind bytes stream p q opened alike distinct p_within q_within. (
    leads layers kind stream.contents opened alike stream.agree (omega (arith, stream.counted)) p q,
    reaches layers kind stream.contents opened alike stream.agree (omega (arith, stream.counted)) distinct p q p_within q_within,
  );
}
