use Rattle.std.proofs.Common.{◌≡◌, ◌+◌, ◌<◌, length, List, refl, sym, ◌∙◌, arith}
use Rattle.graph_walks.specs.Counts.{greatest}
use Rattle.graph_walks.specs.History.{Node, generations}
use Rattle.gix_commitgraph.specs.Statistics.{AreNumbered}
use Rattle.gix_commitgraph.specs.Verify.{Summarizes}
use Rattle.gix_commitgraph.proofs.check.OutcomeLemmas.{greatest-capped, greatest_of_none, greatest_of_edges, greatest_at_cap}
use Rattle.gix_commitgraph.proofs.verify.statistics.Statistics.from_outcome.Goals.{in-Some, in-Some-2, in-None}
use Rattle.gix_commitgraph.proofs.verify.statistics.Statistics.from_outcome.Goals as goal

pub returns : goal.returns
returns c = λ (seen : List Node) (numbered : AreNumbered seen) (sums : Summarizes seen c.args.outcome.now). record {
  max_generation = elim c.match-outcome.branch [
    | in-Some w ↦
        w.max_generation-is ∙ sym (greatest_of_none seen (sym sums.num_commits ∙ w.if-outcome-eq0.true))
    | in-Some-2 w ↦
        let some : 0 < length seen = omega (arith, sums.num_commits, w.if-outcome-eq0.false) in
        let edges : w.in-Some-2.edges + 1 ≡ greatest (generations seen) =
        greatest_of_edges seen w.in-Some-2.edges numbered some (sym sums.longest_path_length ∙ w.in-Some-2.is) in
        omega (arith, w.max_generation-is, w.saturating_add-max_generation.ensures, edges, greatest-capped seen numbered)
    | in-None w ↦
        w.max_generation-is ∙ greatest_at_cap seen numbered (sym sums.longest_path_length ∙ w.in-None.is)
  ];
  num_commits = sums.num_commits;
  parent_counts = λ k.
      c.from_map.ensures k
      ∙ rw c.in_ok-try_clone.ensures.parent_counts refl
      ∙ sums.parent_counts k;
}
