use Rattle.graph_layer.specs.Commit.{commit_pos}
use Rattle.gix_commitgraph.proofs.check.GatherLemmas.{gathered-refusal, gathered-tally}
use Rattle.gix_commitgraph.proofs.graph.Graph.tally_parents.Goals as goal

pub returns-in-Some : goal.returns-in-Some
returns-in-Some g c =
    let known = rw c.in-Some.is at c.requires.gathered in record {
      refusal =
          gathered-refusal c.args.self.now c.args.span (commit_pos c.args.commit.now) c.in-Some.parents c.requires.span known;
      parents =
          gathered-tally c.args.self.now c.args.span c.args.commit.now c.args.pos.0 c.in-Some.parents c.requires.span
          c.requires.commit known;
    }
