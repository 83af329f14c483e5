use Rattle.std.proofs.Common.{map, ap, ◌∙◌}
use Rattle.gix_commitgraph.specs.GraphRemaining.{id_of}
use Rattle.gix_commitgraph.proofs.layers.PositionLemmas.{ids-of_commits}
use Rattle.gix_commitgraph.proofs.iter.GraphIds.new.Goals as goal

pub returns : goal.returns
returns c = ap (map id_of) c.new.ensures ∙ ids-of_commits c.args.graph.now
