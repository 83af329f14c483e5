-- The ids so far are at the positions that were found.
use Rattle.std.proofs.Common.{◌<◌, All, take}
use Rattle.std.specs.List.{AllZip}
use Rattle.graph_format.specs.declared.Position.{Position}
use Rattle.gix_commitgraph.specs.Graph.{total}
use Rattle.commit_search.specs.Positions.{numbers_of}
use Rattle.answers.specs.FoundOf.{FindsAt}
use Rattle.history_commands.specs.CheckedReplies.{Scans}
use Rattle.history_commands.proofs.found.find_all.Given as goal

abbrev pub invariant-loop-id : goal.invariant-loop-id
invariant-loop-id l = record {
  found : AllZip (FindsAt (Scans l.graph.layers)) (take l.id-index l.ids) (numbers_of l.found.items);
  within : All (λ (pos : Position). pos.0 < total l.graph.layers) l.found.items;
}
