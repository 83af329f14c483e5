use Rattle.std.proofs.Common.{◌≡◌, take}
use Rattle.gix_commitgraph.specs.IdWalks.{ids_at}
use Rattle.commit_search.specs.Positions.{numbers_of}
use Rattle.history_commands.proofs.found.ids_of.Given as goal

abbrev pub invariant-loop-pos : goal.invariant-loop-pos
invariant-loop-pos l = l.ids.items ≡ ids_at l.graph.layers (numbers_of (take l.pos-index l.positions))
