-- It is the greatest generation number of the layers so far.
use Rattle.std.proofs.Common.{◌≡◌, take}
use Rattle.graph_walks.specs.Counts.{greatest}
use Rattle.graph_walks.specs.History.{generations}
use Rattle.graph_format.specs.StoredHistory.{history_of}
use Rattle.show_commands.proofs.run.greatest_generation.Given as goal

abbrev pub invariant-loop-file : goal.invariant-loop-file
invariant-loop-file l = l.greatest ≡ greatest (generations (history_of (take l.file-index l.graph)))
