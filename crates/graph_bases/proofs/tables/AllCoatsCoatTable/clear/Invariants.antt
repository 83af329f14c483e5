use Rattle.std.proofs.Common.{◌≡◌, length}
use Rattle.graph_bases.specs.Sheet.{AreChanged}
use Rattle.graph_bases.proofs.tables.AllCoatsCoatTable.clear.Given as goal

abbrev pub invariant-loop-commit : goal.invariant-loop-commit
invariant-loop-commit l = record {
  len : length l.self-inside.coats.items ≡ length l.fn.self;
  are : AreChanged l.self-inside.coats.items l.self-inside.painted.items;
}

abbrev pub decreases-loop-commit : goal.decreases-loop-commit
decreases-loop-commit l = length l.self-inside.painted.items
