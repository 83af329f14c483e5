-- The parts so far are those of the files before the ones that are left.
use Rattle.graph_parts.proofs.OpeningLemmas.{FilesSplit}
use Rattle.graph_parts.proofs.opening.parts_of.Given as goal

abbrev pub invariant-loop-file : goal.invariant-loop-file
invariant-loop-file l = record {
  can_next : (goal.iterator-loop-file).can_next l.file-iterator;
  is_finite : (goal.iterator-loop-file).is_finite l.file-iterator;
  split : FilesSplit l.fn.files.items l.layers.items l.file-iterator.rest.items;
}
