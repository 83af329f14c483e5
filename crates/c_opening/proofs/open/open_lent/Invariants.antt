use Rattle.std.proofs.Common.{take}
use Rattle.c_opening.specs.Files.{AreLayersOf}
use Rattle.c_opening.proofs.open.open_lent.Given as goal

abbrev pub invariant-loop-file : goal.invariant-loop-file
invariant-loop-file l = AreLayersOf (take l.file-index l.files) l.layers.items
