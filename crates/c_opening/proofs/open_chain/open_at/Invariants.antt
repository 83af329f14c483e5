use Rattle.std.proofs.Common.{take}
use Rattle.c_opening.specs.Chain.{files_at}
use Rattle.c_opening.specs.Files.{AreLayersOf}
use Rattle.c_opening.proofs.open_chain.open_at.Given as goal

abbrev pub invariant-loop-place : goal.invariant-loop-place
invariant-loop-place l = AreLayersOf (take l.place-index (files_at l.files l.places)) l.layers.items
