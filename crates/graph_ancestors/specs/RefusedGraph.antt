-- why a graph that is checked is refused
use Rattle.std.specs.Prelude.{◌≡◌, List, Some, ⊤}
use Rattle.graph_format.specs.Layer.{Layer}
use Rattle.graph_format.specs.Points.{first_fault}
use Rattle.gix_commitgraph.specs.Sound.{Sound}
use Rattle.gix_commitgraph.specs.Verify.{graph_points}
use Rattle.gix_commitgraph.specs.declared.verify.VerifyError.{VerifyError}
use Rattle.gix_commitgraph.specs.declared.verify.VerifyError.TheVariants as error
use Rattle.graph_ancestors.specs.declared.checking.NoFault.{NoFault}

-- the errors that the check of a graph may answer where the processor accepts each commit: the first fault, and then the graph is
-- not right; or that an allocation failed
abbrev pub MayRefuseGraph : List Layer → VerifyError NoFault → Type 0
MayRefuseGraph layers (error.Processor pos e) = ⊥
MayRefuseGraph layers error.OutOfMemory = ⊤
MayRefuseGraph layers x = (first_fault (graph_points layers) ≡ Some x) × (¬ Sound layers)
