-- what a graph that was opened is seen as
use Rattle.std.specs.Prelude.{List, Bool, true, false}
use Rattle.graph_format.specs.Layer.{Layer}
use Rattle.c_opening.specs.declared.opened.State.{State}
use Rattle.c_opening.specs.declared.opened.State.TheVariants as state

-- the layers, and whether a check has found them right
abbrev pub content_of : State → List Layer × Bool
content_of (state.Unchecked layers) = (layers, false)
content_of (state.Checked checked) = (checked.layers, true)
