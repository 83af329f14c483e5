-- What an opener may answer of graphs that were read, whatever others wrote meanwhile.
use Rattle.std.specs.Prelude.{ℕ, List, Option, Result, IfOk}
use Rattle.graph_folder.specs.Tree.{Tree}
use Rattle.graph_format.specs.Layer.{Layer}
use Rattle.graph_layer.specs.declared.opening.error.OpenError.{OpenError}
use Rattle.gix_commitgraph.specs.WasRead.{PathWasRead}
use Rattle.graph_commands.specs.OpenerAnswer.{MayOpen}

-- an answer that may be; and where it is a graph, its layers were read so
abbrev pub OpensAsRead : (Result (List Layer) OpenError → Type 0) → (List Layer → Type 0) → Result (List Layer) OpenError
    → Type 0
OpensAsRead MayOpen WereRead answer = MayOpen answer × IfOk answer WereRead

-- that of the opener of what stands at the path: each layer is a file that was there, as a read of its path gave it
abbrev pub MayOpenAsRead : Option Tree → (List ℕ → List ℕ → Type 0) → List ℕ → ℕ → ℕ → Result (List Layer) OpenError → Type 0
MayOpenAsRead known gives path old new answer = OpensAsRead (MayOpen known path old new) (PathWasRead gives path) answer
