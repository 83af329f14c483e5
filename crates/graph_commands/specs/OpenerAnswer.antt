-- what the opener of a graph may answer
use Rattle.std.specs.Prelude.{◌≡◌, ℕ, List, Result, Option, IfOk}
use Rattle.std.specs.Option.{ForSome}
use Rattle.graph_folder.specs.Tree.{Tree}
use Rattle.graph_folder.specs.declared.folder.Folder.{Ghosts}
use Rattle.graph_format.specs.Layer.{Layer}
use Rattle.gix_commitgraph.specs.Graph.{IsGraph}
use Rattle.gix_commitgraph.specs.Opening.{Opens, MetFailureIfDevice}
use Rattle.graph_layer.specs.OpenAnswer.{IsAsExpected, failures_after_opening}
use Rattle.graph_layer.specs.declared.opening.error.OpenError.{OpenError}

-- in a call that took the count of device failures from old to new, of an opener that opens so in a known tree: that, where the
-- tree is known; and in every folder the layers of a graph, and a failed device only where one failed
abbrev pub MayOpenBy : Option Tree → (Tree → Result (List Layer) OpenError → Type 0) → ℕ → ℕ → Result (List Layer) OpenError
    → Type 0
MayOpenBy known OpensSo old new answer =
    ForSome known (λ tree. OpensSo tree answer) × IfOk answer IsGraph × MetFailureIfDevice answer old new

-- of the opener of what stands at the path
abbrev pub MayOpen : Option Tree → List ℕ → ℕ → ℕ → Result (List Layer) OpenError → Type 0
MayOpen known path old new answer = MayOpenBy known (λ tree. Opens tree path old new) old new answer

-- in a call that took a folder from old to new, given what is known of folders of its type: what stands in each, and how many
-- reads failed
abbrev pub MayOpenIn : {T : Type 0} → Ghosts T → T → T → List ℕ → Result (List Layer) OpenError → Type 0
MayOpenIn folders old new path = MayOpen (folders.tree old) path (folders.failure_count old) (folders.failure_count new)

-- and of one that opens this in a known tree, and stops at a failure
abbrev pub OpensAs : Option Tree → (Tree → Result (List Layer) OpenError) → Result (List Layer) OpenError → Type 0
OpensAs known opened answer = ForSome known (λ tree. IsAsExpected answer (opened tree)) × IfOk answer IsGraph

-- the same, in a call that took the count of device failures from old to new
abbrev pub OpensStopping : Option Tree → (Tree → Result (List Layer) OpenError) → ℕ → ℕ → Result (List Layer) OpenError → Type 0
OpensStopping known opened old new answer = OpensAs known opened answer × (new ≡ failures_after_opening answer old)
