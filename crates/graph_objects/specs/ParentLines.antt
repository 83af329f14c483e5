-- The lines of a commit that name the parents of its record.
use Rattle.std.specs.Prelude.{◌≡◌, ℕ, List, Result}
use Rattle.gix_hash_core.specs.declared.kind.Kind.{Kind}
use Rattle.graph_format.specs.Layer.{Layer}
use Rattle.graph_format.specs.declared.Position.{Position}
use Rattle.graph_format.specs.declared.parents.ParentError.{ParentError}
use Rattle.gix_commitgraph.specs.Graph.{graph_ids}
use Rattle.commit_objects.specs.Lines.{AreLinesAndRest}
use Rattle.graph_objects.specs.Matching.{ids_of_items, each_known}

-- the bytes are a line for each of these parents, with its id, and this rest
abbrev pub NamesInLines : List Layer → Kind → List (Result Position ParentError) → List ℕ → List ℕ → Type 0
NamesInLines layers kind items bytes rest =
    (ids : List (List ℕ)) × (ids_of_items (graph_ids layers) items ≡ each_known ids) × AreLinesAndRest kind bytes ids rest
