-- What the lookup of an id by parts answers.
use Rattle.std.specs.Prelude.{List, ℕ, ◌<◌, Some, None}
use Rattle.graph_format.specs.Layer.{Layer}
use Rattle.graph_format.specs.Lookup.{Found}
use Rattle.gix_commitgraph.specs.GraphLookup.{FoundIn}
use Rattle.graph_parts.specs.declared.lookup.Lookup.{Lookup}
use Rattle.graph_parts.specs.declared.lookup.Lookup.TheVariants.{Found as found_at, Missing, NotByParts}

-- an answer of the lookup in a layer
abbrev pub LooksUpInLayer : Layer → List ℕ → Lookup → Type 0
LooksUpInLayer layer id (found_at pos) = Found layer id (Some pos.0)
LooksUpInLayer layer id Missing = Found layer id None
LooksUpInLayer layer id NotByParts = Unit

-- in a graph; nothing is said of what is not read by parts
abbrev pub LooksUp : List Layer → List ℕ → Lookup → Type 0
LooksUp layers id (found_at pos) = FoundIn layers id (Some pos.0)
LooksUp layers id Missing = FoundIn layers id None
LooksUp layers id NotByParts = Unit

-- a position that is found is one of so many commits
abbrev pub LiesWithin : ℕ → Lookup → Type 0
LiesWithin count (found_at pos) = pos.0 < count
LiesWithin count Missing = Unit
LiesWithin count NotByParts = Unit
