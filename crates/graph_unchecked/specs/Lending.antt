-- A trusted graph is what was read of its parts, once they are given back.
use Rattle.std.specs.Borrow.{Fml, Lends, MutBor}
use Rattle.graph_parts.specs.contracts.parts.GraphParts.{the_row as parts_row}
use Rattle.graph_parts.specs.declared.parts.GraphParts.{GraphParts}
use Rattle.graph_unchecked.specs.contracts.trusted.TrustedGraph.{the_row}

abbrev pub LendsParts : MutBor GraphParts → MutBor GraphParts → Fml
LendsParts graph parts = Lends the_row parts_row graph parts (λ left. left)
