-- positions of commits as the numbers that histories speak of
use Rattle.std.specs.Prelude.{ℕ, List, map}
use Rattle.graph_format.specs.declared.Position.{Position}

abbrev pub numbers_of : List Position → List ℕ
numbers_of positions = map (λ pos. pos.0) positions
