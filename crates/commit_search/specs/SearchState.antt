-- What a search along parents has reached, and over which words of the extra edge lists it has gone. For private contracts alone.
use Rattle.std.specs.Prelude.{ℕ, List}
use Rattle.commit_search.specs.Marks.{Marking}

pub record SearchState : Type 0 where
  -- the generation number of the commit that is looked for
  pub least : ℕ
  -- the commits that were reached, in the order in which they were
  pub reached : Marking
  -- the words of each layer's list that were gone over
  pub words : List Marking
