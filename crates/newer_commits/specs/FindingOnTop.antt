-- What looking up an id answers, in a base and among the newer commits; and which ids these have.
use Rattle.std.specs.Prelude.{◌⊎◌, ◌<◌, ℕ, List, Contains, Option, Some, None}
use Rattle.newer_commits.specs.CommitsOnTop.{CommitsOnTop, ids_on_top, StandsOnTop}

-- the base answers where it has the id, and else the newer commits, in which no id stands that the base has
abbrev pub Finds : (List ℕ → Option ℕ → Type 0) → CommitsOnTop → List ℕ → Option ℕ → Type 0
Finds base top id None = base id None × (¬ Contains (ids_on_top top) id)
Finds base top id (Some p) = (base id (Some p) × (p < top.below)) ⊎ (base id None × StandsOnTop top id p)

-- the commit at a position has this id: that which the base tells, or that of a newer commit
abbrev pub HasId : (ℕ → List ℕ → Type 0) → CommitsOnTop → ℕ → List ℕ → Type 0
HasId base top p id = ((p < top.below) × base p id) ⊎ StandsOnTop top id p
