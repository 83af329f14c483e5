-- Why new commits have no levels, by their places. For private contracts alone.
use Rattle.std.specs.Prelude.{◌≡◌, ℕ, ◌+◌, List, Some, slice_get}
use Rattle.graph_walks.specs.History.{Node}
use Rattle.graph_walks.specs.Walks.{IsProperAncestor}
use Rattle.graph_levels.specs.OnTop.{HasOnTop}
use Rattle.graph_writer.specs.declared.commit.WriteError.{WriteError}
use Rattle.graph_writer.specs.declared.commit.WriteError.TheVariants as error
use Rattle.graph_writer.specs.declared.new_layer.NewLayer.{NewLayer}

-- the commit of this number is its own proper ancestor, in each history that has the new commits on top of so many
abbrev pub IsOnCycle : ℕ → NewLayer → ℕ → Type 0
IsOnCycle base new i =
    (p : ℕ) × (slice_get new.order.items p ≡ Some i)
    × ((history : List Node) → HasOnTop history base new.parents → IsProperAncestor history (base + p) (base + p))

-- the errors that come where the levels of the new commits are computed
abbrev pub MayHaveNoLevels : ℕ → NewLayer → WriteError → Type 0
MayHaveNoLevels base new (error.Cycle i) = IsOnCycle base new i
MayHaveNoLevels base new fault = fault ≡ error.OutOfMemory
