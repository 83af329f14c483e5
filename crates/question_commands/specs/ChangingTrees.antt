-- What stands at each path, where others change it.
use Rattle.std.specs.Prelude.{ℕ, zero, suc, List, Option}
use Rattle.graph_folder.specs.Tree.{Tree}
use Rattle.question_commands.specs.ReadOpening.{MayOpenAsRead}
use Rattle.question_answers.specs.Taken.{Opener}

-- What the opener may answer each time that a path is opened; the first time has number 0.
abbrev pub Openings : Type 1
Openings = ℕ → Opener

-- what stands after so many turns of others: what they make, in each turn, of that which stood before it
abbrev pub tree_after : (ℕ → Option Tree → Option Tree) → Option Tree → ℕ → Option Tree
tree_after makes tree zero = tree
tree_after makes tree (suc turns) = makes turns (tree_after makes tree turns)

-- what the opener may answer at a path each time, where others have a turn before each time but the first; and each time the
-- layers of a graph are files that were there, as reads gave them, which others may change while the opener reads
abbrev pub MayOpenAmong : (ℕ → Option Tree → Option Tree) → Option Tree → (List ℕ → List ℕ → Type 0) → List ℕ → Openings
MayOpenAmong makes tree gives path time = MayOpenAsRead (tree_after makes tree time) gives path
