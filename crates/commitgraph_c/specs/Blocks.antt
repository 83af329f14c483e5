-- what the calls answer that tell of many commits at a time
use Rattle.std.specs.Prelude.{◌≡◌, ℕ, ◌-◌, ◌^◌, zero, suc, List, [], ◌∷◌, Option, drop, length, map, min, nat_le, if◌then◌else◌}
use Rattle.std.specs.Prelude.{option_map, unwrap_or}
use Rattle.std.specs.List.{flat_map}
use Rattle.std.specs.Option.{option_map_or}
use Rattle.graph_format.specs.Layer.{Layer}
use Rattle.commit_search.specs.Positions.{numbers_of}
use Rattle.gix_commitgraph.specs.Graph.{graph_commits}
use Rattle.commitgraph_c.specs.QueryAnswers.{parents_in}
use Rattle.c_opening.specs.Answers.{written}
use Rattle.c_opening.specs.Codes.{parent_code}
use Rattle.commitgraph_c.specs.declared.blocks.CgBlock.{CgBlock}
use Rattle.commitgraph_c.specs.declared.parents.CgParents.{CgParents}

-- the commits of a graph from a position on; none where no graph is open
abbrev pub commits_from : Option (List Layer) → ℕ → List (Layer × ℕ)
commits_from layers first = drop first (option_map_or graph_commits layers [])

-- what is told of the parents of a commit, as by TellsParents
abbrev pub told_parents : Layer × ℕ → CgParents
told_parents commit =
    record {
      code = unwrap_or (option_map parent_code (parents_in commit).fault) 0;
      count = min (length (parents_in commit).positions) (2 ^ 64 - 1);
    }

-- their positions, as numbers
abbrev pub parent_positions : Layer × ℕ → List ℕ
parent_positions commit = numbers_of (parents_in commit).positions

-- The commits that a block tells of, in a room of so many commits and one of so many parents: the first ones, as many as there
-- is room for, up to and with the first whose parents do not fit.
abbrev pub block_of : ℕ → ℕ → List (Layer × ℕ) → List (Layer × ℕ)
block_of zero room commits = []
block_of (suc places) room [] = []
block_of (suc places) room (commit ∷ commits) =
    let parents = length (parent_positions commit) in
    commit ∷ (if nat_le parents room then block_of places (room - parents) commits else [])

-- A block tells of these commits: what is told of the parents of each, and the positions of all, one commit's after another's;
-- and how many commits and positions these are, of the latter the greatest number of 64 bits where there are more.
pub record TellsBlock (told : List (Layer × ℕ)) (block : CgBlock) (answers answered : List CgParents) (old new : List ℕ)
    : Type 0 where
  pub commits : block.commits ≡ length told
  pub length_of : block.length ≡ min (length (flat_map parent_positions told)) (2 ^ 64 - 1)
  pub answers_of : answered ≡ written (map told_parents told) answers
  pub room : new ≡ written (flat_map parent_positions told) old
