-- The parents of some commits, first parent first ("parent" in Git's commit objects): for each commit a list of positions.
use Rattle.std.specs.Prelude.{ℕ, List, length, slice_index, slice_range}
use Rattle.graph_levels.specs.declared.lists.ParentLists.{ParentLists}
use Rattle.graph_levels.specs.ListEnds.{start_in}

-- how many commits there are
abbrev pub commit_count : ParentLists → ℕ
commit_count lists = length lists.ends.items

-- the parents of the commit of this number
unfoldable pub parent_list : ParentLists → ℕ → List ℕ
parent_list lists i = slice_range lists.positions.items (start_in lists.ends.items i) (slice_index lists.ends.items i)
