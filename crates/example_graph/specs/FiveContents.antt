-- The commits themselves, as Git has them (git-cat-file, "BATCH OUTPUT"; Git's book, "Git Objects", "Commit Objects").
use Rattle.std.specs.Prelude.{ℕ, [], ◌++◌, List, codes}
use Rattle.example_graph.specs.FiveCommits.{root_digits, early_child_digits, late_child_digits, octopus_digits, merge_digits}
use Rattle.example_graph.specs.FiveCommits.{empty_tree_digits}

-- a line of text
abbrev pub line : List ℕ → List ℕ
line text = text ++ codes "\n"

-- the line of the empty tree, and that of a parent
abbrev pub tree_line : List ℕ
tree_line = line (codes "tree " ++ empty_tree_digits)

abbrev pub parent_line : List ℕ → List ℕ
parent_line digits = line (codes "parent " ++ digits)

-- what each says behind its parents: its author, its committer with this time, and a message
abbrev pub rest_at : List ℕ → List ℕ
rest_at time =
    line (codes "author A <a@example.com> " ++ time ++ codes " +0000")
    ++ line (codes "committer A <a@example.com> " ++ time ++ codes " +0000")
    ++ line []
    ++ line (codes "x")

-- the contents of each
unfoldable pub root : List ℕ
root = tree_line ++ rest_at (codes "4294967300")

unfoldable pub early_child : List ℕ
early_child = tree_line ++ parent_line root_digits ++ rest_at (codes "1000")

unfoldable pub late_child : List ℕ
late_child = tree_line ++ parent_line root_digits ++ rest_at (codes "4294967400")

unfoldable pub octopus : List ℕ
octopus = tree_line
    ++ parent_line early_child_digits ++ parent_line late_child_digits ++ parent_line merge_digits
    ++ rest_at (codes "4294967500")

unfoldable pub merge : List ℕ
merge = tree_line ++ parent_line early_child_digits ++ parent_line late_child_digits ++ rest_at (codes "4294967350")

-- the entry of a commit
abbrev pub entry : List ℕ → List ℕ → List ℕ → List ℕ
entry digits size contents = line (digits ++ codes " commit " ++ size) ++ line contents

-- what `git cat-file --batch` writes of them, in the order of their ids
unfoldable pub stream : List ℕ
stream =
    entry root_digits (codes "136") root
    ++ entry early_child_digits (codes "172") early_child
    ++ entry late_child_digits (codes "184") late_child
    ++ entry octopus_digits (codes "280") octopus
    ++ entry merge_digits (codes "232") merge
