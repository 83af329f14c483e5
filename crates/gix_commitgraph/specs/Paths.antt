-- The paths of a graph's files, as bytes of text. ("Commit-Graphs Chains" of Git's commit-graph design.)
use Rattle.std.specs.Prelude.{ℕ, List, ◌++◌, ◌==◌, ◌||◌, ◌-◌, if◌then◌else◌, length, slice_index, codes}

-- b below the folder a: a slash stands between them unless a is empty or ends with one
abbrev pub join_path : List ℕ → List ℕ → List ℕ
join_path a b = if (length a == 0) || (slice_index a (length a - 1) == 47) then a ++ b else (a ++ codes "/") ++ b

-- the file that names the layers of a chain
abbrev pub chain_path : List ℕ → List ℕ
chain_path folder = join_path folder (codes "commit-graph-chain")

-- the file of the layer that a line of the chain names
abbrev pub layer_path : List ℕ → List ℕ → List ℕ
layer_path folder line = join_path folder (codes "graph-" ++ (line ++ codes ".graph"))

-- the file and the chain folder of an info folder
abbrev pub info_file : List ℕ → List ℕ
info_file folder = join_path folder (codes "commit-graph")

abbrev pub info_chain : List ℕ → List ℕ
info_chain folder = join_path folder (codes "commit-graphs")
