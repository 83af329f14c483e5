-- The history of a base and of newer commits on top of it ("generation number" in Git's commit-graph design).
use Rattle.std.specs.Prelude.{◌≡◌, ℕ, ◌+◌, ◌-◌, ◌<◌, ◌≤◌, ◌==◌, nat_lt, if◌then◌else◌, max, List, ◌++◌, map, filter, length}
use Rattle.graph_walks.specs.History.{Node, generation_at}
use Rattle.graph_walks.specs.Generations.{expected_generation}
use Rattle.graph_format.specs.Parents.{extra_edge_of}
use Rattle.commit_search.specs.EdgeLists.{named_by}
use Rattle.commit_search.specs.Source.{Told}
use Rattle.newer_commits.specs.CommitsOnTop.{CommitsOnTop, nodes_on_top, AreWordsOf}

-- a commit with those of its parents that are among so many commits
abbrev pub node_within : ℕ → Node → Node
node_within n node = record { generation = node.generation; parents = filter (λ q. nat_lt q n) node.parents }

-- The commits of the base, and then the newer ones. What the base names as a parent and has not is no newer commit.
abbrev pub joined_history : List Node → List Node → List Node
joined_history base newer = map (node_within (length base)) base ++ newer

-- a word of an extra edge list that names none of n commits names no newer one: then it is one that names the last position there
-- can be, or a later one
abbrev pub word_within : ℕ → ℕ → ℕ
word_within n word =
    if nat_lt (named_by (extra_edge_of word)) n then word
    else (if nat_lt word 0x80000000 then 0x7fffffff else max word 0xffffffff)

-- what a base and the newer commits tell together, where the newer ones lie in this layer
abbrev pub joined_with : ℕ → CommitsOnTop → Told → Told
joined_with layer top base =
    record {
      history = joined_history base.history (nodes_on_top top);
      lists = λ l. if l == layer then top.words else map (word_within (length base.history)) (base.lists l);
    }

-- each newer commit has the generation number that its parents ask for
abbrev pub AreNumberedOnTop : List Node → List Node → Type 0
AreNumberedOnTop base newer =
    (p : ℕ) → length base ≤ p → p < length base + length newer
    → generation_at (joined_history base newer) p ≡ expected_generation (joined_history base newer) p

-- a commit of the base lies in a layer of the base, and a newer one in the layer above
abbrev pub LiesInJoined : ℕ → (ℕ → ℕ → Type 0) → ℕ → ℕ → ℕ → Type 0
LiesInJoined n lies layer p l = (p < n → lies p l) × (n ≤ p → l ≡ layer)

-- a word is listed for a commit of the base, or for a newer one
abbrev pub IsListedInJoined : ℕ → (ℕ → ℕ → Type 0) → CommitsOnTop → ℕ → ℕ → Type 0
IsListedInJoined n listed top p index = (p < n → listed p index) × (n ≤ p → AreWordsOf top (p - n) index)
