-- Commits that a commit-graph lacks, which stand on top of those that it has: what is known of them. Their positions come after
-- those of the base ("Commit Data", "Extra Edge List").
use Rattle.std.specs.Prelude.{◌≡◌, ℕ, ◌+◌, ◌<◌, List, [], map, length, take, drop, slice_get, Some, None, Contains}
use Rattle.graph_walks.specs.History.{Node, parents_at}
use Rattle.graph_format.specs.Parents.{listed}
use Rattle.commit_search.specs.EdgeLists.{named_from}

-- A commit that stands on top of others: its id, its generation number, and the positions of its parents, first parent first.
pub record NewerCommit : Type 0 where
  pub id : List ℕ
  pub node : Node

abbrev pub newer_commit : List ℕ → ℕ → List ℕ → NewerCommit
newer_commit id generation parents = record { id = id; node = record { generation = generation; parents = parents } }

-- Commits on top of so many others, in the order in which they were added; and the words of an extra edge list, in which those
-- with more than two parents have the parents after the first.
pub record CommitsOnTop : Type 0 where
  pub below : ℕ
  pub commits : List NewerCommit
  pub words : List ℕ

abbrev pub ids_on_top : CommitsOnTop → List (List ℕ)
ids_on_top top = map (λ commit. commit.id) top.commits

abbrev pub nodes_on_top : CommitsOnTop → List Node
nodes_on_top top = map (λ commit. commit.node) top.commits

-- the number of all commits: the position that the next one gets
abbrev pub end_of_top : CommitsOnTop → ℕ
end_of_top top = top.below + length top.commits

-- the first of them alone, as they were before the one with this number was added
abbrev pub before_newer : ℕ → CommitsOnTop → CommitsOnTop
before_newer i top = record { below = top.below; commits = take i top.commits; words = [] }

-- each parent stands before its child
abbrev pub AreAfterParents : CommitsOnTop → Type 0
AreAfterParents top = (i q : ℕ) → Contains (parents_at (nodes_on_top top) i) q → q < top.below + i

-- the commit with this id stands on top, at this position
abbrev pub StandsOnTop : CommitsOnTop → List ℕ → ℕ → Type 0
StandsOnTop top id p = (i : ℕ) × (slice_get (ids_on_top top) i ≡ Some id) × (p ≡ top.below + i)

-- The words from one on name parents of the newer commit with this number, up to a last one.
pub record AreWordsOf (top : CommitsOnTop) (i index : ℕ) : Type 0 where
  pub decoded : (listed (drop index top.words)).fault ≡ None
  pub parents : (q : ℕ) → Contains (named_from top.words index) q → Contains (parents_at (nodes_on_top top) i) q
