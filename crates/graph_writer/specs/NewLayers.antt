-- What a new layer is to say of its commits: their order and the positions of their parents ("OID Lookup", "Commit Data").
use Rattle.std.specs.Prelude.{◌≡◌, ◌++◌, ℕ, ◌+◌, ◌<◌, List, [], Some, All, Contains, length, map, slice_get, slice_index}
use Rattle.std.specs.Prelude.{slice_index_or}
use Rattle.gix_commitgraph.specs.Graph.{graph_ids, total}
use Rattle.graph_format.specs.Layer.{Layer}
use Rattle.graph_format.specs.Order.{AreAscending}
use Rattle.graph_levels.specs.ParentLists.{commit_count, parent_list}
use Rattle.graph_writer.specs.NewCommits.{new_ids, new_times, AreFirst}
use Rattle.graph_writer.specs.declared.commit.NewCommit.{NewCommit}
use Rattle.graph_writer.specs.declared.new_layer.NewLayer.{NewLayer}

-- the ids of the commits in the order that lists their numbers
abbrev pub ids_in_order : List NewCommit → List ℕ → List (List ℕ)
ids_in_order commits order = map (λ i. slice_index_or (new_ids commits) i []) order

-- their times in that order
abbrev pub times_in_order : List NewCommit → List ℕ → List ℕ
times_in_order commits order = map (λ i. slice_index (new_times commits) i) order

-- The commits stand in the order of their ids, each once, and the positions of their parents, those below first, are the first
-- of the ids that the commits name.
pub record IsNewLayer (layers : List Layer) (commits : List NewCommit) (new : NewLayer) : Type 0 where
  pub as_many : length new.order.items ≡ length commits
  pub each : All (λ i. i < length commits) new.order.items
  pub all : (i : ℕ) → i < length commits → Contains new.order.items i
  pub ascending : AreAscending (ids_in_order commits new.order.items)
  pub listed : commit_count new.parents ≡ length commits
  pub within : (p : ℕ) → p < length commits → All (λ q. q < total layers + length commits) (parent_list new.parents p)
  pub parents : (p i : ℕ) (commit : NewCommit) → slice_get new.order.items p ≡ Some i → slice_get commits i ≡ Some commit
      → AreFirst (graph_ids layers ++ ids_in_order commits new.order.items) (parent_list new.parents p) commit.parents.items
