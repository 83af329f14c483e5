-- Why the commits of a right graph make no file of one layer, by what the graph says of them.
use Rattle.std.specs.Prelude.{◌≡◌, ◌<◌, ◌≤◌, ◌^◌, ℕ, List, Some, slice_get}
use Rattle.std.specs.List.{sum_by}
use Rattle.graph_walks.specs.History.{parent_numbers}
use Rattle.graph_walks.specs.Walks.{IsProperAncestor}
use Rattle.graph_format.specs.Layer.{Layer}
use Rattle.graph_format.specs.StoredHistory.{history_of}
use Rattle.gix_commitgraph.specs.Graph.{graph_ids, total}
use Rattle.graph_writer.specs.WritingRefusal.{words_for}
use Rattle.graph_writer.specs.declared.commit.WriteError.{WriteError}
use Rattle.graph_writer.specs.declared.commit.WriteError.TheVariants as error

-- An id stands at two positions of the graph.
pub record StandsTwice (layers : List Layer) (i earlier : ℕ) : Type 0 where
  pub before : earlier < i
  pub id : List ℕ
  pub here : slice_get (graph_ids layers) i ≡ Some id
  pub there : slice_get (graph_ids layers) earlier ≡ Some id

-- how many words one extra edge list of all commits of the graph has
abbrev pub words_of_all : List Layer → ℕ
words_of_all layers = sum_by words_for (parent_numbers (history_of layers))

-- the reasons that there are, where a commit on a cycle has the greatest generation number; no other error is one
abbrev pub IsReasonNotToMerge : List Layer → WriteError → Type 0
IsReasonNotToMerge layers (error.Twice i earlier) = StandsTwice layers i earlier
IsReasonNotToMerge layers (error.Cycle i) = IsProperAncestor (history_of layers) i i
IsReasonNotToMerge layers error.Nothing = total layers ≡ 0
IsReasonNotToMerge layers error.TooManyEdges = 2 ^ 31 ≤ words_of_all layers
IsReasonNotToMerge layers error.OutOfMemory = 0 < total layers
IsReasonNotToMerge layers fault = ⊥
