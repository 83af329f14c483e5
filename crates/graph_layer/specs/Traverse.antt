-- what the check of one layer looks for, in an order that is this project's own, and what it answers
use Rattle.std.specs.Prelude.{◌≡◌, ◌∷◌, [], ℕ, List, length, nat_eq, Option, option_map}
use Rattle.std.specs.HashMap.{get, IsUnchanged}
use Rattle.std.specs.List.{flat_map, range_with_len}
use Rattle.graph_format.specs.Layer.{Layer, record_at}
use Rattle.graph_format.specs.Parents.{parents_of}
use Rattle.graph_format.specs.Faults.{layer_fault, commit_fault}
use Rattle.graph_format.specs.Points.{Point, check, call, Cause, refused, by_processor, no_memory}
use Rattle.graph_walks.specs.Counts.{greatest, least, count_of}
use Rattle.graph_walks.specs.History.{Node, generations, parent_numbers}
use Rattle.graph_format.specs.StoredHistory.{layer_history}
use Rattle.graph_format.specs.declared.fault.LayerFault.{LayerFault}
use Rattle.graph_format.specs.declared.fault.LayerFault.TheVariants.{Checksum, FileName, Fan}
use Rattle.graph_format.specs.declared.fault.CommitFault.{CommitFault}
use Rattle.graph_format.specs.declared.fault.CommitFault.TheVariants.{NullId, Order, NullTree}
use Rattle.graph_layer.specs.declared.file.verify.TraverseError.{TraverseError}
use Rattle.graph_layer.specs.declared.file.verify.TraverseError.TheVariants as error
use Rattle.graph_layer.specs.declared.file.verify.Outcome.{Outcome}

module _ {E : Type 0} where
  abbrev pub layer_refusal : LayerFault → TraverseError E
  layer_refusal Checksum = error.Checksum
  layer_refusal FileName = error.FileName
  layer_refusal (Fan byte) = error.Fan byte

  abbrev pub commit_refusal : ℕ → CommitFault → TraverseError E
  commit_refusal pos NullId = error.NullId (record { 0 = pos })
  commit_refusal pos Order = error.Order (record { 0 = pos })
  commit_refusal pos NullTree = error.NullTree (record { 0 = pos })

  -- the decoding of the parents of the commit at a position
  abbrev pub parent_refusal : Layer → ℕ → Option (TraverseError E)
  parent_refusal layer pos = option_map (error.Parent (record { 0 = pos })) (parents_of (record_at layer pos) layer.edges).fault

  -- a commit: its ids, the processor, its parents
  abbrev pub traverse_points_at : Layer → ℕ → List (Point (TraverseError E))
  traverse_points_at layer pos =
      check (option_map (commit_refusal pos) (commit_fault layer pos)) ∷ call pos ∷ check (parent_refusal layer pos) ∷ []

  -- the layer as a whole, and then each commit
  abbrev pub traverse_points : Layer → List (Point (TraverseError E))
  traverse_points layer =
      check (option_map layer_refusal (layer_fault layer))
      ∷ flat_map (traverse_points_at layer) (range_with_len 0 (length layer.ids))

  -- why the check stopped
  abbrev pub traverse_cause : TraverseError E → Cause (TraverseError E) E
  traverse_cause (error.Processor pos e) = by_processor pos.0 e
  traverse_cause error.OutOfMemory = no_memory
  traverse_cause x = refused x

-- The statistics of some commits of a layer.
pub record SummarizesLayer (history : List Node) (outcome : Outcome) : Type 0 where
  pub max_generation : outcome.max_generation ≡ greatest (generations history)
  pub min_generation : outcome.min_generation ≡ least (generations history)
  pub max_parents : outcome.max_parents ≡ greatest (parent_numbers history)
  pub num_commits : outcome.num_commits ≡ length history
  -- for each number of parents, repeats counted, how many commits have so many; no entry where none has
  pub parent_counts : (k : ℕ) → get nat_eq outcome.parent_counts k ≡ count_of (parent_numbers history) k

-- The statistics of a layer: those of its history, which has one commit for each id.
pub record FileStats (layer : Layer) (outcome : Outcome) : Type 0 where
  pub num_commits : outcome.num_commits ≡ length layer.ids
  pub commits : SummarizesLayer (layer_history layer) outcome

-- A second outcome that is equal in each field: its counts are the same, in the same order.
pub record IsCopyOfLayer (outcome copy : Outcome) : Type 0 where
  pub max_generation : copy.max_generation ≡ outcome.max_generation
  pub min_generation : copy.min_generation ≡ outcome.min_generation
  pub max_parents : copy.max_parents ≡ outcome.max_parents
  pub num_commits : copy.num_commits ≡ outcome.num_commits
  pub parent_counts : IsUnchanged outcome.parent_counts copy.parent_counts
