-- what a check tells C of one layer
use Rattle.std.specs.Prelude.{◌≡◌, ℕ, length, Some, None, ⊤}
use Rattle.graph_format.specs.Layer.{Layer}
use Rattle.graph_format.specs.Points.{first_fault}
use Rattle.graph_format.specs.StoredHistory.{layer_history}
use Rattle.graph_format.specs.declared.fault.CommitFault.TheVariants as commit
use Rattle.graph_format.specs.declared.fault.LayerFault.TheVariants as fault
use Rattle.graph_walks.specs.Counts.{greatest, least}
use Rattle.graph_walks.specs.History.{generations, parent_numbers}
use Rattle.graph_layer.specs.Traverse.{traverse_points}
use Rattle.graph_layer.specs.declared.file.verify.Outcome.{Outcome}
use Rattle.graph_layer.specs.declared.file.verify.TraverseError.{TraverseError}
use Rattle.graph_layer.specs.declared.file.verify.TraverseError.TheVariants as error
use Rattle.graph_ancestors.specs.declared.checking.NoFault.{NoFault}
use Rattle.c_opening.specs.Codes.{commit_code, layer_code, out_of_memory, parent_code}
use Rattle.commitgraph_c.specs.declared.layer_check.CgLayerVerdict.{CgLayerVerdict}

-- a verdict that is no statistics: its code, the position of a commit in the layer, and a byte of the fan
abbrev pub refusal_in : ℕ → ℕ → ℕ → CgLayerVerdict
refusal_in code position byte =
    record {
      code = code;
      num_commits = 0;
      min_generation = 0;
      max_generation = 0;
      max_parents = 0;
      position = position;
      byte = byte;
    }

-- how a fault is told: its number, and its place
abbrev pub refusal_of_layer : TraverseError NoFault → CgLayerVerdict
refusal_of_layer error.Checksum = refusal_in (layer_code fault.Checksum) 0 0
refusal_of_layer error.FileName = refusal_in (layer_code fault.FileName) 0 0
refusal_of_layer (error.Fan byte) = refusal_in (layer_code (fault.Fan byte)) 0 byte
refusal_of_layer (error.NullId pos) = refusal_in (commit_code commit.NullId) pos.0 0
refusal_of_layer (error.Order pos) = refusal_in (commit_code commit.Order) pos.0 0
refusal_of_layer (error.NullTree pos) = refusal_in (commit_code commit.NullTree) pos.0 0
refusal_of_layer (error.Processor pos e) = refusal_in 309 pos.0 0
refusal_of_layer (error.Parent pos e) = refusal_in (parent_code e) pos.0 0
refusal_of_layer error.OutOfMemory = refusal_in out_of_memory 0 0

-- the errors that the check of a layer may answer where each commit is accepted: the first fault, or that an allocation failed
abbrev pub MayRefuseLayer : Layer → TraverseError NoFault → Type 0
MayRefuseLayer layer (error.Processor pos e) = ⊥
MayRefuseLayer layer error.OutOfMemory = ⊤
MayRefuseLayer layer x = first_fault (traverse_points layer) ≡ Some x

-- The statistics of a layer as a verdict tells them.
pub record TellsLayerStats (layer : Layer) (v : CgLayerVerdict) : Type 0 where
  pub num_commits : v.num_commits ≡ length layer.ids
  pub min_generation : v.min_generation ≡ least (generations (layer_history layer))
  pub max_generation : v.max_generation ≡ greatest (generations (layer_history layer))
  pub max_parents : v.max_parents ≡ greatest (parent_numbers (layer_history layer))
  pub no_place : (v.position ≡ 0) × (v.byte ≡ 0)

-- The verdict on a layer whose check answers an error.
pub record IsRefusedLayer (layer : Layer) (v : CgLayerVerdict) : Type 0 where
  pub error : TraverseError NoFault
  pub told : v ≡ refusal_of_layer error
  pub may : MayRefuseLayer layer error

-- The verdict on a layer: the code is 0 only where no check finds a fault, and else says which one found the first.
pub record IsLayerVerdict (layer : Layer) (v : CgLayerVerdict) : Type 0 where
  pub right : v.code ≡ 0 → (first_fault (traverse_points {E = NoFault} layer) ≡ None) × TellsLayerStats layer v
  pub refused : ¬ (v.code ≡ 0) → IsRefusedLayer layer v

-- The verdict tells these statistics.
pub record TellsLayerOutcome (outcome : Outcome) (v : CgLayerVerdict) : Type 0 where
  pub code : v.code ≡ 0
  pub num_commits : v.num_commits ≡ outcome.num_commits
  pub min_generation : v.min_generation ≡ outcome.min_generation
  pub max_generation : v.max_generation ≡ outcome.max_generation
  pub max_parents : v.max_parents ≡ outcome.max_parents
  pub no_place : (v.position ≡ 0) × (v.byte ≡ 0)
