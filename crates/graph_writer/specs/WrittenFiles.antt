-- The bytes that are written: those of one plan, and a file of a layer with the commits that were handed in.
-- (gitformat-commit-graph.)
use Rattle.std.specs.Prelude.{◌≡◌, ◌++◌, ◌∷◌, [], ℕ, List, Option, None}
use Rattle.graph_chunks.specs.GraphFilters.{graph_filters_refusal}
use Rattle.graph_encoder.specs.Written.{planned_file}
use Rattle.graph_encoder.specs.declared.plan.FilePlan.{FilePlan}
use Rattle.graph_format.specs.Layer.{Layer, IsLayer}
use Rattle.graph_format.specs.NameRule.{KeepsNameRule}
use Rattle.graph_writer.specs.LayerPlans.{IsPlanFor}
use Rattle.graph_writer.specs.NewFilters.{HasFiltersOf}
use Rattle.graph_writer.specs.RightThroughout.{IsRightThroughout, CanBeAskedOn}
use Rattle.graph_writer.specs.WrittenLayers.{IsWrittenLayer}
use Rattle.graph_writer.specs.declared.commit.NewCommit.{NewCommit}
use Rattle.graph_writer.specs.declared.filters.NewFilters.{NewFilters}

-- The bytes are exactly those of the plan for these commits with these filters.
abbrev pub IsPlannedFile : List Layer → List NewCommit → Option NewFilters → List ℕ → Type 0
IsPlannedFile layers commits filters bytes =
    (plan : FilePlan) × IsPlanFor layers commits filters plan × (bytes ≡ planned_file plan)

-- Nothing is refused of the graph with the layer, where nothing refuses the filters below, unless the layer's file has the name
-- of another layer of a chain.
abbrev pub StaysRightWith : List Layer → Option NewFilters → Layer → Type 0
StaysRightWith layers filters layer =
    KeepsNameRule layer.path layer.checksum → graph_filters_refusal layers ≡ None → CanBeAskedOn layers filters
    → IsRightThroughout (layers ++ layer ∷ [])

-- They are a file of a layer of these commits with these filters, whatever its name.
abbrev pub IsFileWith : List Layer → List NewCommit → Option NewFilters → List ℕ → Type 0
IsFileWith layers commits filters bytes =
    (path : List ℕ) → (layer : Layer) × IsLayer bytes path layer × IsWrittenLayer layers commits layer
    × HasFiltersOf commits filters layer × StaysRightWith layers filters layer

-- Both hold of them.
pub record IsWrittenWith (layers : List Layer) (commits : List NewCommit) (filters : Option NewFilters) (bytes : List ℕ)
    : Type 0 where
  pub planned : IsPlannedFile layers commits filters bytes
  pub file : IsFileWith layers commits filters bytes

-- The bytes are those of a layer of these commits, which has no filters.
abbrev pub IsWritten : List Layer → List NewCommit → List ℕ → Type 0
IsWritten layers commits bytes = IsWrittenWith layers commits None bytes
