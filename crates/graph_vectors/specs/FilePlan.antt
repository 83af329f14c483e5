-- The plan of a file for a test, as the encoder takes it. (gitformat-commit-graph, "CHUNK DATA".)
use Rattle.std.specs.Prelude.{None}
use Rattle.graph_encoder.specs.declared.plan.FilePlan.{FilePlan}
use Rattle.graph_vectors.specs.declared.plan.LayerPlan.{LayerPlan}

-- the same kind, bases and commits, without dates and without filters
abbrev pub file_plan : LayerPlan → FilePlan
file_plan plan =
    record { kind = plan.kind; bases = plan.bases; commits = plan.commits; date_offsets = None; filters = None }
