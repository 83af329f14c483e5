use Rattle.std.proofs.Common.{◌≡◌, ◌++◌, take}
use Rattle.std.specs.List.{flat_map}
use Rattle.graph_encoder.specs.ExtraEdges.{extra_words}
use Rattle.graph_encoder.specs.Written.{words_bytes}
use Rattle.graph_encoder.proofs.edges.push_edges.Given as goal

abbrev pub invariant-loop-place : goal.invariant-loop-place
invariant-loop-place g l =
    l.file.items
    ≡ l.initial.file.items ++ flat_map (λ c. words_bytes (extra_words c.parents.items))
    (take l.place (g.P.PlanView.as_plan l.plan).commits.items)
