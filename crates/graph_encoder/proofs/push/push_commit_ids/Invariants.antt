use Rattle.std.proofs.Common.{◌≡◌, ◌++◌, take}
use Rattle.std.specs.List.{flat_map}
use Rattle.graph_encoder.proofs.push.push_commit_ids.Given as goal

abbrev pub invariant-loop-place : goal.invariant-loop-place
invariant-loop-place g l =
    l.file.items
    ≡ l.initial.file.items ++ flat_map (λ c. c.id) (take l.place (g.P.PlanView.as_plan l.plan).commits.items)
