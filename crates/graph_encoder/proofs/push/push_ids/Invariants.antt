use Rattle.std.proofs.Common.{◌≡◌, ◌++◌, take}
use Rattle.std.specs.List.{flat_map}
use Rattle.graph_encoder.proofs.push.push_ids.Given as goal

abbrev pub invariant-loop-id : goal.invariant-loop-id
invariant-loop-id l = l.file.items ≡ l.initial.file.items ++ flat_map (λ id. id) (take l.id-index l.ids)
