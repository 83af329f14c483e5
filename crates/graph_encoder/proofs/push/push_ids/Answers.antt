use Rattle.std.proofs.Common.{ap, ◌∙◌, ◌++◌}
use Rattle.std.specs.List.{flat_map}
use Rattle.std.proofs.lemmas.List.{take_all}
use Rattle.graph_encoder.specs.Written.{ids_bytes}
use Rattle.graph_encoder.proofs.push.push_ids.Goals as goal

pub returns : goal.returns
unfolding ids_bytes
returns c = c.loop-id.invariant
    ∙ ap (λ ids. c.args.file.now.items ++ flat_map (λ id. id) ids)
    (take_all c.loop-id.id-index c.args.ids.now c.loop-id-test.false)
