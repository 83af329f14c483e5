use Rattle.std.proofs.Common.{List, sym, ap, ◌∙◌}
use Rattle.graph_format.specs.Layer.{Layer}
use Rattle.graph_writer.specs.NewCommits.{layers_of_below}
use Rattle.graph_writer.specs.WriteRefusal.{kind_to_write}
use Rattle.graph_writer.proofs.layers.RefusalSteps.{kind_of_layers}
use Rattle.graph_writer.proofs.new_layer.kind_to_write.Goals as goal

pub returns-in-Some : goal.returns-in-Some
returns-in-Some g c =
    kind_of_layers c.graph.result.now c.args.commits.now c.object_hash.result c.object_hash.ensures.kind
    c.object_hash.ensures.some
    ∙ ap (λ (layers : List Layer). kind_to_write layers c.args.commits.now)
    (c.graph.ensures.same ∙ sym (ap layers_of_below c.in-Some.is))
