use Rattle.std.proofs.Common.{List, sym, ap, ◌∙◌}
use Rattle.graph_format.specs.Layer.{Layer}
use Rattle.graph_writer.specs.NewCommits.{layers_of_below}
use Rattle.write_commands.specs.WrittenCommits.{kind_below}
use Rattle.write_commands.proofs.RunSteps.{kind_of_all}
use Rattle.write_commands.proofs.write.kind_of_graph.Goals as goal

pub returns-in-Some : goal.returns-in-Some
returns-in-Some c =
    kind_of_all c.graph.result.now c.object_hash.result c.object_hash.ensures.kind c.object_hash.ensures.some
    ∙ ap (λ (layers : List Layer). kind_below layers) (c.graph.ensures.same ∙ sym (ap layers_of_below c.in-Some.is))
