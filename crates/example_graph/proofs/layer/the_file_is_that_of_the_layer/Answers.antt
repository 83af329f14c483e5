use Rattle.example_graph.specs.FiveCommits.{file, layer}
use Rattle.example_graph.proofs.FileFacts.{opened}
use Rattle.example_graph.proofs.layer.the_file_is_that_of_the_layer.Goals as goal

pub returns : goal.returns
returns c = λ path. ((c.each_is_answered.ensures file path).layer (layer path)).0 (opened path)
