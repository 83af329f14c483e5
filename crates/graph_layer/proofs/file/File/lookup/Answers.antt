use Rattle.std.proofs.Common.{rules}
use Rattle.graph_layer.proofs.file.File.lookup.Goals as goal

pub returns : goal.returns
returns c = search rules
