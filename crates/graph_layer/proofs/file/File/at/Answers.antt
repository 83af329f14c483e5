use Rattle.graph_layer.proofs.file.File.at.Goals as goal

pub returns-clause-memory : goal.returns-clause-memory
returns-clause-memory _ c = c.open_layer.ensures.memory

pub returns-clause-path : goal.returns-clause-path
returns-clause-path _ c = rw c.in_ok-from_str.ensures.ok at c.open_layer.ensures.path
