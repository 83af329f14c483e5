use Rattle.write_commands.proofs.write.layer_of.Goals as goal

pub returns-clause-written : goal.returns-clause-written
returns-clause-written g c = (
  c.in_ok-commits.commits.items,
  (rw c.kind_of_graph.ensures at c.in_ok-commits.ensures.said, c.in_ok-commits.ensures.end),
  rw c.deref.ensures.value at c.in_ok-write_layer.ensures.written,
)
