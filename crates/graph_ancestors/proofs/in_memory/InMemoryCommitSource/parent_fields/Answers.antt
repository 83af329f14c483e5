use Rattle.std.proofs.Common.{ℕ, sym, ◌∙◌}
use Rattle.gix_commitgraph.specs.GraphLaw.{LiesIn}
use Rattle.graph_format.specs.Layer.{Layer}
use Rattle.graph_ancestors.proofs.InMemoryLemmas.{fields_read}
use Rattle.graph_ancestors.proofs.in_memory.InMemoryCommitSource.parent_fields.Goals as goal

pub returns-clause-fields : goal.returns-clause-fields
returns-clause-fields c =
    let layers = c.args.self.now in
    let p = c.args.pos.0 in
    let one = c.a_position_lies_in_one_layer.ensures layers p c.requires in
    let counted = c.the_history_of_a_graph_is_that_of_its_layers.ensures.counted layers c.graph.ensures.graph.opened in
    fields_read layers p counted
    (λ (l m : ℕ) (layer other : Layer) (at : LiesIn layers p l layer) (there : LiesIn layers p m other).
    one.only l layer at ∙ sym (one.only m other there))
    c.parent_fields_of.result (rw c.graph.ensures.same at c.parent_fields_of.ensures.named)
