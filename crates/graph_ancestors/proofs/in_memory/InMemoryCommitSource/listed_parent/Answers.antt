use Rattle.std.proofs.Common.{ℕ, List, length, get_or, sym, ap, ◌∙◌, arith}
use Rattle.graph_format.specs.Parents.{extra_edge_of}
use Rattle.gix_commitgraph.specs.GraphLaw.{LiesIn}
use Rattle.graph_format.specs.Layer.{Layer}
use Rattle.commit_search.specs.EdgeLists.{list_in}
use Rattle.graph_ancestors.proofs.InMemoryLemmas.{word_read}
use Rattle.graph_ancestors.proofs.WordLemmas.{reading_within}
use Rattle.graph_ancestors.proofs.in_memory.InMemoryCommitSource.listed_parent.Goals as goal

pub bounds-list_of-index : goal.bounds-list_of-index
bounds-list_of-index c =
    let layers = c.args.self.now in
    let lies = c.requires.lies in
    let reading = c.requires.listed c.args.layer lies.0 lies.1 in
    omega (
      arith,
      reading_within _ _ _ _ reading,
      ap (λ (xs : List ℕ). length xs) (c.list_of.ensures
          ∙ ap (λ (ls : List Layer). list_in ls c.args.layer) c.graph.ensures.same),
    )

pub returns-clause-word : goal.returns-clause-word
returns-clause-word c =
    let layers = c.args.self.now in
    let p = c.args.arg2.0 in
    let lies = c.requires.lies in
    let one = c.a_position_lies_in_one_layer.ensures layers p c.requires.pos in
    let counted = c.the_history_of_a_graph_is_that_of_its_layers.ensures.counted layers c.graph.ensures.graph.opened in
    word_read layers p counted
    (λ (l m : ℕ) (layer other : Layer) (at : LiesIn layers p l layer) (there : LiesIn layers p m other).
    one.only l layer at ∙ sym (one.only m other there))
    c.args.layer c.args.index lies.0 lies.1 c.requires.listed c.from_raw.result
    (c.from_raw.ensures ∙ ap (λ (xs : List ℕ). extra_edge_of (get_or xs c.args.index 0)) (c.list_of.ensures
    ∙ ap (λ (ls : List Layer). list_in ls c.args.layer) c.graph.ensures.same))
