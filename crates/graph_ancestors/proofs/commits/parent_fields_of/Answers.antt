use Rattle.std.proofs.Common.{◌<◌, ℕ, List, Contains, Some, ap, sym, ◌∙◌, subst, arith}
use Rattle.std.specs.Prelude.{option_map}
use Rattle.std.proofs.lemmas.List.Elements.{All-contains}
use Rattle.gix_commitgraph.specs.Graph.{total}
use Rattle.graph_format.specs.Layer.{Layer, record_at}
use Rattle.graph_format.specs.Parents.{edge_of}
use Rattle.graph_format.specs.declared.parents.ParentEdge.{ParentEdge}
use Rattle.graph_format.specs.StoredHistory.{history_of}
use Rattle.graph_walks.specs.History.{parents_at}
use Rattle.graph_layer.specs.Commit.{commit_layer, commit_pos, commit_record}
use Rattle.graph_ancestors.specs.Commits.{fields_of}
use Rattle.graph_ancestors.proofs.FieldLemmas.{fields_told}
use Rattle.graph_ancestors.proofs.commits.parent_fields_of.Goals as goal

pub returns-clause-stored : goal.returns-clause-stored
returns-clause-stored c =
    let fields = commit_record c.commit_of.result in
    ap (option_map (λ (place : Layer × ℕ). fields_of (record_at place.0 place.1))) c.commit_of.ensures
    ∙ ap (λ (second : ParentEdge). Some (edge_of fields.parent1, second)) (sym c.parent_edges.ensures.second)
    ∙ ap (λ (first : ParentEdge). Some (first, c.parent_edges.result.1)) (sym c.parent_edges.ensures.first)

pub returns-clause-named : goal.returns-clause-named
returns-clause-named c =
    let layers = c.args.graph.now in
    let h = history_of layers in
    let p = c.args.pos.0 in
    let here = c.commit_of.ensures in
    let layer = commit_layer c.commit_of.result in
    let pos = commit_pos c.commit_of.result in
    let fields = commit_record c.commit_of.result in
    let opened = c.requires.graph.opened in
    let long = c.the_history_of_a_graph_is_that_of_its_layers.ensures.counted layers opened in
    let below : p < total layers = omega (arith, c.requires.pos, long) in
    let at = c.a_commit_lies_in_its_layer.ensures layers p pos layer here in
    let one = c.a_position_lies_in_one_layer.ensures layers p below in
    let told = c.the_history_of_a_graph_says_what_its_records_say.ensures.parents layers p pos layer opened here in
    let there = c.the_parents_of_a_right_graph_are_there.ensures.there layers p opened c.requires.sound in
    let decoded = c.the_parents_of_a_right_graph_are_there.ensures.decoded layers p pos layer opened c.requires.sound here in
    fields_told layers p at.0 layer at.1 (λ i other lies. one.only i other lies ∙ sym (one.only at.0 layer at.1))
    c.parent_edges.result (edge_of fields.parent1) (edge_of fields.parent2) c.parent_edges.ensures.first
    c.parent_edges.ensures.second decoded (
      λ q named.
          let parent : Contains (parents_at h p) q = subst (λ (qs : List ℕ). Contains qs q) (sym told) named in
          let within = All-contains (λ q. q < total layers) (parents_at h p) q there parent in
          (c.requires.pos, omega (arith, within, long), parent),
      λ q parent. subst (λ (qs : List ℕ). Contains qs q) told parent.2,
    )
