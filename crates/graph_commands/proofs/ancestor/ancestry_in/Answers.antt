-- A position that holds an id is one of the graph's, and the id is there.
use Rattle.std.proofs.Common.{arith, rules}
use Rattle.std.proofs.lemmas.List.Concat.{length-flat_map}
use Rattle.std.proofs.lemmas.Option.{slice_get_within}
use Rattle.gix_hash_core.specs.Oid.{oid_bytes}
use Rattle.graph_format.specs.Layer.{Layer}
use Rattle.gix_commitgraph.specs.Graph.{graph_ids}
use Rattle.graph_commands.proofs.AncestorAnswers.{is_there}
use Rattle.graph_commands.proofs.ancestor.ancestry_in.Goals as goal

pub ancestor_walk-requires-clause-from : goal.ancestor_walk-requires-clause-from
ancestor_walk-requires-clause-from c =
    let layers = c.args.graph.now in
    rw c.new.ensures
    (omega (
      arith,
      slice_get_within (graph_ids layers) c.in-Some.from.0 (oid_bytes c.args.first) c.in-Some.ensures.holds,
      length-flat_map (λ (layer : Layer). layer.ids) layers,
    ))

pub ancestor_walk-requires-clause-to : goal.ancestor_walk-requires-clause-to
ancestor_walk-requires-clause-to c =
    let layers = c.args.graph.now in
    rw c.new.ensures
    (omega (
      arith,
      slice_get_within (graph_ids layers) c.in-Some-lookup.to.0 (oid_bytes c.args.second) c.in-Some-lookup.ensures.holds,
      length-flat_map (λ (layer : Layer). layer.ids) layers,
    ))

pub returns-in_default-lookup : goal.returns-in_default-lookup
returns-in_default-lookup c = search rules

pub returns : goal.returns
returns c =
    let layers = c.args.graph.now in
    let sound = c.in_ok-check.ensures.sound in (
      sound,
      is_there layers (oid_bytes c.args.first) c.in-Some.from.0 sound c.in-Some.ensures.found,
      is_there layers (oid_bytes c.args.second) c.in-Some-lookup.to.0 sound c.in-Some-lookup.ensures.found,
    )
