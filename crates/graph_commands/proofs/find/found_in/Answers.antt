-- A position that holds an id is one of the graph's.
use Rattle.std.proofs.Common.{arith}
use Rattle.std.proofs.lemmas.List.Concat.{length-flat_map}
use Rattle.std.proofs.lemmas.Option.{slice_get_within}
use Rattle.gix_hash_core.specs.Oid.{oid_bytes}
use Rattle.graph_format.specs.Layer.{Layer}
use Rattle.gix_commitgraph.specs.Graph.{graph_ids}
use Rattle.graph_commands.proofs.find.found_in.Goals as goal

pub commit_at-commit-requires : goal.commit_at-commit-requires
commit_at-commit-requires c =
    let layers = c.args.graph.now in
    omega (
      arith,
      slice_get_within (graph_ids layers) c.in_ok-pos.pos.0 (oid_bytes c.args.id) c.in_ok-pos.ensures.holds,
      length-flat_map (λ (layer : Layer). layer.ids) layers,
    )
