use Rattle.std.proofs.Common.{ℕ, ◌+◌, length, slice_get, sym, ap, ◌∙◌, arith}
use Rattle.std.proofs.lemmas.List.{length_push}
use Rattle.std.proofs.lemmas.Option.{slice_get_within}
use Rattle.graph_layer.specs.Commit.{layer_and_position}
use Rattle.gix_commitgraph.specs.Graph.{graph_ids, graph_commits}
use Rattle.gix_commitgraph.proofs.lookup.ElementLemmas.{left-first}
use Rattle.gix_commitgraph.proofs.lookup.IdPlaceLemmas.{id-at_commit, places-more}
use Rattle.gix_commitgraph.proofs.layers.PositionLemmas.{length-graph_commits}
use Rattle.gix_commitgraph.proofs.graph.Graph.id_places.Goals as goal

pub overflow_add-pos : goal.overflow_add-pos
overflow_add-pos c =
    let first = left-first (graph_commits c.args.self.now) _ c.loop-commit.pos (layer_and_position c.in-Some.commit)
    (sym c.loop-commit.invariant.left ∙ c.in-Some.ensures.steps) in
    omega (
      arith,
      slice_get_within (graph_commits c.args.self.now) c.loop-commit.pos _ first.0,
      length-graph_commits c.args.self.now,
      c.num_commits.ensures.graph.makes.few,
    )

pub loop-commit-preserved : goal.loop-commit-preserved
loop-commit-preserved c =
    let first = left-first (graph_commits c.args.self.now) _ c.loop-commit.pos (layer_and_position c.in-Some.commit)
    (sym c.loop-commit.invariant.left ∙ c.in-Some.ensures.steps) in
    let counted = c.loop-commit.invariant.counted in
    let more = length_push c.loop-commit.places.items (record { id = c.id.result; pos = record { 0 = c.loop-commit.pos } }) in
    record {
      left = sym first.1;
      counted = ap length c.in_ok-push.ensures.items ∙ more ∙ ap (λ (n : ℕ). n + 1) counted;
      places =
          rw c.in_ok-push.ensures.items
          (places-more c.args.self.now c.loop-commit.places.items _ c.loop-commit.invariant.places (sym counted)
          (ap (slice_get (graph_ids c.args.self.now)) counted
          ∙ id-at_commit c.args.self.now c.loop-commit.pos _ _ _ first.0 c.id.ensures));
    }
