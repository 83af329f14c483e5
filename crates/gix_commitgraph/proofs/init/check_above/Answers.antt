use Rattle.std.proofs.Common.{◌≡◌, ℕ, ◌+◌, ◌<◌, ◌≤◌, [], ◌∷◌, ◌++◌, length, true, false, Some, sym, ap, ◌∙◌, arith}
use Rattle.std.proofs.lemmas.List.Elements.{All-push}
use Rattle.std.proofs.lemmas.List.Sums.{sum_by_push}
use Rattle.graph_format.specs.declared.TheConstants.{MAX_COMMITS}
use Rattle.graph_format.specs.declared.error.GraphError.TheVariants.{TooManyCommits, HashMismatch}
use Rattle.graph_format.specs.Layer.{IsOpened}
use Rattle.gix_commitgraph.specs.Graph.{total}
use Rattle.gix_commitgraph.proofs.layers.LayerListLemmas.{size}
use Rattle.gix_commitgraph.proofs.layers.PushedLayerLemmas.{too-many-above, refusal-above}
use Rattle.gix_commitgraph.proofs.init.check_above.Goals as goal

pub returns-then-sum : goal.returns-then-sum
returns-then-sum c =
    let layers = c.args.graph.now in
    let layer = c.args.file.now in
    let sum : c.num_commits.result + c.num_commits-2.result ≡ total (layers ++ layer ∷ []) =
    omega (arith, c.num_commits.ensures.commits, c.num_commits-2.ensures.ids, sum_by_push size layers layer) in
    let many : MAX_COMMITS < total (layers ++ layer ∷ []) = omega (arith, sum, c.if-sum.true) in
    record {
      refusal = too-many-above layers layer many ∙ ap (λ (n : ℕ). Some (TooManyCommits n)) (sym sum);
      opened = All-push IsOpened layers layer c.num_commits.ensures.graph.opened c.num_commits-2.ensures.layer;
    }

pub returns-then-ne : goal.returns-then-ne
returns-then-ne c =
    let layers = c.args.graph.now in
    let layer = c.args.file.now in
    let few : total (layers ++ layer ∷ []) ≤ MAX_COMMITS =
    omega (
      arith,
      c.num_commits.ensures.commits,
      c.num_commits-2.ensures.ids,
      sum_by_push size layers layer,
      c.if-sum.false,
    ) in
    record {
      refusal =
          refusal-above layers layer c.object_hash.result c.object_hash.ensures.some c.object_hash.ensures.kind
          c.object_hash-2.result true few c.object_hash-2.ensures (sym c.if-ne.true ∙ c.ne.ensures)
          ∙ ap (λ (n : ℕ). Some (HashMismatch n)) (ap length (sym c.layers.ensures.same));
      opened = All-push IsOpened layers layer c.num_commits.ensures.graph.opened c.num_commits-2.ensures.layer;
    }

pub returns : goal.returns
returns c =
    let layers = c.args.graph.now in
    let layer = c.args.file.now in
    let few : total (layers ++ layer ∷ []) ≤ MAX_COMMITS =
    omega (
      arith,
      c.num_commits.ensures.commits,
      c.num_commits-2.ensures.ids,
      sum_by_push size layers layer,
      c.if-sum.false,
    ) in
    record {
      refusal =
          refusal-above layers layer c.object_hash.result c.object_hash.ensures.some c.object_hash.ensures.kind
          c.object_hash-2.result false few c.object_hash-2.ensures (sym c.if-ne.false ∙ c.ne.ensures);
      opened = All-push IsOpened layers layer c.num_commits.ensures.graph.opened c.num_commits-2.ensures.layer;
    }
