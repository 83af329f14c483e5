-- laws of the layers of a graph, each with the positions of its commits
use Rattle.std.proofs.Common.{◌≡◌, ℕ, ◌+◌, ◌^◌, ◌<◌, ◌≤◌, List, [], ◌∷◌, ◌++◌, Some, length, take, slice_get, sym, ap, subst, ◌∙◌}
use Rattle.std.proofs.Common.{arith, length-take}
use Rattle.std.proofs.lemmas.List.{length-map}
use Rattle.graph_format.specs.Layer.{Layer}
use Rattle.graph_layer.specs.Commit.{commit_layer, commit_pos, layer_and_position, commit_record, commit_parents}
use Rattle.graph_format.specs.Parents.{edge_of, items_of}
use Rattle.gix_commitgraph.specs.Graph.{graph_commits, total}
use Rattle.graph_format.specs.Layer.{IsOpened}
use Rattle.gix_commitgraph.specs.InGraph.{InGraph}
use Rattle.graph_walks.specs.History.{generation_at, parents_at}
use Rattle.graph_format.specs.StoredHistory.{history_of}
use Rattle.gix_commitgraph.specs.LayerSpans.{IsSpan, IsInSpan}
use Rattle.graph_layer.specs.declared.file.commit.Commit.{Commit}
use Rattle.gix_commitgraph.specs.declared.verify.span.LayerSpan.{LayerSpan}
use Rattle.gix_commitgraph.proofs.layers.LayerListLemmas.{size, start-more, start-fits, graph_commits-counted}
use Rattle.gix_commitgraph.proofs.history.HistoryLemmas.{node_at, generation-at, parents-at, take-history}
use Rattle.gix_commitgraph.proofs.lookup.ElementLemmas.{all-at}
use Rattle.graph_layer.proofs.ParentCountLemmas.{both-few}
use Rattle.graph_layer.proofs.ParentItemLemmas.{numbers_of, numbers-parents}

-- where a layer ends
pub span-stop : (layers : List Layer) (span : LayerSpan) → IsSpan layers span → span.stop ≡ span.start + size span.file.now
span-stop layers span is = omega (arith, is.start, is.stop, start-more layers span.layer span.file.now is.there)

pub span-total : (layers : List Layer) (span : LayerSpan) → IsSpan layers span → span.stop ≤ total layers
span-total layers span is = omega (arith, is.stop, start-fits layers (span.layer + 1))

-- a commit of the layer stands in the graph
pub span-commit : (layers : List Layer) (span : LayerSpan) (commit : Commit) (p : ℕ) → IsSpan layers span → IsInSpan span commit p
    → InGraph layers p commit
span-commit layers span commit p is at =
    let below : commit_pos commit < size span.file.now =
    subst (λ (l : Layer). commit_pos commit < size l) at.layer commit.in_range in
    ap (slice_get (graph_commits layers)) at.at
    ∙ graph_commits-counted layers span.layer span.start (commit_pos commit) span.file.now is.start is.there below
    ∙ ap (λ (l : Layer). Some (l, commit_pos commit)) (sym at.layer)

-- what is stored of a commit is what the history tells
pub generation-in_graph : (layers : List Layer) (span : LayerSpan) (commit : Commit) (p : ℕ) → IsSpan layers span
    → InGraph layers p commit → (commit_record commit).generation ≡ generation_at (history_of layers) p
generation-in_graph layers span commit p is here =
    sym (generation-at layers p (commit_pos commit) (commit_layer commit) is.graph.opened here)

-- and so are its parents
pub numbers-in_graph : (layers : List Layer) (span : LayerSpan) (commit : Commit) (p : ℕ) → IsSpan layers span
    → InGraph layers p commit → numbers_of (items_of (commit_parents commit)) ≡ parents_at (history_of layers) p
numbers-in_graph layers span commit p is here = numbers-parents (commit_parents commit)
    ∙ sym (parents-at layers p (commit_pos commit) (commit_layer commit) is.graph.opened here)

-- the layer was opened
pub span-opened : (layers : List Layer) (span : LayerSpan) → IsSpan layers span → IsOpened span.file.now
span-opened layers span is = all-at IsOpened layers span.layer span.file.now is.graph.opened is.there

-- their number fits 32 bits
pub numbers-few : (layers : List Layer) (span : LayerSpan) (commit : Commit) (p : ℕ) → IsSpan layers span → IsInSpan span commit p
    → length (numbers_of (items_of (commit_parents commit))) ≤ 4294967295
numbers-few layers span commit p is at =
    let opened : IsOpened (commit_layer commit) = subst IsOpened (sym at.layer) (span-opened layers span is) in
    let few =
    both-few (edge_of (commit_record commit).parent1) (edge_of (commit_record commit).parent2) (commit_layer commit).edges
    opened.few_edges in
    omega (
      arith,
      few,
      ap length (numbers-parents (commit_parents commit)),
      length-map (commit_parents commit).positions (λ pos.
          pos.0),
    )

-- the commits up to and with one
pub take-next : (layers : List Layer) (span : LayerSpan) (commit : Commit) (q next p : ℕ) → IsSpan layers span
    → InGraph layers p commit → p ≡ span.start + q → next ≡ q + 1
    → take (span.start + next) (history_of layers)
    ≡ take (span.start + q) (history_of layers) ++ node_at (layer_and_position commit) ∷ []
take-next layers span commit q next p is here at more =
    ap (λ (n : ℕ). take n (history_of layers)) (omega arith)
    ∙ take-history layers p (commit_pos commit) (commit_layer commit) is.graph.opened here
    ∙ ap (λ (n : ℕ). take n (history_of layers) ++ node_at (layer_and_position commit) ∷ []) at

-- how many commits stand before one
pub take-fits : (layers : List Layer) (span : LayerSpan) (q : ℕ) → IsSpan layers span → q < size span.file.now
    → length (take (span.start + q) (history_of layers)) + 1 < 2 ^ 32
take-fits layers span q is below =
    omega (
      arith,
      length-take (span.start + q) (history_of layers),
      span-stop layers span is,
      span-total layers span is,
      is.graph.makes.few,
    )

pub parents-told : (layers : List Layer) (span : LayerSpan) (commit : Commit) (p n : ℕ) → IsSpan layers span
    → InGraph layers p commit → n ≡ length (parents_at (history_of layers) p)
    → n ≡ length (node_at (layer_and_position commit)).parents
parents-told layers span commit p n is here counted = counted
    ∙ ap length (parents-at layers p (commit_pos commit) (commit_layer commit) is.graph.opened here)
