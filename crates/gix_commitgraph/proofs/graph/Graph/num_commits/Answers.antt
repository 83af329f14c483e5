use Rattle.std.proofs.Common.{◌≡◌, ◌+◌, ◌-◌, ◌<◌, Some, List, ℕ, length, slice_get, ap, subst, arith}
use Rattle.graph_format.specs.Layer.{Layer}
use Rattle.gix_commitgraph.specs.Graph.{total, IsGraph}
use Rattle.gix_commitgraph.proofs.layers.LayerStartLemmas.{start-kept, layer-kept, last-stop}
use Rattle.gix_commitgraph.proofs.graph.Graph.num_commits.Goals as goal

-- what is read at the number of the last layer is that layer
read-last : (layers : List Layer) (at last : ℕ) (layer : Layer) → at ≡ last → slice_get layers at ≡ Some layer
    → slice_get layers last ≡ Some layer
read-last layers at last layer same here = subst (λ i. slice_get layers i ≡ Some layer) same here

-- the start of the last layer and its commits
all-commits : (c : goal.After-num_commits) → c.index.result.now + c.num_commits.result ≡ total c.args.self.now
all-commits c =
    let layers = c.args.self.now in
    let files = c.self.inside.files.items in
    let last = c.len-last.result - 1 in
    let graph : IsGraph layers = subst IsGraph c.self.view_is c.self.invariant.graph in
    let is_last : last + 1 ≡ length layers =
    omega (arith, graph.makes.some, c.len-last.ensures, c.self.inside.files.ok.0, ap length c.self.view_is) in
    let within : last < length layers = omega arith in
    let first =
    start-kept layers files c.self.inside.starts.items last c.index.result.now c.self.view_is c.self.invariant within
    c.index.ensures in
    let read = layer-kept layers files _ c.index-2.result.now c.self.view_is (omega (arith, within)) c.index-2.ensures in
    let here = read-last layers _ last c.index-2.result.now (omega (arith, within)) read in
    omega (arith, c.num_commits.ensures.ids, last-stop layers last c.index.result.now c.index-2.result.now is_last first here)

pub overflow_add-result : goal.overflow_add-result
overflow_add-result c =
    let graph : IsGraph c.args.self.now = subst IsGraph c.self.view_is c.self.invariant.graph in
    omega (arith, graph.makes.few, all-commits c)

pub returns-clause-commits : goal.returns-clause-commits
returns-clause-commits c = all-commits c
