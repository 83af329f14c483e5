-- Comparisons of commits of a graph in memory that is right.
use Rattle.std.proofs.Common.{◌≡◌, ◌<◌, ℕ, List, All, Result, Ok, Err, IfOk, sym, ap}
use Rattle.graph_walks.specs.Walks.{CountWalks}
use Rattle.graph_format.specs.Layer.{Layer}
use Rattle.graph_format.specs.StoredHistory.{history_of}
use Rattle.gix_commitgraph.specs.Graph.{total}
use Rattle.gix_commitgraph.specs.Sound.{Sound}
use Rattle.commit_search.specs.Source.{Told, told_of}
use Rattle.graph_bases.specs.Comparison.{IsComparisonBy, IsComparisonIn}
use Rattle.commit_search.specs.Ranks.{Ranking, FallsAlongParents}
use Rattle.graph_history.specs.GraphComparison.{IsComparisonOf, IsComparisonOfBy}
use Rattle.graph_bases.specs.declared.bases.Comparison.{Comparison}

pub memory_comparison : (layers after : List Layer) → after ≡ layers → Sound layers → (a : ℕ) (bs : List ℕ) {E : Type 0}
    (r : Result Comparison E) → IfOk r (λ c. All (λ base. base.0 < total layers) c.bases.positions.items)
    → IfOk r (λ c. (t : Told) → t ≡ told_of after → CountWalks t.history → IsComparisonIn t.history a bs c)
    → IfOk r (IsComparisonOf layers a bs)
memory_comparison layers after same right a bs (Ok comparison) within exact =
    let is = exact (told_of layers) (ap told_of (sym same)) right.generations in
    record { bases = is.bases; within = within; visits = is.visits; ahead = is.ahead; behind = is.behind }
memory_comparison layers after same right a bs (Err e) within exact = tt

-- in the order of other ranks
pub ranked_comparison : (layers after : List Layer) → after ≡ layers → (k : Ranking) → FallsAlongParents (history_of layers) k
    → (a : ℕ) (bs : List ℕ) {E : Type 0} (r : Result Comparison E)
    → IfOk r (λ c. All (λ base. base.0 < total layers) c.bases.positions.items)
    → IfOk r (λ c. (t : Told) → t ≡ told_of after → FallsAlongParents t.history k → IsComparisonBy t.history k a bs c)
    → IfOk r (IsComparisonOfBy layers k a bs)
ranked_comparison layers after same k along a bs (Ok comparison) within exact =
    let is = exact (told_of layers) (ap told_of (sym same)) along in
    record { bases = is.bases; within = within; visits = is.visits; ahead = is.ahead; behind = is.behind }
ranked_comparison layers after same k along a bs (Err e) within exact = tt
