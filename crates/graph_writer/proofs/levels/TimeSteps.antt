-- Right corrected dates of a graph are early: a record has no room for a time of 2^34 or more, and there are few commits.
use Rattle.std.proofs.Common.{◌≡◌, ℕ, ◌^◌, ◌<◌, ◌≤◌, List, map, length, All, IsSomeAnd, slice_get}
use Rattle.std.proofs.Common.{Option, Some, None, unwrap_or, option_map, sym, ap, ◌∙◌, subst, ⊎_elim, arith}
use Rattle.std.proofs.lemmas.Bool.{cases_lt}
use Rattle.std.proofs.lemmas.Option.{slice_get-map}
use Rattle.graph_walks.specs.Counts.{greatest}
use Rattle.graph_walks.specs.Dates.{number_at, AreRight}
use Rattle.graph_walks.proofs.DateLemmas.{early}
use Rattle.graph_walks.proofs.GreatestLemmas.{greatest_reached}
use Rattle.gix_hash_core.specs.declared.kind.Kind.{Kind}
use Rattle.graph_format.specs.Format.{Record, record_of, record_len, pieces}
use Rattle.graph_format.specs.Layer.{Layer, IsOpened, record_at, no_record}
use Rattle.graph_format.specs.StoredHistory.{history_of}
use Rattle.graph_format.specs.declared.TheConstants.{MAX_COMMITS}
use Rattle.gix_commitgraph.specs.Graph.{graph_commits, total}
use Rattle.gix_commitgraph.proofs.history.HistoryLemmas.{length-history}
use Rattle.gix_commitgraph.proofs.layers.GraphLemmas.{commit-lies}
use Rattle.gix_commitgraph.proofs.lookup.ElementLemmas.{all-at}
use Rattle.graph_chunks.specs.GraphStoredDates.{times_of}

decoded-time : (kind : Kind) (bytes : List ℕ) → (record_of kind bytes).time < 2 ^ 34
unfolding record_of
decoded-time kind bytes = omega arith

read-time : (kind : Kind) (o : Option (List ℕ)) → (unwrap_or (option_map (record_of kind) o) no_record).time < 2 ^ 34
read-time kind None = omega arith
read-time kind (Some bytes) = decoded-time kind bytes

some-time : (layer : Layer) (n : ℕ) (o : Option (List ℕ)) (j : ℕ)
    → IsSomeAnd o (λ chunk. (length chunk ≡ n)
    × (layer.records ≡ map (record_of layer.kind) (pieces (record_len layer.kind) chunk)))
    → (record_at layer j).time < 2 ^ 34
unfolding record_at
some-time layer n None j h = absurd h
some-time layer n (Some chunk) j h =
    let all = pieces (record_len layer.kind) chunk in
    let read : slice_get layer.records j ≡ option_map (record_of layer.kind) (slice_get all j) =
    ap (λ (rs : List Record). slice_get rs j) h.1 ∙ slice_get-map (record_of layer.kind) all j in
    subst (λ (o : Option Record). (unwrap_or o no_record).time < 2 ^ 34) (sym read) (read-time layer.kind (slice_get all j))

time-of : (layers : List Layer) (p : ℕ) (place : Layer × ℕ) → All IsOpened layers
    → slice_get (graph_commits layers) p ≡ Some place
    → (record_at place.0 place.1).time < 2 ^ 34
time-of layers p (layer, j) opened here =
    let lies = commit-lies layers p j layer here in
    some-time layer _ _ j (all-at IsOpened layers lies.0 layer opened lies.1.there).records

greatest-time : (layers : List Layer) → All IsOpened layers → greatest (times_of layers) < 2 ^ 34
unfolding times_of
greatest-time layers opened =
    let f : Layer × ℕ → ℕ = λ place. (record_at place.0 place.1).time in
    ⊎_elim
    (λ (some : 0 < greatest (map f (graph_commits layers))).
    let found = greatest_reached f (graph_commits layers) some in
    omega (arith, found.3, time-of layers found.0 found.1 opened found.2))
    (λ (none : greatest (map f (graph_commits layers)) ≤ 0). omega arith)
    (cases_lt 0 (greatest (map f (graph_commits layers))))

pub early-dates : (layers : List Layer) (dates : List ℕ) → All IsOpened layers → total layers ≤ MAX_COMMITS
    → AreRight (history_of layers) (times_of layers) dates → (p : ℕ) → number_at dates p < 2 ^ 63
early-dates layers dates opened few right p =
    omega (
      arith,
      few,
      length-history layers opened,
      greatest-time layers opened,
      early (history_of layers) (times_of layers) dates p right,
    )
