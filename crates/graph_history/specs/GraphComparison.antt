-- what is answered where a commit of a graph is compared with some others
use Rattle.std.specs.Prelude.{◌≡◌, ◌⊎◌, ℕ, ◌<◌, List, All, None}
use Rattle.graph_format.specs.Layer.{Layer}
use Rattle.graph_format.specs.OptionalChunks.{HasDates}
use Rattle.graph_format.specs.StoredHistory.{history_of}
use Rattle.gix_commitgraph.specs.Graph.{total}
use Rattle.commit_search.specs.Positions.{numbers_of}
use Rattle.commit_search.specs.Cardinality.{IsNumberOf}
use Rattle.graph_bases.specs.Bases.{AreMergeBases, IsAhead, IsBehind, AreVisitsBy}
use Rattle.commit_search.specs.Ranks.{Ranking, by_date, by_generation}
use Rattle.graph_bases.specs.declared.bases.Comparison.{Comparison}
use Rattle.graph_chunks.specs.GraphDates.{AreRightByDecodedParents, graph_dates_refusal}
use Rattle.graph_chunks.specs.GraphStoredDates.{dates_of}

-- The merge bases of a commit of a graph and some others, how far they have come apart, and how many commits were visited for
-- that, in the order of these ranks.
pub record IsComparisonOfBy (layers : List Layer) (ranking : Ranking) (first : ℕ) (others : List ℕ) (comparison : Comparison)
    : Type 0 where
  pub bases : AreMergeBases (history_of layers) first others (numbers_of comparison.bases.positions.items)
  pub within : All (λ base. base.0 < total layers) comparison.bases.positions.items
  pub visits : AreVisitsBy (history_of layers) ranking first others comparison.bases.visits
  pub ahead : IsNumberOf comparison.divergence.ahead (IsAhead (history_of layers) first others)
  pub behind : IsNumberOf comparison.divergence.behind (IsBehind (history_of layers) first others)

-- the same in the order of the generation numbers
abbrev pub IsComparisonOf : List Layer → ℕ → List ℕ → Comparison → Type 0
IsComparisonOf layers first others comparison =
    IsComparisonOfBy layers (by_generation (history_of layers)) first others comparison

-- These are the corrected dates of a graph: each layer has dates, and none of them is refused ("corrected commit date" in Git's
-- commit-graph design).
pub record AreDatesOf (layers : List Layer) (dates : List ℕ) : Type 0 where
  pub all : All HasDates layers
  pub accepted : graph_dates_refusal layers ≡ None
  pub stored : dates ≡ dates_of layers
  pub right : AreRightByDecodedParents layers dates

-- a search over a right graph may order commits by these ranks: the generation numbers, or the graph's corrected dates
abbrev pub IsRankingOf : List Layer → Ranking → Type 0
IsRankingOf layers ranking =
    (ranking ≡ by_generation (history_of layers)) ⊎ ((dates : List ℕ) × AreDatesOf layers dates × (ranking ≡ by_date dates))

-- a comparison in the order of such ranks
abbrev pub IsComparisonInOrder : List Layer → ℕ → List ℕ → Comparison → Type 0
IsComparisonInOrder layers first others comparison =
    (ranking : Ranking) × IsRankingOf layers ranking × IsComparisonOfBy layers ranking first others comparison
