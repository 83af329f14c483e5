-- the numbers by which searches for merge bases order the commits of a right graph
use Rattle.std.specs.Prelude.{◌≡◌, ◌⊎◌, ℕ, List, Option, IfNone, IfSome}
use Rattle.graph_format.specs.Layer.{Layer}
use Rattle.graph_format.specs.StoredHistory.{history_of}
use Rattle.commit_search.specs.Ranks.{Ranking, by_date, by_generation}
use Rattle.graph_bases.specs.declared.bases.Comparison.{Comparison}
use Rattle.graph_history.specs.GraphComparison.{AreDatesOf, IsComparisonOfBy}

-- the corrected dates of a graph, or none, where a layer has none or one is wrong
abbrev pub AreFoundDates : List Layer → Option (List ℕ) → Type 0
AreFoundDates layers found = IfSome found (AreDatesOf layers) × IfNone found ((dates : List ℕ) → ¬ AreDatesOf layers dates)

-- Git's "generation number" of each commit of a right graph, in the higher of its two versions that the graph has: the corrected
-- commit dates, where each layer has them and none is wrong, and else the topological levels (Git's commit-graph design).
abbrev pub IsOrderOf : List Layer → Ranking → Type 0
IsOrderOf layers ranking =
    ((dates : List ℕ) × AreDatesOf layers dates × (ranking ≡ by_date dates))
    ⊎ (((dates : List ℕ) → ¬ AreDatesOf layers dates) × (ranking ≡ by_generation (history_of layers)))

-- what commits have in common, by a search in that order
abbrev pub IsOrderedComparison : List Layer → ℕ → List ℕ → Comparison → Type 0
IsOrderedComparison layers first others comparison =
    (ranking : Ranking) × IsOrderOf layers ranking × IsComparisonOfBy layers ranking first others comparison
