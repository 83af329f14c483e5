-- what is answered where a commit is compared with some others
use Rattle.std.specs.Prelude.{ℕ, List}
use Rattle.graph_walks.specs.History.{Node}
use Rattle.commit_search.specs.Positions.{numbers_of}
use Rattle.commit_search.specs.Cardinality.{IsNumberOf}
use Rattle.graph_bases.specs.Bases.{AreMergeBases, IsAhead, IsBehind, AreVisitsBy}
use Rattle.commit_search.specs.Ranks.{Ranking, by_generation}
use Rattle.graph_bases.specs.declared.bases.Comparison.{Comparison}

-- The merge bases of a commit of a history and some others, how far they have come apart, and how many commits were visited for
-- that, in the order of these ranks.
pub record IsComparisonBy (history : List Node) (ranking : Ranking) (first : ℕ) (others : List ℕ) (comparison : Comparison)
    : Type 0 where
  pub bases : AreMergeBases history first others (numbers_of comparison.bases.positions.items)
  pub visits : AreVisitsBy history ranking first others comparison.bases.visits
  pub ahead : IsNumberOf comparison.divergence.ahead (IsAhead history first others)
  pub behind : IsNumberOf comparison.divergence.behind (IsBehind history first others)

-- the same in the order of the generation numbers
abbrev pub IsComparisonIn : List Node → ℕ → List ℕ → Comparison → Type 0
IsComparisonIn history first others comparison = IsComparisonBy history (by_generation history) first others comparison
