-- what is told of many comparisons
use Rattle.std.specs.Prelude.{◌≡◌, ◌<◌, ◌≤◌, ◌⊎◌, ℕ, ◌-◌, ◌^◌, List, [], ◌∷◌, ⊤, length, map, min}
use Rattle.std.specs.List.{flat_map}
use Rattle.graph_format.specs.Layer.{Layer}
use Rattle.gix_commitgraph.specs.Graph.{total}
use Rattle.commit_search.specs.Positions.{numbers_of}
use Rattle.graph_bases.specs.declared.bases.Comparison.{Comparison}
use Rattle.c_opening.specs.Answers.{written}
use Rattle.c_opening.specs.ComparisonOrder.{IsOrderedComparison}
use Rattle.commitgraph_c.specs.declared.bases.CgBases.{CgBases}
use Rattle.commitgraph_c.specs.declared.compare.CgTwo.{CgTwo}

-- each compares the two commits that have its place
abbrev pub AreComparisonsOf : List Layer → List CgTwo → List Comparison → Type 0
AreComparisonsOf layers [] [] = ⊤
AreComparisonsOf layers [] (comparison ∷ comparisons) = ⊥
AreComparisonsOf layers (two ∷ twos) [] = ⊥
AreComparisonsOf layers (two ∷ twos) (comparison ∷ comparisons) =
    IsOrderedComparison layers two.first (two.other ∷ []) comparison × AreComparisonsOf layers twos comparisons

-- the positions of the merge bases, as numbers
abbrev pub base_positions : Comparison → List ℕ
base_positions comparison = numbers_of comparison.bases.positions.items

-- what is told of a comparison, as by TellsComparison
abbrev pub told_comparison : Comparison → CgBases
told_comparison comparison =
    record {
      code = 0;
      ahead = comparison.divergence.ahead;
      behind = comparison.divergence.behind;
      visits = comparison.bases.visits;
      length = length comparison.bases.positions.items;
    }

-- It is told of each two commits how far they have come apart; their merge bases are written, those of one pair after another's;
-- and how many these are, or the greatest number of 64 bits where there are more.
pub record TellsCompared (layers : List Layer) (twos : List CgTwo) (told : ℕ) (answers answered : List CgBases) (old new : List ℕ)
    : Type 0 where
  pub comparisons : List Comparison
  pub exact : AreComparisonsOf layers twos comparisons
  pub answers_of : answered ≡ written (map told_comparison comparisons) answers
  pub length_of : told ≡ min (length (flat_map base_positions comparisons)) (2 ^ 64 - 1)
  pub room : new ≡ written (flat_map base_positions comparisons) old

-- both positions are those of commits of a graph
abbrev pub AreTwo : List Layer → CgTwo → Type 0
AreTwo layers two = (two.first < total layers) × (two.other < total layers)

-- a position of the two is that of none
abbrev pub AreNotTwo : List Layer → CgTwo → Type 0
AreNotTwo layers two = (total layers ≤ two.first) ⊎ (total layers ≤ two.other)
