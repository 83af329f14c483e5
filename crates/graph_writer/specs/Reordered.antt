-- Commits that are handed in in another order, and their filters with them.
use Rattle.std.specs.Prelude.{◌≡◌, ℕ, List, Option, length, map, option_map}
use Rattle.std.specs.List.{range_with_len, zip}
use Rattle.std.specs.List.Sorted.{IsPermutation}
use Rattle.graph_writer.specs.NewFilters.{new_filter, filter_numbers}
use Rattle.graph_writer.specs.declared.commit.NewCommit.{NewCommit}
use Rattle.graph_writer.specs.declared.filters.NewFilters.{NewFilters}

-- each commit, and the filter that is handed in with it, if filters are
abbrev pub with_filters : List NewCommit → Option NewFilters → List (NewCommit × Option (List ℕ))
with_filters commits filters =
    zip commits (map (λ i. option_map (λ f. new_filter f i) filters) (range_with_len 0 (length commits)))

-- The commits are the same in another order, each with the same filter, and so are the numbers before the filters.
pub record AreReordered (commits : List NewCommit) (filters : Option NewFilters) (others : List NewCommit)
    (other_filters : Option NewFilters) : Type 0 where
  pub moved : IsPermutation (with_filters commits filters) (with_filters others other_filters)
  pub numbers : option_map filter_numbers filters ≡ option_map filter_numbers other_filters
