-- The order of a search over a base and the newer commits on top of it: the commits of the base by their corrected dates, and
-- each newer one before all of these ("corrected commit date", generation number v2, and "generation number infinity" in Git's
-- commit-graph design). Dates are in seconds since 1970-01-01 00:00:00 UTC.
use Rattle.std.specs.Prelude.{ℕ, ◌+◌, ◌-◌, nat_lt, if◌then◌else◌, min, List, length}
use Rattle.graph_walks.specs.Counts.{greatest}
use Rattle.graph_walks.specs.Dates.{number_at}
use Rattle.commit_search.specs.Ranks.{Ranking}

-- the date of a commit of the base; and of a newer one a number above all dates, and above that of each one that was added before
abbrev pub rank_on_top : List ℕ → ℕ → ℕ
rank_on_top dates p = if nat_lt p (length dates) then number_at dates p else greatest dates + 1 + (p - length dates)

-- the same, up to the greatest number of 64 bits
abbrev pub ranking_on_top : List ℕ → Ranking
ranking_on_top dates =
    record { rank = λ p. min (rank_on_top dates p) 18446744073709551615; cap = 18446744073709551615 }
