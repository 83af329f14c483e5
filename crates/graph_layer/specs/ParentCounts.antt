-- how many commits have each number of parents, as a check counts them
use Rattle.std.specs.Prelude.{ℕ, Option, nat_lt, slice_index, if◌then◌else◌}
use Rattle.std.specs.BTreeMap.{get}
use Rattle.std.specs.Ordering.{nat_cmp}
use Rattle.graph_walks.specs.Counts.{above_zero}
use Rattle.graph_layer.specs.declared.counts.ParentCounts.{ParentCounts}

-- how many commits have this number of parents, where some have it
abbrev pub counted : ParentCounts → ℕ → Option ℕ
counted counts k = if nat_lt k 3 then above_zero (slice_index counts.few k) else get nat_cmp counts.more k
