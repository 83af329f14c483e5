-- When `check` refuses a graph for want of memory alone.
use Rattle.std.specs.Prelude.{◌≡◌}
use Rattle.gix_commitgraph.specs.declared.verify.VerifyError.TheVariants as verify_error
use Rattle.graph_chunks.specs.declared.dates.DatesError.TheVariants as date_error
use Rattle.graph_chunks.specs.declared.filters.FiltersError.TheVariants as filter_error
use Rattle.graph_commands.specs.declared.refusal.Refusal.TheVariants.{Verify}
use Rattle.history_commands.specs.declared.check.CheckRefusal.{CheckRefusal}
use Rattle.history_commands.specs.declared.check.CheckRefusal.TheVariants.{Graph, Dates, Filters}

-- memory ran out: in the check of the graph, or where its dates or its filters were read
abbrev pub IsShortOfMemory : CheckRefusal → Type 0
IsShortOfMemory (Graph refusal) = refusal ≡ Verify verify_error.OutOfMemory
IsShortOfMemory (Dates fault) = fault ≡ date_error.OutOfMemory
IsShortOfMemory (Filters fault) = fault ≡ filter_error.OutOfMemory
