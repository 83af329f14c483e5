-- what C says of a limit
use Rattle.std.specs.Prelude.{is_some}
use Rattle.graph_history.specs.Limits.{Bound}
use Rattle.c_opening.specs.declared.flags.CgLimit.{CgLimit}

-- how many commits may be visited, and whether there is a flag
abbrev pub told_bound : CgLimit → Bound
told_bound limit = record { visits = limit.visits; flagged = is_some limit.flag.address.held }
