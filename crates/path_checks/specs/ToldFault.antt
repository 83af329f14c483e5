-- What is told of a check, and of a filter that it refuses. For private contracts.
use Rattle.std.specs.Prelude.{◌≡◌, ⊤, Result, Ok, Err, IsErr}
use Rattle.graph_format.specs.declared.Position.{Position}
use Rattle.tree_requests.specs.declared.error.TreeRequestError.{TreeRequestError}
use Rattle.filter_checks.specs.declared.refusal.FilterRefusal.{FilterRefusal}
use Rattle.filter_checks.specs.declared.refusal.RefusedFilter.{RefusedFilter}
use Rattle.path_checks.specs.RightByStream.{IsFaultOf}
use Rattle.path_checks.specs.declared.error.PathsError.{PathsError}
use Rattle.path_checks.specs.declared.error.PathsError.TheVariants.{Filter, Device, OutOfMemory, WriteFailed}

-- the filter at a position is refused for a reason; or a read or a write failed, or memory ran out
abbrev pub IsErrorOf : Position → FilterRefusal TreeRequestError → PathsError → Type 0
IsErrorOf pos refusal (Filter at fault) = (at ≡ pos) × IsFaultOf refusal fault
IsErrorOf pos refusal Device = ⊤
IsErrorOf pos refusal OutOfMemory = ⊤
IsErrorOf pos refusal WriteFailed = ⊤

-- a check that is passed or refused is told as it is, unless a write failed
abbrev pub IsToldBy : {X : Type 0} → Result X (RefusedFilter TreeRequestError) → Result X PathsError → Type 0
IsToldBy checked (Ok x) = checked ≡ Ok x
IsToldBy checked (Err (Filter pos fault)) =
    (refusal : FilterRefusal TreeRequestError) × IsFaultOf refusal fault × (checked ≡ Err (record { pos = pos; why = refusal }))
IsToldBy checked (Err Device) = IsErr checked
IsToldBy checked (Err OutOfMemory) = IsErr checked
IsToldBy checked (Err WriteFailed) = ⊤
