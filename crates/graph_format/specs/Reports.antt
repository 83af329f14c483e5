-- how a check reports the first condition that holds
use Rattle.std.specs.Prelude.{◌≡◌, Option, Some, None, Result, Ok, Err}

-- an error is the fault, and without a fault there is none
abbrev pub Reports : {T E : Type 0} → Result T E → Option E → Type 0
Reports (Ok x) fault = fault ≡ None
Reports (Err e) fault = fault ≡ Some e
