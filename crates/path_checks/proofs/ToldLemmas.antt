-- What is told of a check.
use Rattle.std.proofs.Common.{subst}
use Rattle.std.specs.Prelude.{Result, Ok, Err, IfErr, OnOk}
use Rattle.tree_requests.specs.declared.error.TreeRequestError.{TreeRequestError}
use Rattle.filter_checks.specs.declared.refusal.RefusedFilter.{RefusedFilter}
use Rattle.path_checks.specs.RightByStream.{MayTellOf}
use Rattle.path_checks.specs.ToldFault.{IsToldBy}
use Rattle.path_checks.specs.declared.error.PathsError.{PathsError}
use Rattle.path_checks.specs.declared.error.PathsError.TheVariants.{Filter, Device, OutOfMemory, WriteFailed}

-- what holds where the check is passed holds where that is told
pub told_right : {X : Type 0} (checked : Result X (RefusedFilter TreeRequestError)) (told : Result X PathsError) (P : Type 0)
    → IsToldBy checked told → OnOk checked P → OnOk told P
told_right checked (Ok x) P is right = subst (λ (r : Result _ (RefusedFilter TreeRequestError)). OnOk r P) is right
told_right checked (Err error) P is right = tt

-- a filter that is refused is told by its fault
pub told_refused : {X : Type 0} (P : RefusedFilter TreeRequestError → Type 0)
    (checked : Result X (RefusedFilter TreeRequestError)) (told : Result X PathsError)
    → IsToldBy checked told → IfErr checked P → IfErr told (MayTellOf P)
told_refused P checked (Ok x) is refused = tt
told_refused P checked (Err (Filter pos fault)) is refused =
    let told = subst (λ (r : Result _ (RefusedFilter TreeRequestError)). IfErr r P) is.2 refused in
    (is.0, is.1, told)
told_refused P checked (Err Device) is refused = tt
told_refused P checked (Err OutOfMemory) is refused = tt
told_refused P checked (Err WriteFailed) is refused = tt

-- with a weaker claim
pub on_ok_weaker : {X E : Type 0} (result : Result X E) (P Q : Type 0) → (P → Q) → OnOk result P → OnOk result Q
on_ok_weaker (Ok x) P Q weaker it = weaker it
on_ok_weaker (Err error) P Q weaker it = tt

pub if_err_weaker : {X E : Type 0} (result : Result X E) (P Q : E → Type 0) → ((error : E) → P error → Q error)
    → IfErr result P → IfErr result Q
if_err_weaker (Ok x) P Q weaker it = tt
if_err_weaker (Err error) P Q weaker it = weaker error it
