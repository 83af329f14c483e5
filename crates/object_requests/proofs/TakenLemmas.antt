-- Why no entry that answers a request is taken.
use Rattle.std.proofs.Common.{◌≡◌, ℕ, ◌<◌, List, [], length, slice_get, Option, Some, None}
use Rattle.std.specs.Prelude.{IfSome, slice_index_or}
use Rattle.std.proofs.lemmas.Option.{slice_get-get_or}
use Rattle.object_requests.specs.Asked.{Asked}
use Rattle.object_requests.specs.TakenEntry.{MayRefuseOldest, MayRefuseFor}
use Rattle.object_requests.specs.declared.error.RequestError.{RequestError}

-- for a reason that may always come
pub refused_always : (r : Asked) (before : Option (List ℕ)) (error : RequestError) → r.taken < length r.asked
    → ((id bytes : List ℕ) → MayRefuseFor r.kind r.type id bytes error) → IfSome before (λ bytes. MayRefuseOldest r bytes error)
refused_always r None error some may = tt
refused_always r (Some bytes) error some may =
    let id = slice_index_or r.asked r.taken [] in
    (id, slice_get-get_or r.asked r.taken [] some, may id bytes)

-- for the reason that its stream has
pub refused_next : (r : Asked) (before : Option (List ℕ)) (id : List ℕ) (error : RequestError)
    → slice_get r.asked r.taken ≡ Some id → IfSome before (λ bytes. MayRefuseFor r.kind r.type id bytes error)
    → IfSome before (λ bytes. MayRefuseOldest r bytes error)
refused_next r None id error there may = tt
refused_next r (Some bytes) id error there may = (id, there, may)
