-- From what was made and what was written to the answer of `list`.
use Rattle.std.proofs.Common.{ℕ, List, refl}
use Rattle.std.specs.Prelude.{Option, Some, None, Result, Ok, Err, IfOk, IfSome}
use Rattle.std.specs.Io.KnownBytes.{Appends}
use Rattle.graph_commands.specs.declared.refusal.Refusal.{Refusal}
use Rattle.graph_commands.specs.WrittenAnswer.{WritesAnswer, WritesRefusal}
use Rattle.graph_format.specs.Layer.{Layer}
use Rattle.graph_commands.specs.Listing.{listing_text}
use Rattle.graph_commands.specs.List.{MayList, list_text, list_status}

-- a listing that was written
pub writes_listing : (known old new : Option (List ℕ)) (layer : Layer)
    → IfSome known (λ input. MayList input (Ok layer)) → Appends old new (listing_text layer)
    → IfSome known (λ input. WritesAnswer list_text list_status (MayList input) old new 0)
writes_listing None old new layer may written = tt
writes_listing (Some input) old new layer may written = (Ok layer, may, written, refl)

-- a refusal that was written, if it was
pub writes_refusal : {E : Type 0} (known old new : Option (List ℕ)) (refusal : Refusal) (result : Result ℕ E)
    → IfSome known (λ input. MayList input (Err refusal)) → IfOk result (WritesRefusal refusal old new)
    → IfOk result (λ status. IfSome known (λ input. WritesAnswer list_text list_status (MayList input) old new status))
writes_refusal known old new refusal (Err failed) may written = tt
writes_refusal None old new refusal (Ok status) may written = tt
writes_refusal (Some input) old new refusal (Ok status) may written = (Err refusal, may, written.0, written.1)
