-- What `show` writes is the text of an answer that it may give.
use Rattle.std.proofs.Common.{ℕ, List, Result, Ok, Err}
use Rattle.std.specs.Prelude.{Option, IfOk}
use Rattle.graph_format.specs.Layer.{Layer}
use Rattle.graph_layer.specs.declared.opening.error.OpenError.{OpenError}
use Rattle.graph_commands.specs.Text.{◌⧺◌}
use Rattle.graph_commands.specs.WrittenAnswer.{WritesAnswer, WritesRefusal}
use Rattle.graph_commands.specs.declared.refusal.Refusal.TheVariants.{Open}
use Rattle.history_commands.specs.declared.check.CheckRefusal.{CheckRefusal}
use Rattle.show_commands.specs.Show.{MayShow, IsCheckVerdict, graph_text, verdict_line, verdict_status, show_text, show_status}

pub writes_shown : {E : Type 0} (May : Result (List Layer) OpenError → Type 0) (layers : List Layer) (result : Result ℕ E)
    (old new : Option (List ℕ)) → May (Ok layers)
    → IfOk result (WritesAnswer (λ (verdict : Option CheckRefusal). graph_text layers ⧺ verdict_line verdict) verdict_status
    (IsCheckVerdict layers) old new)
    → IfOk result (WritesAnswer show_text show_status (MayShow May) old new)
writes_shown May layers (Ok status) old new opens (verdict, is, written, same) =
    (Ok (layers, verdict), (opens, is), written, same)
writes_shown May layers (Err error) old new opens wrote = tt

pub writes_unopened : {E : Type 0} (May : Result (List Layer) OpenError → Type 0) (error : OpenError) (result : Result ℕ E)
    (old new : Option (List ℕ)) → May (Err error) → IfOk result (WritesRefusal (Open error) old new)
    → IfOk result (WritesAnswer show_text show_status (MayShow May) old new)
writes_unopened May error (Ok status) old new opens (written, same) = (Err error, opens, written, same)
writes_unopened May error (Err failed) old new opens wrote = tt
