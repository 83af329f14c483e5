-- What the steps of an opener answer, as expected.
use Rattle.std.proofs.Common.{◌≡◌, ℕ, List, Some, None, Result, Ok, Err, IfOk, refl, sym, ap, subst, ⊎_elim}
use Rattle.std.specs.Prelude.{MatchResult}
use Rattle.graph_format.specs.Layer.{Layer, IsLayer}
use Rattle.graph_layer.specs.OpenAnswer.{IsAsExpected, result_map_err}
use Rattle.graph_format.specs.Opened.{MayRefuse}
use Rattle.graph_layer.specs.LayerOpening.{layer_of_bytes}
use Rattle.graph_layer.specs.OpenRefusals.{layer_refused}
use Rattle.graph_format.specs.Refusal.{refusal}
use Rattle.graph_format.specs.declared.error.FileError.{FileError}
use Rattle.graph_format.specs.declared.error.FileError.TheVariants.{OutOfMemory as file_OutOfMemory}
use Rattle.graph_layer.specs.declared.opening.error.OpenError.{OpenError}
use Rattle.graph_layer.specs.declared.opening.error.OpenError.TheVariants.{NothingFound, NotOpened, Device, ChainNotText}
use Rattle.graph_layer.specs.declared.opening.error.OpenError.TheVariants.{Layer as layer_error, Graph as graph_error}
use Rattle.graph_layer.specs.declared.opening.error.OpenError.TheVariants.{OutOfMemory}
use Rattle.graph_format.proofs.DecidedFileLemmas.{answered}

-- what is expected is an answer as expected
pub as_expected : {A : Type 0} (expected : Result A OpenError) → IsAsExpected expected expected
as_expected (Ok x) = refl
as_expected (Err NothingFound) = refl
as_expected (Err NotOpened) = refl
as_expected (Err Device) = tt
as_expected (Err (ChainNotText line)) = refl
as_expected (Err (layer_error i error)) = refl
as_expected (Err (graph_error error)) = refl
as_expected (Err OutOfMemory) = tt

refused_as : (i : ℕ) (bytes path : List ℕ) (e : FileError) → MayRefuse bytes e
    → IsAsExpected (Err (layer_refused i e)) (layer_of_bytes i bytes path)
refused_as i bytes path e may = ⊎_elim
    (λ (is : refusal bytes ≡ Some e).
    let same : Err (layer_refused i e) ≡ layer_of_bytes i bytes path =
    sym (ap (result_map_err (layer_refused i)) (((answered bytes path).error e).1 is)) in
    subst (λ (expected : Result Layer OpenError). IsAsExpected (Err (layer_refused i e)) expected) same
    (as_expected (Err (layer_refused i e))))
    (λ (no_memory : (e ≡ file_OutOfMemory) × (refusal bytes ≡ None)).
    subst (λ (d : FileError). IsAsExpected (Err (layer_refused i d)) (layer_of_bytes i bytes path)) (sym no_memory.0) tt)
    may

-- the answer for a file's bytes, with its error as an opener's
pub layer_opens : (i : ℕ) (bytes path : List ℕ) (answer : Result Layer FileError)
    → IfOk answer (IsLayer bytes path) → MatchResult answer (λ _. refusal bytes ≡ None) (MayRefuse bytes)
    → IsAsExpected (result_map_err (layer_refused i) answer) (layer_of_bytes i bytes path)
layer_opens i bytes path (Ok layer) is may =
    let expected : Ok layer ≡ layer_of_bytes i bytes path =
    sym (ap (result_map_err (layer_refused i)) (((answered bytes path).layer layer).1 is)) in
    subst (IsAsExpected (Ok layer)) expected (as_expected (Ok layer))
layer_opens i bytes path (Err e) is may = refused_as i bytes path e may
