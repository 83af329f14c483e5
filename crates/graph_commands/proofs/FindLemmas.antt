-- what is found at a path, by what is found in a file and in a chain folder
use Rattle.std.proofs.Common.{◌≡◌, ℕ, List, Result, Ok, Err, Option, refl, ◌∙◌}
use Rattle.graph_folder.specs.Tree.{Tree}
use Rattle.graph_format.specs.Layer.{Layer}
use Rattle.graph_layer.specs.OpenAnswer.{failures_after_opening, is_settled}
use Rattle.graph_layer.specs.declared.opening.error.OpenError.{OpenError}
use Rattle.graph_layer.specs.declared.opening.error.OpenError.TheVariants.{NothingFound, NotOpened, Device, ChainNotText}
use Rattle.graph_layer.specs.declared.opening.error.OpenError.TheVariants.{Layer as layer_error, Graph as graph_error}
use Rattle.graph_layer.specs.declared.opening.error.OpenError.TheVariants.{OutOfMemory}
use Rattle.gix_commitgraph.specs.ByStanding.{PathComes}
use Rattle.gix_commitgraph.specs.Opening.{chain_opened, file_opened}
use Rattle.graph_commands.specs.Find.{FindsBy}
use Rattle.graph_commands.specs.OpenerAnswer.{MayOpen, OpensAs, OpensStopping}
use Rattle.graph_commands.specs.declared.report.Found.{Found}
use Rattle.graph_commands.proofs.OpenerLemmas.{comes-path, settled-alike}

-- an error as an answer of a search counts as that of an opener
counted-error : (error : OpenError) (count : ℕ)
    → failures_after_opening {A = Option Found} (Err error) count ≡ failures_after_opening {A = List Layer} (Err error) count
counted-error NothingFound count = refl
counted-error NotOpened count = refl
counted-error Device count = refl
counted-error (ChainNotText line) count = refl
counted-error (layer_error i error) count = refl
counted-error (graph_error error) count = refl
counted-error OutOfMemory count = refl

-- What a search finds that stops at the first failure of a device.
pub finds-stopping : (known : Option Tree) (id : List ℕ) (old new : ℕ) (opens : Tree → Result (List Layer) OpenError)
    (result : Result (Option Found) OpenError) → new ≡ failures_after_opening result old
    → FindsBy (OpensAs known opens) id result → FindsBy (OpensStopping known opens old new) id result
finds-stopping known id old new opens (Ok found) counted finds = (finds.0, (finds.1, counted), finds.2)
finds-stopping known id old new opens (Err error) counted finds = (finds, counted ∙ counted-error error old)

module _ (S : Type 0) (id : List ℕ) where
  abbrev finds : (Result (List Layer) OpenError → Type 0) → S → S → Result (Option Found) OpenError → Type 0
  finds MayOpen s t result = FindsBy MayOpen id result

  -- what is found by one opener is found by another that may answer as much
  finds-widen : (P Q : Result (List Layer) OpenError → Type 0) (s t : S) (result : Result (Option Found) OpenError)
      → ((given : Result (List Layer) OpenError) → is_settled given ≡ is_settled result → P given → Q given)
      → finds P s t result → finds Q s t result
  finds-widen P Q s t (Ok found) wider of = (of.0, wider (Ok of.0) refl of.1, of.2)
  finds-widen P Q s t (Err error) wider of = wider (Err error) (settled-alike (Option Found) error) of

  finds-error : (P : Result (List Layer) OpenError → Type 0) (s t : S) (error : OpenError) → finds P s t (Err error)
      → P (Err error)
  finds-error P s t error of = of

  finds-first : (P : Result (List Layer) OpenError → Type 0) (s : S) (error : OpenError) → P (Err error)
      → finds P s s (Err error)
  finds-first P s error of = of

  finds-next : (P Q : Result (List Layer) OpenError → Type 0) (s t u : S) (error : OpenError)
      (result : Result (Option Found) OpenError) → finds P s t (Err error) → finds Q t u result → finds Q s u result
  finds-next P Q s t u error result tried of = of

-- What stands at the path says what may be found there.
pub finds-path : {S : Type 0} (known : Option Tree) (id path : List ℕ) (old new : ℕ) (before after : S)
    (result : Result (Option Found) OpenError)
    → PathComes known
    (λ (file : List ℕ) (from to : ℕ) (s t : S). FindsBy (OpensStopping known (λ tree. file_opened tree file) from to) id)
    (λ (chain : List ℕ) (from to : ℕ) (s t : S). FindsBy (OpensStopping known (λ tree. chain_opened tree chain) from to) id)
    path old new before after result
    → FindsBy (MayOpen known path old new) id result
finds-path {S} known id path old new before after result of =
    comes-path (finds S id) (finds-widen S id) (finds-error S id) (finds-first S id) (finds-next S id) known path old new
    before after result of
