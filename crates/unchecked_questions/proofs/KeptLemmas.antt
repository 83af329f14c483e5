-- A graph that was opened while no read failed may stay.
use Rattle.std.proofs.Common.{◌≡◌, ℕ, List, Option, Result, Ok, Err, refl, arith}
use Rattle.graph_folder.specs.Tree.{Tree}
use Rattle.graph_format.specs.Layer.{Layer}
use Rattle.graph_layer.specs.declared.opening.error.OpenError.{OpenError}
use Rattle.graph_layer.specs.declared.opening.error.OpenError.TheVariants.{Device}
use Rattle.gix_commitgraph.specs.Opening.{MetFailureIfDevice, MetNoFailure, StandingOpens, standing_at}
use Rattle.gix_commitgraph.specs.declared.opening.Standing.{Standing}
use Rattle.gix_commitgraph.specs.declared.opening.Standing.TheVariants.{File, ChainDir, InfoDir, Nothing}
use Rattle.graph_commands.specs.OpenerAnswer.{MayOpen}
use Rattle.unchecked_questions.specs.KeptGraphs.{MayStay}

abbrev opened : List Layer → Result (List Layer) OpenError
opened layers = Ok layers

abbrev failed : Result (List Layer) OpenError
failed = Err Device

met_none : (layers : List Layer) (old new : ℕ) → MetFailureIfDevice (opened layers) old new
met_none layers old new = λ other small. let clash : opened layers ≡ failed = other in cc

-- what stands at a path is opened so whenever no read fails
standing-stays : (standing : Standing) (tree : Tree) (path : List ℕ) (old new failures : ℕ) (layers : List Layer)
    → MetNoFailure old new → StandingOpens standing tree path old new (Ok layers)
    → StandingOpens standing tree path failures failures (Ok layers)
standing-stays File tree path old new failures layers met opens = (opens.0, refl)
standing-stays ChainDir tree path old new failures layers met opens = (opens.0, refl)
standing-stays InfoDir tree path old new failures layers met opens =
    (λ none. opens.0 met, λ rose. absurd (omega (arith, rose)))
standing-stays Nothing tree path old new failures layers met opens = absurd opens

pub may_stay : (known : Option Tree) (path : List ℕ) (old new : ℕ) (layers : List Layer) → MetNoFailure old new
    → MayOpen known path old new (Ok layers) → MayStay known path layers
may_stay known path old new layers met opens failures = (
  λ tree is. standing-stays (standing_at tree path) tree path old new failures layers met (opens.0 tree is),
  opens.1,
  met_none layers failures failures,
)
