-- What comes of opening a path anew beside a graph that stands.
use Rattle.std.specs.Prelude.{◌≡◌, ℕ, List, [], ◌++◌, Option, Some, None, Result, Ok, Err, Vec, ⊤}
use Rattle.graph_folder.specs.Tree.{Tree}
use Rattle.graph_format.specs.Layer.{Layer}
use Rattle.graph_layer.specs.OpenAnswer.{IsAsExpected, and_then, result_map}
use Rattle.graph_layer.specs.declared.opening.error.OpenError.{OpenError}
use Rattle.graph_layer.specs.declared.opening.error.OpenError.TheVariants.{OutOfMemory}
use Rattle.gix_commitgraph.specs.Graph.{IsGraph, total}
use Rattle.gix_commitgraph.specs.Opening.{graph_of_layers, layers_from}
use Rattle.gix_commitgraph.specs.Sound.{Sound}
use Rattle.gix_commitgraph.specs.declared.verify.VerifyError.{VerifyError}
use Rattle.graph_ancestors.specs.RefusedGraph.{MayRefuseGraph}
use Rattle.graph_ancestors.specs.declared.checking.NoFault.{NoFault}
use Rattle.graph_commands.specs.declared.refusal.Refusal.{Refusal}
use Rattle.graph_commands.specs.declared.refusal.Refusal.TheVariants.{Open, Verify}
use Rattle.graph_format.specs.declared.error.GraphError.TheVariants as GraphError
use Rattle.graph_history.specs.Checked.{MayRefuseSome}
use Rattle.graph_history.specs.Reload.{StandAboveShared}
use Rattle.question_answers.specs.Taken.{MayTake}

-- what came of it: a right graph stands then, and so many commits were checked, those above the lowest layers that are the same
-- in the graph that stood, byte for byte; or it is refused, and the one of before stands
abbrev pub Takes : (Result (List Layer) OpenError → Type 0) → List Layer → List Layer → Result ℕ Refusal → Type 0
Takes MayOpen before after (Ok checked) = MayTake MayOpen (Ok after) × StandAboveShared before after checked
Takes MayOpen before after (Err refusal) = MayTake MayOpen (Err refusal) × (after ≡ before)

-- For private contracts: how the layers above those that stand are opened.

-- what an opener of graphs that are taken answers, as one refusal: a graph was opened and checked, or none was opened
abbrev pub taken_of : Result (Result ℕ (VerifyError NoFault)) OpenError → Result ℕ Refusal
taken_of (Ok (Ok checked)) = Ok checked
taken_of (Ok (Err error)) = Err (Verify error)
taken_of (Err error) = Err (Open error)

-- that comes of what may be opened
abbrev pub TakesBy : (Result (List Layer) OpenError → Type 0) → List Layer → List Layer
    → Result (Result ℕ (VerifyError NoFault)) OpenError → Type 0
TakesBy MayOpen before after answer = Takes MayOpen before after (taken_of answer)

-- the answer of an opener is this graph
abbrev pub IsThisGraph : List Layer → Result (List Layer) OpenError → Type 0
IsThisGraph layers answer = answer ≡ Ok layers

-- what came of layers that are put on top of those of before: they stand there, in a right graph, and their commits were checked;
-- or those of before stand, since all make a graph that is not right, or an allocation failed before a layer that makes none
abbrev pub PutsAbove : List Layer → List Layer → List Layer → Result (Result ℕ (VerifyError NoFault)) OpenError → Type 0
PutsAbove before above after (Ok (Ok checked)) =
    (after ≡ before ++ above) × (checked ≡ total above) × IsGraph after × Sound after
PutsAbove before above after (Ok (Err error)) =
    (after ≡ before) × IsGraph (before ++ above) × MayRefuseGraph (before ++ above) error
PutsAbove before above after (Err error) =
    (after ≡ before) × (error ≡ OutOfMemory) × MayRefuseSome before above GraphError.OutOfMemory

-- a device failed, or memory ran out
abbrev pub IsDeviceOrMemory : OpenError → Type 0
IsDeviceOrMemory error = IsAsExpected {A = List Layer} (Err error) (Ok [])

-- some layers, and then those of lines
abbrev pub layers_with : List Layer → Tree → List ℕ → ℕ → List (List ℕ) → Result (List Layer) OpenError
layers_with layers tree folder i names = result_map (λ more. layers ++ more) (layers_from tree folder i names)

-- what the lines of a chain open
abbrev pub lines_opened : Tree → List ℕ → List (List ℕ) → Result (List Layer) OpenError
lines_opened tree folder names = and_then (layers_from tree folder 0 names) graph_of_layers

-- what a chain opens is known by some layers and these above them, if there is an answer with some
abbrev pub OpensAbove : {A : Type 0} → Result (List Layer) OpenError → List Layer → Result (Option (Vec Layer A)) OpenError
    → Type 0
OpensAbove expected standing (Ok (Some files)) = expected ≡ graph_of_layers (standing ++ files.items)
OpensAbove expected standing (Ok None) = ⊤
OpensAbove expected standing (Err error) = IsAsExpected {A = List Layer} (Err error) expected
