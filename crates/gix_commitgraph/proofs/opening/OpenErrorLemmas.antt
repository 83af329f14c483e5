-- The errors of openers, carried from one opener to the next.
use Rattle.std.proofs.Common.{◌≡◌, ◌<◌, ◌+◌, ℕ, List, ◌∷◌, length, Option, Some, None, inl, inr, ap, subst, arith, ◌∙◌}
use Rattle.std.specs.Prelude.{MatchOption, ◌⊎◌}
use Rattle.graph_format.specs.Layer.{Layer}
use Rattle.gix_commitgraph.specs.Graph.{MakesGraph}
use Rattle.gix_commitgraph.specs.GraphLaw.{IsRefusal}
use Rattle.gix_commitgraph.specs.GraphRefusal.{graph_refusal}
use Rattle.gix_commitgraph.specs.OpenAlways.{IsErrorOfLayers, IsFileError, IsFolderError}
use Rattle.graph_layer.specs.OpenRefusals.{graph_refused}
use Rattle.graph_format.specs.declared.error.GraphError.{GraphError}
use Rattle.graph_format.specs.declared.error.GraphError.TheVariants.{NoFiles, TooManyCommits, HashMismatch}
use Rattle.graph_format.specs.declared.error.GraphError.TheVariants.{OutOfMemory as graph_OutOfMemory}
use Rattle.graph_layer.specs.declared.opening.error.OpenError.{OpenError}
use Rattle.graph_layer.specs.declared.opening.error.OpenError.TheVariants.{NothingFound, NotOpened, Device, ChainNotText}
use Rattle.graph_layer.specs.declared.opening.error.OpenError.TheVariants.{Layer as layer_error, Graph as graph_error}
use Rattle.graph_layer.specs.declared.opening.error.OpenError.TheVariants.{OutOfMemory}
use Rattle.gix_commitgraph.proofs.layers.GraphLemmas.{judged}

-- the refusal of layers says what is wrong with them
refused : (layers : List Layer) (error : GraphError) → graph_refusal layers ≡ Some error → IsRefusal layers error
refused layers error is =
    let P : Option GraphError → Type 0 = λ o. MatchOption o (MakesGraph layers) (IsRefusal layers) in
    subst P is (judged layers)

-- and so does the error that is answered for it
pub layers_error : (layers : List Layer) (error : GraphError)
    → (graph_refusal layers ≡ Some error) ⊎ ((error ≡ graph_OutOfMemory) × (graph_refusal layers ≡ None))
    → IsErrorOfLayers layers (graph_refused error)
layers_error layers graph_OutOfMemory is = tt
layers_error layers NoFiles (inl is) = refused layers _ is
layers_error layers NoFiles (inr is) = let not : NoFiles ≡ graph_OutOfMemory = is.0 in cc
layers_error layers (TooManyCommits commits) (inl is) = refused layers _ is
layers_error layers (TooManyCommits commits) (inr is) = let not : TooManyCommits commits ≡ graph_OutOfMemory = is.0 in cc
layers_error layers (HashMismatch layer) (inl is) = refused layers _ is
layers_error layers (HashMismatch layer) (inr is) = let not : HashMismatch layer ≡ graph_OutOfMemory = is.0 in cc

-- an error of layers is one of a folder's opener
pub folder_error-layers : (layers : List Layer) (error : OpenError) → IsErrorOfLayers layers error → IsFolderError error
folder_error-layers layers OutOfMemory is = tt
folder_error-layers layers (graph_error NoFiles) is = tt
folder_error-layers layers (graph_error (TooManyCommits commits)) is = omega (arith, is.0, is.1)
folder_error-layers layers (graph_error (HashMismatch i)) is = is.1.after_one
folder_error-layers layers (graph_error graph_OutOfMemory) is = is
folder_error-layers layers error is = absurd is

-- a line that is left is one of all, and is followed by one less
length-left : (line : List ℕ) (lines left : List (List ℕ)) → left ≡ line ∷ lines → length left ≡ length lines + 1
length-left line lines left is = ap length is ∙ omega arith

pub line-within : (count all : ℕ) (line : List ℕ) (lines left : List (List ℕ)) → left ≡ line ∷ lines → count + length left ≡ all
    → count < all
line-within count all line lines left is counted = omega (arith, counted, length-left line lines left is)

pub lines-counted : (count next all : ℕ) (line : List ℕ) (lines left : List (List ℕ)) → left ≡ line ∷ lines
    → count + length left ≡ all → next ≡ count + 1 → next + length lines ≡ all
lines-counted count next all line lines left is counted more = omega (arith, counted, more, length-left line lines left is)

-- an error of a file's opener is one of a folder's
pub folder_error-file : (error : OpenError) → IsFileError error → IsFolderError error
folder_error-file NothingFound is = is
folder_error-file NotOpened is = tt
folder_error-file Device is = tt
folder_error-file (ChainNotText line) is = tt
folder_error-file (layer_error i error) is = tt
folder_error-file (graph_error NoFiles) is = tt
folder_error-file (graph_error (TooManyCommits commits)) is = is
folder_error-file (graph_error (HashMismatch layer)) is = absurd is
folder_error-file (graph_error graph_OutOfMemory) is = is
folder_error-file OutOfMemory is = tt
