-- The files that an opened graph is read from, carried from one opener to the next.
use Rattle.std.proofs.Common.{◌≡◌, ℕ, List, [], ◌∷◌, ◌++◌, All, Result, Ok, Err, IfOk, IfErr, map, ap, sym, subst, ◌∙◌}
use Rattle.std.proofs.Common.{append_assoc}
use Rattle.std.proofs.lemmas.List.{map-append}
use Rattle.std.specs.Prelude.{MatchResult}
use Rattle.std.proofs.lemmas.List.Elements.{All-append, All-cons, All-nil}
use Rattle.graph_format.specs.Layer.{Layer}
use Rattle.graph_layer.specs.LayerOpening.{LayerWasRead}
use Rattle.gix_commitgraph.specs.OpenAlways.{IsErrorOfLayers, IsFolderError, IsFromChain}
use Rattle.gix_commitgraph.specs.Paths.{layer_path}
use Rattle.graph_layer.specs.declared.opening.error.OpenError.{OpenError}
use Rattle.gix_commitgraph.proofs.opening.OpenErrorLemmas.{folder_error-layers}

-- the graph of files that are all from one place is from there
pub graph_from : (P : List Layer → Type 0) (files : List Layer) (answer : Result (List Layer) OpenError)
    → P files → IfOk answer (λ layers. layers ≡ files) → IfErr answer (IsErrorOfLayers files)
    → MatchResult answer P IsFolderError
graph_from P files (Ok layers) from is error = subst P (sym is) from
graph_from P files (Err e) from is error = folder_error-layers files e error

-- what is from one place, with some errors, is from a wider one, with more of them
pub from_wider : (P Q : List Layer → Type 0) (D E : OpenError → Type 0) (answer : Result (List Layer) OpenError)
    → ((layers : List Layer) → P layers → Q layers) → ((error : OpenError) → D error → E error)
    → MatchResult answer P D → MatchResult answer Q E
from_wider P Q D E (Ok layers) wider more from = wider layers from
from_wider P Q D E (Err e) wider more from = more e from

pub ok_wider : (P Q : List Layer → Type 0) (answer : Result (List Layer) OpenError)
    → ((layers : List Layer) → P layers → Q layers) → IfOk answer P → IfOk answer Q
ok_wider P Q (Ok layers) wider was = wider layers was
ok_wider P Q (Err e) wider was = tt

-- what holds of the files holds of their graph
pub graph_given : (P : List Layer → Type 0) (files : List Layer) (answer : Result (List Layer) OpenError)
    → P files → IfOk answer (λ layers. layers ≡ files) → IfOk answer P
graph_given P files (Ok layers) was is = subst P (sym is) was
graph_given P files (Err e) was is = tt

-- one more layer of a chain
pub from-pushed : (folder : List ℕ) (layers more : List Layer) (layer : Layer)
    → IsFromChain folder layers → (line : List ℕ) × (layer.path ≡ layer_path folder line)
    → more ≡ layers ++ layer ∷ [] → IsFromChain folder more
from-pushed folder layers more layer from named pushed =
    let P : Layer → Type 0 = λ one. (line : List ℕ) × (one.path ≡ layer_path folder line) in
    subst (All P) (sym pushed) (All-append P layers (layer ∷ []) from (All-cons P layer [] named (All-nil P)))

-- one more layer that was read, whichever read gave it
pub given-pushed : (gives : List ℕ → List ℕ → Type 0) (layers more : List Layer) (layer : Layer)
    → All (LayerWasRead gives) layers → LayerWasRead gives layer → more ≡ layers ++ layer ∷ [] → All (LayerWasRead gives) more
given-pushed gives layers more layer before is pushed =
    let P : Layer → Type 0 = LayerWasRead gives in
    subst (All P) (sym pushed) (All-append P layers (layer ∷ []) before (All-cons P layer [] is (All-nil P)))

-- the paths of the layers so far, and then those that the lines which are left name
abbrev pub paths_with : List Layer → List ℕ → List (List ℕ) → List (List ℕ)
paths_with layers folder lines = map (λ layer. layer.path) layers ++ map (layer_path folder) lines

-- the path of the next line's layer is one more
pub paths_with-next : (folder : List ℕ) (layers more : List Layer) (line : List ℕ) (lines left : List (List ℕ)) (layer : Layer)
    → left ≡ line ∷ lines → layer.path ≡ layer_path folder line → more ≡ layers ++ layer ∷ []
    → paths_with layers folder left ≡ paths_with more folder lines
paths_with-next folder layers more line lines left layer names named pushed =
    let path : Layer → List ℕ = λ one. one.path in
    let after : List (List ℕ) = map (layer_path folder) lines in
    ap (paths_with layers folder) names
    ∙ ap (λ (at : List ℕ). map path layers ++ at ∷ after) (sym named)
    ∙ sym (append_assoc (map path layers) (layer.path ∷ []) after)
    ∙ ap (λ (paths : List (List ℕ)). paths ++ after) (sym (map-append path layers (layer ∷ [])))
    ∙ ap (λ (all : List Layer). paths_with all folder lines) (sym pushed)
