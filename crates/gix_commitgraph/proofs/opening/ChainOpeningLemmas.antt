-- The layers of a chain, line by line.
use Rattle.std.proofs.Common.{◌≡◌, ℕ, ◌+◌, List, [], ◌∷◌, ◌++◌, Result, Ok, Err, All, refl, sym, ap, subst, ◌∙◌, append_assoc}
use Rattle.std.specs.Prelude.{Bool, true, false, if◌then◌else◌}
use Rattle.std.specs.Str.{is_utf8}
use Rattle.std.proofs.lemmas.List.Elements.{All-append, All-cons, All-nil}
use Rattle.graph_folder.specs.Tree.{Tree}
use Rattle.graph_format.specs.Opened.{layer_of}
use Rattle.graph_format.specs.declared.error.FileError.{FileError}
use Rattle.graph_layer.specs.LayerOpening.{bytes_at, layer_at, layer_of_bytes}
use Rattle.graph_layer.specs.OpenAnswer.{and_then, result_map, result_map_err}
use Rattle.graph_layer.specs.OpenRefusals.{layer_refused}
use Rattle.graph_format.specs.Layer.{Layer}
use Rattle.gix_commitgraph.specs.Opening.{layer_of_line, layers_from}
use Rattle.gix_commitgraph.specs.Paths.{layer_path}
use Rattle.graph_layer.specs.declared.opening.error.OpenError.{OpenError}
use Rattle.graph_layer.specs.declared.opening.error.OpenError.TheVariants.{ChainNotText}

-- the layers so far, and then those of the lines that are left
abbrev pub layers_with : List Layer → Tree → List ℕ → ℕ → List (List ℕ) → Result (List Layer) OpenError
layers_with layers tree folder i names = result_map (λ more. layers ++ more) (layers_from tree folder i names)

moved-over : {E : Type 0} (layers : List Layer) (layer : Layer) (left : Result (List Layer) E)
    → result_map (λ more. layers ++ more) (result_map (λ more. layer ∷ more) left)
    ≡ result_map (λ more. (layers ++ layer ∷ []) ++ more) left
moved-over layers layer (Ok more) = ap Ok (sym (append_assoc layers (layer ∷ []) more))
moved-over layers layer (Err e) = refl

next-layer : (tree : Tree) (folder : List ℕ) (layers : List Layer) (i : ℕ) (line : List ℕ) (lines : List (List ℕ)) (layer : Layer)
    → Ok layer ≡ layer_of_line tree folder i line
    → layers_with layers tree folder i (line ∷ lines) ≡ layers_with (layers ++ layer ∷ []) tree folder (i + 1) lines
next-layer tree folder layers i line lines layer is =
    let after : Result Layer OpenError → Result (List Layer) OpenError = λ answer. and_then answer (λ x.
    result_map (λ more. x ∷ more) (layers_from tree folder (i + 1) lines)) in
    ap (λ (answer : Result Layer OpenError). result_map (λ more. layers ++ more) (after answer)) (sym is)
    ∙ moved-over layers layer (layers_from tree folder (i + 1) lines)

-- the layer of the next line is one more of the layers so far
pub layers_with-next : (tree : Tree) (folder : List ℕ) (layers more : List Layer) (i next : ℕ) (line : List ℕ)
    (lines left : List (List ℕ)) (layer : Layer)
    → left ≡ line ∷ lines → Ok layer ≡ layer_of_line tree folder i line → more ≡ layers ++ layer ∷ [] → next ≡ i + 1
    → layers_with layers tree folder i left ≡ layers_with more tree folder next lines
layers_with-next tree folder layers more i next line lines left layer names is pushed counted =
    rw (names, pushed, counted) (next-layer tree folder layers i line lines layer is)

-- a layer is what stands at its path, whichever layer that is to be
abbrev pub IsRead : Tree → Layer → Type 0
IsRead tree layer = (i : ℕ) → Ok layer ≡ layer_at tree i layer.path

module _ (layer : Layer) (i j : ℕ) where
  accepted : (path : List ℕ) (answer : Result Layer FileError) → Ok layer ≡ result_map_err (layer_refused i) answer
      → Ok layer ≡ result_map_err (layer_refused j) answer
  accepted path (Ok x) is = is
  accepted path (Err e) is = let not : Ok layer ≡ Err (layer_refused i e) = is in cc

  of_bytes : (path : List ℕ) (answer : Result (List ℕ) OpenError)
      → Ok layer ≡ and_then answer (λ bytes. layer_of_bytes i bytes path)
      → Ok layer ≡ and_then answer (λ bytes. layer_of_bytes j bytes path)
  of_bytes path (Ok bytes) is = accepted path (layer_of bytes path) is
  of_bytes path (Err e) is = let not : Ok layer ≡ Err e = is in cc

  at_text : (b : Bool) (tree : Tree) (path : List ℕ)
      → Ok layer ≡ (if b then layer_at tree i path else Err (ChainNotText i)) → Ok layer ≡ layer_at tree i path
  at_text true tree path is = is
  at_text false tree path is = let not : Ok layer ≡ Err (ChainNotText i) = is in cc

-- the layer that a line names was read
pub read-from_line : (tree : Tree) (folder line : List ℕ) (i : ℕ) (layer : Layer) → Ok layer ≡ layer_of_line tree folder i line
    → layer.path ≡ layer_path folder line → IsRead tree layer
read-from_line tree folder line i layer is named j =
    let path = layer_path folder line in
    let there : Ok layer ≡ layer_at tree j path = of_bytes layer i j path (bytes_at tree path)
    (at_text layer i j (is_utf8 line) tree path is) in
    subst (λ (at : List ℕ). Ok layer ≡ layer_at tree j at) (sym named) there

-- a layer that was read is what each line names that names its path
pub line-from_read : (tree : Tree) (folder line : List ℕ) (i : ℕ) (layer : Layer) → IsRead tree layer → is_utf8 line ≡ true
    → layer.path ≡ layer_path folder line → Ok layer ≡ layer_of_line tree folder i line
line-from_read tree folder line i layer read text named =
    let path = layer_path folder line in
    subst (λ (at : List ℕ). Ok layer ≡ layer_at tree i at) named (read i)
    ∙ sym (ap (λ (b : Bool). if b then layer_at tree i path else Err (ChainNotText i)) text)

-- one more layer that was read
pub read-pushed : (tree : Tree) (layers more : List Layer) (layer : Layer) → All (IsRead tree) layers → IsRead tree layer
    → more ≡ layers ++ layer ∷ [] → All (IsRead tree) more
read-pushed tree layers more layer before is pushed =
    let P : Layer → Type 0 = IsRead tree in
    subst (All P) (sym pushed) (All-append P layers (layer ∷ []) before (All-cons P layer [] is (All-nil P)))
