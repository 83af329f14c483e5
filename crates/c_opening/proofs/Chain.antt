-- the files at the places of a chain, and the layers of those that stand there again
use Rattle.std.proofs.Common.{◌≡◌, ◌∙◌, ℕ, zero, suc, ◌+◌, ◌<◌, ◌≤◌, List, [], ◌∷◌, ◌++◌, All, length, take, Option, Some, None}
use Rattle.std.proofs.Common.{IfSome, slice_get, get_or, refl, sym, ap, subst, arith, inr}
use Rattle.std.specs.Str.{IsUtf8}
use Rattle.std.specs.List.{cons_option}
use Rattle.std.proofs.lemmas.List.Elements.{All-tail}
use Rattle.std.proofs.lemmas.Option.{none-some, same_Some, slice_get-get_or, get_or_from_slice_get}
use Rattle.graph_format.specs.Layer.{Layer, IsLayer}
use Rattle.graph_format.specs.Refusal.{refusal}
use Rattle.graph_format.specs.declared.error.FileError.TheVariants as file
use Rattle.c_opening.specs.Chain.{files_at, IsLayerAt}
use Rattle.c_opening.specs.Files.{AreLayersOf, RefusesFile, RefusesFiles, told_file}
use Rattle.c_opening.specs.declared.open.CgError.{CgError}
use Rattle.c_opening.specs.declared.open.CgFile.{CgFile}
use Rattle.c_opening.proofs.Files.{all_of, next, refused_at, refused_bytes}

abbrev pub AreWithin : List CgFile → List ℕ → Type 0
AreWithin files places = All (λ (place : ℕ). place < length files) places

some_file : (files : List CgFile) (place : ℕ) → place < length files → (file : CgFile) × (slice_get files place ≡ Some file)
some_file [] place within = absurd (omega (arith, within))
some_file (f ∷ fs) zero within = (f, refl)
some_file (f ∷ fs) (suc place) within = some_file fs place (omega (arith, within))

-- there are as many files as places
pub as_many_at : (files : List CgFile) (places : List ℕ) → AreWithin files places
    → length (files_at files places) ≡ length places
as_many_at files [] within = refl
as_many_at files (p ∷ ps) within =
    let first = some_file files p (within 0 p (omega arith)) in
    ap (λ (o : Option CgFile). length (cons_option o (files_at files ps))) first.1
    ∙ ap suc (as_many_at files ps (All-tail (λ (n : ℕ). n < length files) p ps within))

-- the file of a layer is the one at its place
pub file_at : (files : List CgFile) (places : List ℕ) (i place : ℕ) (file : CgFile) → AreWithin files places
    → slice_get places i ≡ Some place → slice_get files place ≡ Some file → slice_get (files_at files places) i ≡ Some file
file_at files [] i place file within stands found = absurd (none-some place stands)
file_at files (p ∷ ps) zero place file within stands found =
    ap (λ (o : Option CgFile). slice_get (cons_option o (files_at files ps)) zero)
    (ap (λ (n : ℕ). slice_get files n) (same_Some p place stands) ∙ found)
file_at files (p ∷ ps) (suc i) place file within stands found =
    let first = some_file files p (within 0 p (omega arith)) in
    ap (λ (o : Option CgFile). slice_get (cons_option o (files_at files ps)) (suc i)) first.1
    ∙ file_at files ps i place file (All-tail (λ (n : ℕ). n < length files) p ps within) stands found

-- a layer is that of the file of its number
layer_of : (files : List CgFile) (layers : List Layer) (i n : ℕ) (file : CgFile) (layer : Layer)
    → AreLayersOf (take i files) layers → slice_get layers n ≡ Some layer → slice_get files n ≡ Some file
    → IsLayer file.bytes.now file.path.now layer
layer_of files [] i n file layer all found stands = absurd (none-some layer found)
layer_of [] (l ∷ ls) i n file layer all found stands = absurd (none-some file stands)
layer_of (f ∷ fs) (l ∷ ls) zero n file layer all found stands = absurd all
layer_of (f ∷ fs) (l ∷ ls) (suc i) zero file layer all found stands =
    subst (λ (x : CgFile). IsLayer x.bytes.now x.path.now layer) (same_Some f file stands)
    (subst (λ (y : Layer). IsLayer f.bytes.now f.path.now y) (same_Some l layer found) all.0)
layer_of (f ∷ fs) (l ∷ ls) (suc i) (suc n) file layer all found stands = layer_of fs ls i n file layer all.1 found stands

module _ (files : List CgFile) (places : List ℕ) (within : AreWithin files places) where
  -- the file of a layer, by what the code reads
  here : (i d : ℕ) (e : CgFile) → i < length places
      → slice_get (files_at files places) i ≡ Some (get_or files (get_or places i d) e)
  here i d e below =
      file_at files places i (get_or places i d) (get_or files (get_or places i d) e) within (slice_get-get_or places i d below)
      (slice_get-get_or files (get_or places i d) e (within i d below))

  same : (i d : ℕ) (e : CgFile) → i < length places
      → get_or (files_at files places) i (get_or files (get_or places i d) e) ≡ get_or files (get_or places i d) e
  same i d e below =
      let file = get_or files (get_or places i d) e in
      get_or_from_slice_get (files_at files places) i file file (here i d e below)

  some : (i : ℕ) → i < length places → i < length (files_at files places)
  some i below = let many = as_many_at files places within in omega (arith, below, many)

  -- a layer that was opened of a file at some place is that of each file at this place
  pub known_at : (layers given : List Layer) (i place : ℕ) (d : CgFile) (layer : Layer)
      → AreLayersOf (take i (files_at files places)) layers → given ≡ layers → place < length files
      → IsLayerAt given places place layer
      → IsLayer (get_or files place d).bytes.now (get_or files place d).path.now layer
  known_at layers given i place d layer all is below at =
      layer_of (files_at files places) layers i at.number (get_or files place d) layer all
      (subst (λ (ls : List Layer). slice_get ls at.number ≡ Some layer) is at.found)
      (file_at files places at.number place (get_or files place d) within at.stands (slice_get-get_or files place d below))

  -- a turn of the loop that opens them
  pub next_at : (layers more : List Layer) (i d : ℕ) (e : CgFile) (layer : Layer) → i < length places
      → AreLayersOf (take i (files_at files places)) layers
      → IsLayer (get_or files (get_or places i d) e).bytes.now (get_or files (get_or places i d) e).path.now layer
      → more ≡ layers ++ layer ∷ [] → AreLayersOf (take (i + 1) (files_at files places)) more
  next_at layers more i d e layer below all is pushed =
      next (files_at files places) layers more i (get_or files (get_or places i d) e) layer (some i below) all
      (subst (λ (f : CgFile). IsLayer f.bytes.now f.path.now layer) (sym (same i d e below)) is) pushed

  -- and its end
  pub all_at : (layers : List Layer) (i : ℕ) → length places ≤ i → AreLayersOf (take i (files_at files places)) layers
      → AreLayersOf (files_at files places) layers
  all_at layers i past all =
      let many = as_many_at files places within in
      all_of (files_at files places) layers i (omega (arith, past, many)) all

  -- a turn in which a file is refused
  pub refused_place : (layers : List Layer) (i d : ℕ) (e : CgFile) (number : ℕ) (error : CgError) → i < length places
      → AreLayersOf (take i (files_at files places)) layers → number ≡ length layers
      → RefusesFile number (get_or files (get_or places i d) e) error → RefusesFiles (files_at files places) error
  refused_place layers i d e number error below all many refuses =
      refused_at (files_at files places) layers i (get_or files (get_or places i d) e) number error (some i below) all many
      (subst (λ (f : CgFile). RefusesFile number f error) (sym (same i d e below)) refuses)

  -- a turn in which a layer was opened, and there is no memory for it
  pub no_room_at : (layers : List Layer) (i d : ℕ) (e : CgFile) (number : ℕ) (error : CgError) → i < length places
      → AreLayersOf (take i (files_at files places)) layers → number ≡ length layers
      → IsUtf8 (get_or files (get_or places i d) e).path.now
      → refusal (get_or files (get_or places i d) e).bytes.now ≡ None → error ≡ told_file number file.OutOfMemory
      → RefusesFiles (files_at files places) error
  no_room_at layers i d e number error below all many text accepted told =
      refused_place layers i d e number error below all many
      (refused_bytes number (get_or files (get_or places i d) e) error file.OutOfMemory text (inr (refl, accepted)) told)

-- what holds of each item that there may be
pub if_some : {A : Type 0} (P Q : A → Type 0) (o : Option A) → ((a : A) → P a → Q a) → IfSome o P → IfSome o Q
if_some P Q None each is = is
if_some P Q (Some a) each is = each a is
