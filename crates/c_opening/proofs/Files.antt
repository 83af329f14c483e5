-- one more file, and its layer
use Rattle.std.proofs.Common.{◌≡◌, ℕ, suc, ◌+◌, ◌<◌, ◌≤◌, List, [], ◌∷◌, ◌++◌, length, take, get_or, subst, sym, refl}
use Rattle.std.proofs.Common.{◌∙◌, ap, arith, slice_get, Option, Some, None, IsSomeAnd, inl, inr}
use Rattle.std.proofs.lemmas.List.{take_more, take_all, length-take-le}
use Rattle.std.proofs.lemmas.Option.{slice_get-get_or}
use Rattle.std.specs.Str.{IsUtf8}
use Rattle.graph_format.specs.Layer.{Layer, IsLayer}
use Rattle.graph_format.specs.Opened.{MayRefuse}
use Rattle.graph_format.specs.Refusal.{refusal}
use Rattle.graph_format.specs.declared.error.FileError.{FileError}
use Rattle.c_opening.specs.declared.open.CgFile.{CgFile}
use Rattle.graph_format.specs.declared.error.FileError.TheVariants as file
use Rattle.c_opening.specs.declared.open.CgError.{CgError}
use Rattle.c_opening.specs.Files.{AreLayersOf, RefusesFile, RefusesFiles, told_file}

pub one_more : (files : List CgFile) (layers : List Layer) (file : CgFile) (layer : Layer)
    → AreLayersOf files layers → IsLayer file.bytes.now file.path.now layer
    → AreLayersOf (files ++ file ∷ []) (layers ++ layer ∷ [])
one_more [] [] file layer all is = (is, tt)
one_more [] (l ∷ ls) file layer all is = absurd all
one_more (f ∷ fs) [] file layer all is = absurd all
one_more (f ∷ fs) (l ∷ ls) file layer all is = (all.0, one_more fs ls file layer all.1 is)

-- a turn of the loop that opens them
pub next : (files : List CgFile) (layers more : List Layer) (i : ℕ) (d : CgFile) (layer : Layer) → i < length files
    → AreLayersOf (take i files) layers
    → IsLayer (get_or files i d).bytes.now (get_or files i d).path.now layer → more ≡ layers ++ layer ∷ []
    → AreLayersOf (take (i + 1) files) more
next files layers more i d layer below all is e =
    subst (λ (fs : List CgFile). AreLayersOf fs more) (sym (take_more files i d below))
    (subst (λ (ls : List Layer). AreLayersOf (take i files ++ get_or files i d ∷ []) ls) (sym e) (one_more (take i files) layers
    (get_or files i d) layer all is))

-- and its end
pub all_of : (files : List CgFile) (layers : List Layer) (i : ℕ) → length files ≤ i → AreLayersOf (take i files) layers
    → AreLayersOf files layers
all_of files layers i past all = subst (λ (fs : List CgFile). AreLayersOf fs layers) (take_all i files past) all

-- a file is refused by its bytes, or an allocation failed
pub refused_bytes : (layer : ℕ) (f : CgFile) (e : CgError) (error : FileError) → IsUtf8 f.path.now
    → MayRefuse f.bytes.now error → e ≡ told_file layer error → RefusesFile layer f e
refused_bytes layer f e error text may told = inr (record { text = text; error = error; may = may; told = told })

-- there are as many layers as files
pub as_many : (files : List CgFile) (layers : List Layer) → AreLayersOf files layers → length files ≡ length layers
as_many [] [] all = refl
as_many [] (l ∷ ls) all = absurd all
as_many (f ∷ fs) [] all = absurd all
as_many (f ∷ fs) (l ∷ ls) all = ap (λ (n : ℕ). suc n) (as_many fs ls all.1)

-- the place that a refusal of a file tells of
told_place : (layer : ℕ) (f : CgFile) (e : CgError) → RefusesFile layer f e → e.layer ≡ layer
told_place layer f e (inl path) = ap (λ (x : CgError). x.layer) path.1
told_place layer f e (inr bytes) = ap (λ (x : CgError). x.layer) bytes.told

-- a turn of the loop in which a file is refused
pub refused_at : (files : List CgFile) (layers : List Layer) (i : ℕ) (d : CgFile) (place : ℕ) (e : CgError) → i < length files
    → AreLayersOf (take i files) layers → place ≡ length layers → RefusesFile place (get_or files i d) e → RefusesFiles files e
refused_at files layers i d place e below all many refuses =
    let here : place ≡ i = many ∙ sym (as_many (take i files) layers all) ∙ length-take-le i files (omega (arith, below)) in
    let at : e.layer ≡ i = told_place place (get_or files i d) e refuses ∙ here in
    let refuses_here : RefusesFile i (get_or files i d) e =
    subst (λ (n : ℕ). RefusesFile n (get_or files i d) e) here refuses in
    let found : slice_get files i ≡ Some (get_or files i d) = slice_get-get_or files i d below in
    inl (record {
      layers = layers;
      before = subst (λ (n : ℕ). AreLayersOf (take n files) layers) (sym at) all;
      refused =
          subst (λ (n : ℕ). IsSomeAnd (slice_get files n) (λ f. RefusesFile n f e)) (sym at)
          (subst (λ (o : Option CgFile). IsSomeAnd o (λ f. RefusesFile i f e)) (sym found) refuses_here);
    })

-- a turn of the loop in which a layer was opened, and there is no memory for it
pub no_room : (files : List CgFile) (layers : List Layer) (i : ℕ) (d : CgFile) (place : ℕ) (e : CgError)
    → i < length files → AreLayersOf (take i files) layers → place ≡ length layers
    → IsUtf8 (get_or files i d).path.now → refusal (get_or files i d).bytes.now ≡ None → e ≡ told_file place file.OutOfMemory
    → RefusesFiles files e
no_room files layers i d place e below all many text accepted told =
    refused_at files layers i d place e below all many (refused_bytes place (get_or files i d) e file.OutOfMemory text
    (inr (refl, accepted)) told)
