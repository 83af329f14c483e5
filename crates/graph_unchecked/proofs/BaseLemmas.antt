-- what is found by ids in files that stand in a known tree
use Rattle.std.proofs.Common.{◌≡◌, ℕ, List, [], ◌∷◌, Option, Some, Result, Ok, Err, IfOk, map, string_bytes, refl, sym, ap, subst}
use Rattle.std.proofs.Common.{◌∙◌}
use Rattle.std.specs.List.{AllZip}
use Rattle.std.proofs.lemmas.Option.{same_Some}
use Rattle.graph_folder.specs.Tree.{Tree, file_at}
use Rattle.graph_format.specs.Layer.{Layer, decoded_layer}
use Rattle.graph_find.specs.ChainFinding.{IsLayerOfChain}
use Rattle.graph_find.specs.declared.chain.ChainLayer.{ChainLayer}
use Rattle.graph_parts.specs.OfTree.{AreOfTree}
use Rattle.graph_parts.specs.Shown.{Shows, files_of}
use Rattle.graph_parts.specs.ShownLayer.{ShowsLayer}
use Rattle.graph_parts.specs.declared.layer.LayerParts.{LayerParts}
use Rattle.graph_parts.specs.declared.parts.GraphParts.{GraphParts}
use Rattle.graph_parts.proofs.TreeLemmas.{shown-seen}
use Rattle.graph_unchecked.specs.KnownLayers.{IsSoOfLayers}
use Rattle.graph_unchecked.specs.PartSource.{known_parts}

abbrev file-of : LayerParts → ChainLayer
file-of part = part.file

module _ (tree : Tree) where
  -- a file of the tree has one layer
  one-layer : (part : LayerParts) (shown layer : Layer) → ShowsLayer (Some tree) part shown
      → IsLayerOfChain (Some tree) part.file layer → shown ≡ layer
  one-layer part shown layer shows is =
      let file : shows.of.file ≡ is.file = same_Some _ _ (sym (shows.of.stands tree refl) ∙ is.stands tree refl) in
      shows.of.decoded
      ∙ ap (λ (f : List ℕ). decoded_layer f (string_bytes part.file.path)) file
      ∙ sym is.decoded

  one-list : (parts : List LayerParts) (shown layers : List Layer) → AllZip (ShowsLayer (Some tree)) parts shown
      → AllZip (IsLayerOfChain (Some tree)) (map file-of parts) layers → shown ≡ layers
  one-list [] [] [] shows are = refl
  one-list [] [] (m ∷ ms) shows are = absurd are
  one-list [] (l ∷ ls) ms shows are = absurd shows
  one-list (part ∷ parts) [] ms shows are = absurd shows
  one-list (part ∷ parts) (l ∷ ls) [] shows are = absurd are
  one-list (part ∷ parts) (l ∷ ls) (m ∷ ms) shows are =
      ap (λ (x : Layer). x ∷ ls) (one-layer part l m shows.0 are.0)
      ∙ ap (λ (xs : List Layer). m ∷ xs) (one-list parts ls ms shows.1 are.1)

  -- parts of the tree show the layers of its files
  known-shown : (parts : GraphParts) (layers : List Layer) → AreOfTree (Some tree) parts
      → AllZip (IsLayerOfChain (Some tree)) (files_of parts) layers → Shows (Some tree) parts layers
  known-shown parts layers of are =
      let at = shown-seen (Some tree) tree refl parts of in
      subst (Shows (Some tree) parts) (one-list parts.layers.items at.0 layers at.1 are) at.1

  -- and each layer that parts show is that of its file
  shown-all : (parts : List LayerParts) (shown : List Layer) → AllZip (ShowsLayer (Some tree)) parts shown
      → AllZip (IsLayerOfChain (Some tree)) (map file-of parts) shown
  shown-all [] [] shows = tt
  shown-all [] (l ∷ ls) shows = absurd shows
  shown-all (part ∷ parts) [] shows = absurd shows
  shown-all (part ∷ parts) (l ∷ ls) shows = (shows.0.of, shown-all parts ls shows.1)

  pub shown-known : (parts : GraphParts) (layers : List Layer) → Shows (Some tree) parts layers
      → AllZip (IsLayerOfChain (Some tree)) (files_of parts) layers
  shown-known parts layers shows = shown-all parts.layers.items layers shows

-- what is so of all layers that are shown is so of those of the known files
pub so-of-shown : (known : Option Tree) (old new : GraphParts) (failures folder name : ℕ) (IsSo : List Layer → Type 0)
    → files_of new ≡ files_of old → AreOfTree known new → ((layers : List Layer) → Shows known new layers → IsSo layers)
    → IsSoOfLayers IsSo (known_parts known old failures folder name)
so-of-shown known old new failures folder name IsSo same of so tree is layers are =
    so layers
    (subst (λ (k : Option Tree). Shows k new layers) (sym is)
    (known-shown tree new layers (subst (λ (k : Option Tree). AreOfTree k new) is of)
    (subst (λ (files : List ChainLayer). AllZip (IsLayerOfChain (Some tree)) files layers) (sym same) are)))

pub found-of-shown : {A E : Type 0} (known : Option Tree) (old new : GraphParts) (failures folder name : ℕ)
    (IsSo : A → List Layer → Type 0) (r : Result A E) → files_of new ≡ files_of old → AreOfTree known new
    → IfOk r (λ answer. (layers : List Layer) → Shows known new layers → IsSo answer layers)
    → IfOk r (λ answer. IsSoOfLayers (IsSo answer) (known_parts known old failures folder name))
found-of-shown known old new failures folder name IsSo (Ok answer) same of so =
    so-of-shown known old new failures folder name (IsSo answer) same of so
found-of-shown known old new failures folder name IsSo (Err e) same of so = tt
