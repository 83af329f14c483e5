-- the parts of files that stand in a known tree
use Rattle.std.proofs.Common.{◌≡◌, ℕ, List, [], ◌∷◌, All, map, string_bytes, Option, Some, None, true, refl, sym, ap, subst, ◌∙◌}
use Rattle.std.proofs.Common.{false}
use Rattle.std.specs.List.{AllZip}
use Rattle.std.specs.Option.{ForSome, is_some}
use Rattle.std.proofs.lemmas.List.Elements.{All-cons, All-head, All-nil, All-tail}
use Rattle.std.proofs.lemmas.Option.{same_Some}
use Rattle.gix_chunk_core.specs.FirstBytes.{BeginsWith}
use Rattle.graph_folder.specs.Tree.{Tree, file_at}
use Rattle.graph_format.specs.Layer.{Layer, decoded_layer}
use Rattle.graph_find.specs.declared.chain.ChainLayer.{ChainLayer}
use Rattle.graph_parts.specs.OfTree.{AreOfTree, IsOfTree}
use Rattle.graph_parts.specs.Offsets.{AreOffsetsOf}
use Rattle.graph_parts.specs.PieceBlocks.{AreOf}
use Rattle.graph_parts.specs.Shown.{SeesMore, Shows, files_of}
use Rattle.graph_parts.specs.ShownLayer.{ShowsLayer}
use Rattle.graph_parts.specs.declared.layer.LayerParts.{LayerParts}
use Rattle.graph_parts.specs.declared.parts.GraphParts.{GraphParts}

file-there : (o : Option (List ℕ)) → is_some o ≡ true → (file : List ℕ) × (o ≡ Some file)
file-there None there = let clash : false ≡ true = there in cc
file-there (Some file) there = (file, refl)

module _ (known : Option Tree) (tree : Tree) (is : known ≡ Some tree) where
  stands-so : (path file : List ℕ) → file_at tree path ≡ Some file → ForSome known (λ (t : Tree). file_at t path ≡ Some file)
  stands-so path file at other there = subst (λ (t : Tree). file_at t path ≡ Some file) (same_Some _ _ (sym is ∙ there)) at

  -- parts of a file show its layer
  shows-one : (part : LayerParts) → IsOfTree tree part → (layer : Layer) × ShowsLayer known part layer
  shows-one part of =
      let path = string_bytes part.file.path in
      let at = file-there (file_at tree path) of.there in
      let file = of.each at.0 at.1 in (
        decoded_layer at.0 path,
        record {
          of = record { file = at.0; stands = stands-so path at.0 at.1; begins = file.begins; decoded = refl };
          ids = file.ids;
          records = file.records;
          edges = file.edges;
          offsets = file.offsets;
        },
      )

  -- and parts that show a layer are of its file
  of-shown : (part : LayerParts) (layer : Layer) → ShowsLayer known part layer → IsOfTree tree part
  of-shown part layer shows = record {
    there = ap is_some (shows.of.stands tree is);
    each = λ file at.
        let same : shows.of.file ≡ file = same_Some _ _ (sym (shows.of.stands tree is) ∙ at) in
        record {
          begins =
              subst (λ (f : List ℕ). BeginsWith f part.file.head.front.items part.file.head.len) same shows.of.begins;
          ids = subst (AreOf part.ids) same shows.ids;
          records = subst (AreOf part.records) same shows.records;
          edges = subst (AreOf part.edges) same shows.edges;
          offsets = subst (AreOffsetsOf part.offsets) same shows.offsets;
        };
  }

  all-show : (parts : List LayerParts) → All (IsOfTree tree) parts
      → (layers : List Layer) × AllZip (ShowsLayer known) parts layers
  all-show [] all = ([], tt)
  all-show (part ∷ parts) all =
      let one = shows-one part (All-head (IsOfTree tree) part parts all) in
      let rest = all-show parts (All-tail (IsOfTree tree) part parts all) in (one.0 ∷ rest.0, (one.1, rest.1))

  all-of : (parts : List LayerParts) (layers : List Layer) → AllZip (ShowsLayer known) parts layers → All (IsOfTree tree) parts
  all-of [] [] zip = All-nil (IsOfTree tree)
  all-of [] (layer ∷ layers) zip = absurd zip
  all-of (part ∷ parts) [] zip = absurd zip
  all-of (part ∷ parts) (layer ∷ layers) zip =
      All-cons (IsOfTree tree) part parts (of-shown part layer zip.0) (all-of parts layers zip.1)

  -- files show one layer each
  one-layer : (a b : LayerParts) (l m : Layer) → a.file ≡ b.file → ShowsLayer known a l → ShowsLayer known b m → l ≡ m
  one-layer a b l m same first second =
      let path : string_bytes a.file.path ≡ string_bytes b.file.path = ap (λ (f : ChainLayer). string_bytes f.path) same in
      let file : first.of.file ≡ second.of.file =
      same_Some _ _ (sym (first.of.stands tree is) ∙ ap (file_at tree) path ∙ second.of.stands tree is) in
      first.of.decoded
      ∙ ap (λ (f : List ℕ). decoded_layer f (string_bytes a.file.path)) file
      ∙ ap (decoded_layer second.of.file) path
      ∙ sym second.of.decoded

  one-list : (xs ys : List LayerParts) (ls ms : List Layer)
      → map (λ (p : LayerParts). p.file) xs ≡ map (λ (p : LayerParts). p.file) ys
      → AllZip (ShowsLayer known) xs ls → AllZip (ShowsLayer known) ys ms → ls ≡ ms
  one-list [] [] [] [] same first second = refl
  one-list [] [] (l ∷ ls) ms same first second = absurd first
  one-list [] [] [] (m ∷ ms) same first second = absurd second
  one-list [] (b ∷ ys) ls ms same first second =
      let clash : [] ≡ b.file ∷ map (λ (p : LayerParts). p.file) ys = same in cc
  one-list (a ∷ xs) [] ls ms same first second =
      let clash : a.file ∷ map (λ (p : LayerParts). p.file) xs ≡ [] = same in cc
  one-list (a ∷ xs) (b ∷ ys) [] ms same first second = absurd first
  one-list (a ∷ xs) (b ∷ ys) (l ∷ ls) [] same first second = absurd second
  one-list (a ∷ xs) (b ∷ ys) (l ∷ ls) (m ∷ ms) same first second =
      let here : a.file ∷ map (λ (p : LayerParts). p.file) xs ≡ b.file ∷ map (λ (p : LayerParts). p.file) ys = same in
      let one : a.file ≡ b.file = cc in
      let rest : map (λ (p : LayerParts). p.file) xs ≡ map (λ (p : LayerParts). p.file) ys = cc in
      ap (λ (x : Layer). x ∷ ls) (one-layer a b l m one first.0 second.0)
      ∙ ap (λ (xs : List Layer). m ∷ xs) (one-list xs ys ls ms rest first.1 second.1)

  -- parts of a tree show some layers
  pub shown-seen : (parts : GraphParts) → AreOfTree known parts → (layers : List Layer) × Shows known parts layers
  shown-seen parts of = all-show parts.layers.items (of tree is)

  -- and no others than those that other parts of the same files show
  pub same-shown : (a b : GraphParts) (ls ms : List Layer) → files_of a ≡ files_of b → Shows known a ls → Shows known b ms
      → ls ≡ ms
  same-shown a b ls ms same first second = one-list a.layers.items b.layers.items ls ms same first second

pub seen-shown : (known : Option Tree) (parts : GraphParts) (layers : List Layer) → Shows known parts layers
    → AreOfTree known parts
seen-shown known parts layers shows tree is = all-of known tree is parts.layers.items layers shows

-- parts of a tree stay so
pub seen-more : (known : Option Tree) (old new : GraphParts) → SeesMore known old new → AreOfTree known old → AreOfTree known new
seen-more known old new sees of tree is =
    let at = all-show known tree is old.layers.items (of tree is) in
    all-of known tree is new.layers.items at.0 (sees.told tree is at.0 at.1)
