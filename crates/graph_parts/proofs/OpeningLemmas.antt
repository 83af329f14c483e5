-- the graph of the parts of files of which only the heads were read
use Rattle.std.proofs.Common.{◌≡◌, ℕ, List, [], ◌∷◌, ◌++◌, All, map, string_bytes, Option, Result, refl, sym, ap, subst, ◌∙◌}
use Rattle.std.proofs.Common.{arith}
use Rattle.std.specs.List.{AllZip}
use Rattle.std.proofs.lemmas.List.{append-nil}
use Rattle.std.proofs.lemmas.List.Elements.{All-cons, All-head, All-nil, All-push, All-tail}
use Rattle.std.proofs.lemmas.List.Sums.{sum_by-cons}
use Rattle.graph_folder.specs.Tree.{Tree}
use Rattle.graph_format.specs.Layer.{Layer}
use Rattle.graph_layer.specs.declared.opening.error.OpenError.{OpenError}
use Rattle.gix_commitgraph.specs.OpenAlways.{IsFromChain, IsFromFile}
use Rattle.gix_commitgraph.specs.Opening.{chain_opened, file_opened}
use Rattle.graph_find.specs.ChainFinding.{IsLayerOfChain}
use Rattle.graph_find.specs.ChainHeads.{AreHeadsOfChain, SayGraph}
use Rattle.graph_find.specs.ReadHead.{BeginsAt, IsHead}
use Rattle.graph_find.specs.declared.chain.ChainLayer.{ChainLayer}
use Rattle.graph_find.proofs.AnswerLemmas.{some-layer}
use Rattle.graph_find.proofs.ChainHeadLemmas.{chain-opened, heads-read}
use Rattle.graph_find.proofs.FileFindingLemmas.{file-opened}
use Rattle.graph_find.proofs.FoundInLayersLemmas.{OpensTo}
use Rattle.graph_find.proofs.SearchedLemmas.{some-layers}
use Rattle.std.specs.Str.Lines.{lines}
use Rattle.graph_parts.specs.PartFiles.{commits_in_all}
use Rattle.graph_parts.specs.Shown.{AreOpened, ArePartsOf, AreUnread, Shows, commits_of_part}
use Rattle.graph_parts.specs.ShownLayer.{IsLayerParts, KeepsHeadAlone, ShowsAll, ShowsLayer}
use Rattle.graph_parts.specs.declared.layer.LayerParts.{LayerParts}
use Rattle.graph_parts.specs.declared.parts.GraphParts.{GraphParts}
use Rattle.graph_parts.proofs.GraphPartLemmas.{count-files}

opened-by : (known : Option Tree) (opened : Tree → Result (List Layer) OpenError) (IsFrom : List Layer → Type 0)
    (layers : List Layer) → OpensTo known opened IsFrom layers → AreOpened known opened IsFrom layers
opened-by known opened IsFrom layers to = record { opens = to.opens; graph = to.graph; from = to.from }

module _ (known : Option Tree) where
  -- the layers of the parts are those of the heads
  zip-files : (parts : List LayerParts) (layers : List Layer) → AllZip (ShowsLayer known) parts layers
      → AllZip (IsLayerOfChain known) (map (λ (part : LayerParts). part.file) parts) layers
  zip-files [] [] zip = tt
  zip-files [] (layer ∷ layers) zip = absurd zip
  zip-files (part ∷ parts) [] zip = absurd zip
  zip-files (part ∷ parts) (layer ∷ layers) zip = (zip.0.of, zip-files parts layers zip.1)

  zip-unread : (parts : List LayerParts) (layers : List Layer) → All ShowsAll parts
      → AllZip (IsLayerOfChain known) (map (λ (part : LayerParts). part.file) parts) layers
      → AllZip (ShowsLayer known) parts layers
  zip-unread [] [] all zip = tt
  zip-unread [] (layer ∷ layers) all zip = absurd zip
  zip-unread (part ∷ parts) [] all zip = absurd zip
  zip-unread (part ∷ parts) (layer ∷ layers) all zip =
      (All-head ShowsAll part parts all known layer zip.0, zip-unread parts layers (All-tail ShowsAll part parts all) zip.1)

  -- the parts of one file
  pub file-parts : (path : List ℕ) (part : LayerParts) (parts : GraphParts) → parts.layers.items ≡ part ∷ []
      → string_bytes part.file.path ≡ path → IsLayerParts part → ShowsAll part → BeginsAt known path part.file.head
      → ArePartsOf known (λ (tree : Tree). file_opened tree path) (IsFromFile path) parts
  file-parts path part parts is at right all begins =
      let some = some-layer known path part.file.head right.head begins in
      let there : Shows known parts (some.0 ∷ []) =
      rw is (all known some.0 (rw at some.1), tt) in
      record {
        right = record {
          each = rw is (All-cons IsLayerParts part [] right (All-nil IsLayerParts));
          few = rw is (omega (arith, sum_by-cons commits_of_part part [], right.head.order.few));
        };
        some = (some.0 ∷ [], there);
        each = λ layers shows. one layers (rw is at shows);
      }
    where
      one : (layers : List Layer) → AllZip (ShowsLayer known) (part ∷ []) layers
          → AreOpened known (λ (tree : Tree). file_opened tree path) (IsFromFile path) layers
      one [] zip = absurd zip
      one (layer ∷ []) zip =
          opened-by known (λ (tree : Tree). file_opened tree path) (IsFromFile path) (layer ∷ [])
          (file-opened known path part.file.head right.head layer (rw at at zip.0.of))
      one (layer ∷ next ∷ more) zip = absurd zip.1

  -- the parts of a chain's files
  pub chain-parts : (folder : List ℕ) (files : List ChainLayer) (parts : GraphParts) → AreHeadsOfChain known folder files
      → SayGraph files → AreUnread files parts.layers.items
      → ArePartsOf known (λ (tree : Tree). chain_opened tree folder) (IsFromChain folder) parts
  chain-parts folder files parts chain says unread =
      let read = heads-read known folder (lines chain.text) files chain.each in
      let some = some-layers known files [] files read in
      record {
        right = record {
          each = unread.each;
          few =
              let all : commits_in_all (map (λ (p : LayerParts). p.file) parts.layers.items) ≡ commits_in_all files =
              ap commits_in_all unread.same in
              omega (arith, all, count-files parts.layers.items, says.few);
        };
        some = (some.0, zip-unread parts.layers.items some.0 unread.all (rw unread.same some.1));
        each = λ layers shows.
            opened-by known (λ (tree : Tree). chain_opened tree folder) (IsFromChain folder) layers
            (chain-opened known folder files layers chain says
            (rw unread.same at (zip-files parts.layers.items layers shows)));
      }

-- what is said of each head of a chain
pub chain-heads : (known : Option Tree) (folder : List ℕ) (files : List ChainLayer) → AreHeadsOfChain known folder files
    → All (λ (file : ChainLayer). IsHead file.head) files
chain-heads known folder files chain =
    let read = heads-read known folder (lines chain.text) files chain.each in
    λ i d within. (read i d within).head

split-push : (parts : List LayerParts) (part : LayerParts) (rest : List ChainLayer)
    → map (λ (p : LayerParts). p.file) (parts ++ part ∷ []) ++ rest
    ≡ map (λ (p : LayerParts). p.file) parts ++ (part.file ∷ rest)
split-push [] part rest = refl
split-push (p ∷ ps) part rest = ap (λ (fs : List ChainLayer). p.file ∷ fs) (split-push ps part rest)

-- the parts of one file more, and the files that are left
pub split-pushed : (parts : List LayerParts) (part : LayerParts) (file : ChainLayer) (left rest files : List ChainLayer)
    (more : List LayerParts) → more ≡ parts ++ part ∷ [] → part.file ≡ file → left ≡ file ∷ rest
    → map (λ (p : LayerParts). p.file) parts ++ left ≡ files → map (λ (p : LayerParts). p.file) more ++ rest ≡ files
split-pushed parts part file left rest files more pushed same cut split =
    ap (λ (ps : List LayerParts). map (λ (p : LayerParts). p.file) ps ++ rest) pushed
    ∙ split-push parts part rest
    ∙ ap (λ (f : ChainLayer). map (λ (p : LayerParts). p.file) parts ++ (f ∷ rest)) same
    ∙ ap (λ (fs : List ChainLayer). map (λ (p : LayerParts). p.file) parts ++ fs) (sym cut)
    ∙ split

-- The parts are those of the first files, and these are left.
pub record FilesSplit (files : List ChainLayer) (parts : List LayerParts) (left : List ChainLayer) : Type 0 where
  pub split : map (λ (p : LayerParts). p.file) parts ++ left ≡ files
  pub heads : All (λ (file : ChainLayer). IsHead file.head) left
  pub each : All IsLayerParts parts
  pub all : All ShowsAll parts
  pub none : All KeepsHeadAlone parts

pub files-none : (files left : List ChainLayer) (parts : List LayerParts) → All (λ (file : ChainLayer). IsHead file.head) files
    → left ≡ files → parts ≡ [] → FilesSplit files parts left
files-none files left parts heads all none = record {
  split = ap (λ (ps : List LayerParts). map (λ (p : LayerParts). p.file) ps ++ left) none ∙ all;
  heads = subst (λ (fs : List ChainLayer). All (λ (f : ChainLayer). IsHead f.head) fs) (sym all) heads;
  each = subst (All IsLayerParts) (sym none) (All-nil IsLayerParts);
  all = subst (All ShowsAll) (sym none) (All-nil ShowsAll);
  none = subst (All KeepsHeadAlone) (sym none) (All-nil KeepsHeadAlone);
}

pub files-push : (files left rest : List ChainLayer) (parts more : List LayerParts) (part : LayerParts) (file : ChainLayer)
    → FilesSplit files parts left → left ≡ file ∷ rest → more ≡ parts ++ part ∷ [] → part.file ≡ file → IsLayerParts part
    → ShowsAll part → KeepsHeadAlone part → FilesSplit files more rest
files-push files left rest parts more part file split cut pushed same right shows alone = record {
  split = split-pushed parts part file left rest files more pushed same cut split.split;
  heads = All-tail (λ (f : ChainLayer). IsHead f.head) file rest
      (subst (λ (fs : List ChainLayer). All (λ (f : ChainLayer). IsHead f.head) fs) cut split.heads);
  each = subst (All IsLayerParts) (sym pushed) (All-push IsLayerParts parts part split.each right);
  all = subst (All ShowsAll) (sym pushed) (All-push ShowsAll parts part split.all shows);
  none = subst (All KeepsHeadAlone) (sym pushed) (All-push KeepsHeadAlone parts part split.none alone);
}

-- the next file
pub next-head : (files left rest : List ChainLayer) (parts : List LayerParts) (file : ChainLayer) → FilesSplit files parts left
    → left ≡ file ∷ rest → IsHead file.head
next-head files left rest parts file split cut =
    All-head (λ (f : ChainLayer). IsHead f.head) file rest
    (subst (λ (fs : List ChainLayer). All (λ (f : ChainLayer). IsHead f.head) fs) cut split.heads)

pub files-all : (files left : List ChainLayer) (parts : List LayerParts) → FilesSplit files parts left → left ≡ []
    → AreUnread files parts
files-all files left parts split none = record {
  same =
      sym (append-nil (map (λ (p : LayerParts). p.file) parts))
      ∙ ap (λ (fs : List ChainLayer). map (λ (p : LayerParts). p.file) parts ++ fs) (sym none)
      ∙ split.split;
  each = split.each;
  all = split.all;
  none = split.none;
}
