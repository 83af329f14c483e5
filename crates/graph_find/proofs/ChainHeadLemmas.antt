-- the layers of heads that were read
use Rattle.std.proofs.Common.{◌≡◌, ℕ, ◌+◌, List, [], ◌∷◌, All, map, string_bytes, Option, Some}
use Rattle.std.proofs.Common.{Bool, IfOk, if◌then◌else◌, Result, Ok, Err, refl, sym, ap, ◌∙◌, arith}
use Rattle.std.specs.List.{AllZip, enumerate_from, sum_by}
use Rattle.std.specs.Option.{ok_or}
use Rattle.std.specs.Str.Lines.{lines}
use Rattle.std.proofs.lemmas.List.Elements.{All-cons, All-head, All-nil, All-tail}
use Rattle.std.proofs.lemmas.List.Sums.{sum_by-cons}
use Rattle.std.proofs.lemmas.Slice.Zip.{AllZip-long}
use Rattle.gix_hash_core.specs.declared.kind.Kind.{Kind}
use Rattle.graph_folder.specs.Tree.{Tree}
use Rattle.graph_folder.specs.declared.folder.ReadError.{ReadError}
use Rattle.graph_format.specs.Layer.{Layer, IsOpened}
use Rattle.graph_layer.specs.LayerOpening.{bytes_at, layer_at}
use Rattle.graph_layer.specs.OpenAnswer.{and_then, result_map, all_values}
use Rattle.graph_layer.specs.declared.opening.error.OpenError.{OpenError}
use Rattle.graph_layer.specs.declared.opening.error.OpenError.TheVariants.{NotOpened, ChainNotText}
use Rattle.gix_commitgraph.specs.Graph.{total}
use Rattle.gix_commitgraph.specs.OpenAlways.{IsFromChain}
use Rattle.gix_commitgraph.specs.Opening.{chain_opened, layer_of_line, layers_of_lines, graph_of_layers}
use Rattle.gix_commitgraph.specs.Opening.{graph_unless_refused}
use Rattle.gix_commitgraph.specs.Paths.{chain_path, layer_path}
use Rattle.gix_commitgraph.proofs.layers.LayerListLemmas.{graph-accepted, size}
use Rattle.graph_find.specs.ChainFinding.{AnswersInLayers, FindsInLayers, IsLayerOfChain}
use Rattle.graph_find.specs.ChainHeads.{AreHeadsOfChain, IsHeadOfLayer, IsHeadOfLine, SayGraph}
use Rattle.graph_find.specs.Finding.{AnswersIn, FindsInChain}
use Rattle.graph_find.specs.declared.answer.SearchAnswer.{SearchAnswer}
use Rattle.graph_find.specs.declared.answer.SearchAnswer.TheVariants.{Found, Missing, NotByParts}
use Rattle.graph_find.specs.declared.chain.ChainLayer.{ChainLayer}
use Rattle.graph_find.proofs.FoundInLayersLemmas.{OpensTo, none-refused}
use Rattle.graph_find.proofs.LayerLemmas.{keeps-head, opens-head}

-- how many commits a head counts
abbrev pub counts : ChainLayer → ℕ
counts layer = layer.head.layout.commits

module _ (known : Option Tree) where
  -- what is said of each head of a chain
  pub heads-read : (folder : List ℕ) (names : List (List ℕ)) (heads : List ChainLayer)
      → AllZip (IsHeadOfLine known folder) names heads → All (IsHeadOfLayer known) heads
  heads-read folder [] [] zip = All-nil (IsHeadOfLayer known)
  heads-read folder [] (head ∷ heads) zip = absurd zip
  heads-read folder (name ∷ names) [] zip = absurd zip
  heads-read folder (name ∷ names) (head ∷ heads) zip =
      All-cons (IsHeadOfLayer known) head heads zip.0.read (heads-read folder names heads zip.1)

  -- the layers have as many commits as the heads count
  pub layers-counted : (heads : List ChainLayer) (layers : List Layer) → AllZip (IsLayerOfChain known) heads layers
      → All (IsHeadOfLayer known) heads → sum_by counts heads ≡ total layers
  layers-counted [] [] zip read = refl
  layers-counted [] (layer ∷ layers) zip read = absurd zip
  layers-counted (head ∷ heads) [] zip read = absurd zip
  layers-counted (head ∷ heads) (layer ∷ layers) zip read =
      let is = All-head (IsHeadOfLayer known) head heads read in
      let one = (keeps-head known (string_bytes head.path) head.head is.head layer zip.0).size in
      let rest = layers-counted heads layers zip.1 (All-tail (IsHeadOfLayer known) head heads read) in
      omega (arith, sum_by-cons counts head heads, sum_by-cons size layer layers, one, rest)

  layers-alike : (kind : Kind) (heads : List ChainLayer) (layers : List Layer) → AllZip (IsLayerOfChain known) heads layers
      → All (IsHeadOfLayer known) heads → All (λ (head : ChainLayer). head.head.layout.kind ≡ kind) heads
      → All (λ (layer : Layer). layer.kind ≡ kind) layers
  layers-alike kind [] [] zip read alike = All-nil (λ (layer : Layer). layer.kind ≡ kind)
  layers-alike kind [] (layer ∷ layers) zip read alike = absurd zip
  layers-alike kind (head ∷ heads) [] zip read alike = absurd zip
  layers-alike kind (head ∷ heads) (layer ∷ layers) zip read alike =
      let Of : ChainLayer → Type 0 = λ h. h.head.layout.kind ≡ kind in
      let is = All-head (IsHeadOfLayer known) head heads read in
      All-cons (λ (l : Layer). l.kind ≡ kind) layer layers
      ((keeps-head known (string_bytes head.path) head.head is.head layer zip.0).kind ∙ All-head Of head heads alike)
      (layers-alike kind heads layers zip.1 (All-tail (IsHeadOfLayer known) head heads read) (All-tail Of head heads alike))

  layers-opened : (heads : List ChainLayer) (layers : List Layer) → AllZip (IsLayerOfChain known) heads layers
      → All (IsHeadOfLayer known) heads → All IsOpened layers
  layers-opened [] [] zip read = All-nil IsOpened
  layers-opened [] (layer ∷ layers) zip read = absurd zip
  layers-opened (head ∷ heads) [] zip read = absurd zip
  layers-opened (head ∷ heads) (layer ∷ layers) zip read =
      let is = All-head (IsHeadOfLayer known) head heads read in
      All-cons IsOpened layer layers
      (keeps-head known (string_bytes head.path) head.head is.head layer zip.0).opened
      (layers-opened heads layers zip.1 (All-tail (IsHeadOfLayer known) head heads read))

  layers-from : (folder : List ℕ) (names : List (List ℕ)) (heads : List ChainLayer) (layers : List Layer)
      → AllZip (IsHeadOfLine known folder) names heads → AllZip (IsLayerOfChain known) heads layers → IsFromChain folder layers
  layers-from folder [] [] [] named zip = All-nil (λ (layer : Layer). (line : List ℕ) × (layer.path ≡ layer_path folder line))
  layers-from folder [] [] (layer ∷ layers) named zip = absurd zip
  layers-from folder [] (head ∷ heads) layers named zip = absurd named
  layers-from folder (name ∷ names) [] layers named zip = absurd named
  layers-from folder (name ∷ names) (head ∷ heads) [] named zip = absurd zip
  layers-from folder (name ∷ names) (head ∷ heads) (layer ∷ layers) named zip =
      let keeps = keeps-head known (string_bytes head.path) head.head named.0.read.head layer zip.0 in
      All-cons (λ (l : Layer). (line : List ℕ) × (l.path ≡ layer_path folder line)) layer layers
      (name, keeps.path ∙ named.0.path)
      (layers-from folder names heads layers named.1 zip.1)

  module _ (tree : Tree) (there : known ≡ Some tree) (folder : List ℕ) where
    line-opened : (i : ℕ) (name : List ℕ) (head : ChainLayer) (layer : Layer) → IsHeadOfLine known folder name head
        → IsLayerOfChain known head layer → layer_of_line tree folder i name ≡ Ok layer
    line-opened i name head layer named of =
        ap (λ (b : Bool). if b then layer_at tree i (layer_path folder name) else Err (ChainNotText i)) named.text
        ∙ ap (λ (path : List ℕ). layer_at tree i path) (sym named.path)
        ∙ opens-head known (string_bytes head.path) head.head named.read.head layer of tree i there

    lines-opened : (i : ℕ) (names : List (List ℕ)) (heads : List ChainLayer) (layers : List Layer)
        → AllZip (IsHeadOfLine known folder) names heads → AllZip (IsLayerOfChain known) heads layers
        → all_values (map (λ p. layer_of_line tree folder p.0 p.1) (enumerate_from i names)) ≡ Ok layers
    lines-opened i [] [] [] named zip = refl
    lines-opened i [] [] (layer ∷ layers) named zip = absurd zip
    lines-opened i [] (head ∷ heads) layers named zip = absurd named
    lines-opened i (name ∷ names) [] layers named zip = absurd named
    lines-opened i (name ∷ names) (head ∷ heads) [] named zip = absurd zip
    lines-opened i (name ∷ names) (head ∷ heads) (layer ∷ layers) named zip =
        let rest = all_values (map (λ p. layer_of_line tree folder p.0 p.1) (enumerate_from (i + 1) names)) in
        ap (λ (answer : Result Layer OpenError). and_then answer (λ one. result_map (λ more. one ∷ more) rest))
        (line-opened i name head layer named.0 zip.0)
        ∙ ap (λ (answer : Result (List Layer) OpenError). result_map (λ more. layer ∷ more) answer)
        (lines-opened (i + 1) names heads layers named.1 zip.1)

  -- the layers of a chain's heads make the graph of the chain
  pub chain-opened : (folder : List ℕ) (heads : List ChainLayer) (layers : List Layer) → AreHeadsOfChain known folder heads
      → SayGraph heads → AllZip (IsLayerOfChain known) heads layers
      → OpensTo known (λ (tree : Tree). chain_opened tree folder) (IsFromChain folder) layers
  chain-opened folder heads layers chain says each =
      let read = heads-read folder (lines chain.text) heads chain.each in
      let counted = layers-counted heads layers each read in
      let long = AllZip-long (IsLayerOfChain known) heads layers each in
      let none = none-refused says.kind layers (omega (arith, says.some, long))
      (omega (arith, says.few, counted)) (layers-alike says.kind heads layers each read says.alike) in
      record {
        opens = λ tree there.
            let bytes : bytes_at tree (chain_path folder) ≡ Ok chain.text =
            ap (λ (o : Option (List ℕ)). ok_or o NotOpened) (chain.stands tree there) in
            ap (λ (r : Result (List ℕ) OpenError).
            and_then r (λ text. and_then (layers_of_lines tree folder (lines text)) graph_of_layers)) bytes
            ∙ ap (λ (r : Result (List Layer) OpenError). and_then r graph_of_layers)
            (lines-opened tree there folder 0 (lines chain.text) heads layers chain.each each)
            ∙ ap (λ r. graph_unless_refused r layers) none;
        graph = graph-accepted layers none (layers-opened heads layers each read);
        from = layers-from folder (lines chain.text) heads layers chain.each each;
      }

  -- what is found in the layers of a chain's heads is found in the chain
  chain-answers : (folder : List ℕ) (heads : List ChainLayer) (id : List ℕ) (answer : SearchAnswer)
      → AreHeadsOfChain known folder heads → SayGraph heads → AnswersInLayers known heads id answer
      → AnswersIn known (λ (tree : Tree). chain_opened tree folder) (IsFromChain folder) id answer
  chain-answers folder heads id answer chain says found =
      let opened = chain-opened folder heads found.layers chain says found.each in
      record {
        layers = found.layers;
        opens = opened.opens;
        graph = opened.graph;
        from = opened.from;
        answers = found.answers;
      }

  pub finds-in_chain : (folder : List ℕ) (heads : List ChainLayer) (id : List ℕ) (answer : SearchAnswer)
      → AreHeadsOfChain known folder heads → SayGraph heads → FindsInLayers known heads id answer
      → FindsInChain known folder id answer
  finds-in_chain folder heads id (Found commit) chain says found = chain-answers folder heads id (Found commit) chain says found
  finds-in_chain folder heads id Missing chain says found = chain-answers folder heads id Missing chain says found
  finds-in_chain folder heads id NotByParts chain says found = tt

  -- where the search did not fail
  pub ok-in_chain : (folder : List ℕ) (heads : List ChainLayer) (id : List ℕ) (answer : Result SearchAnswer ReadError)
      → AreHeadsOfChain known folder heads → SayGraph heads → IfOk answer (FindsInLayers known heads id)
      → IfOk answer (FindsInChain known folder id)
  ok-in_chain folder heads id (Ok answer) chain says found = finds-in_chain folder heads id answer chain says found
  ok-in_chain folder heads id (Err error) chain says found = tt
