-- What the search in the layers of a chain answers.
use Rattle.std.specs.Prelude.{ℕ, List, Option, string_bytes}
use Rattle.std.specs.List.{AllZip}
use Rattle.graph_folder.specs.Tree.{Tree}
use Rattle.graph_format.specs.Layer.{Layer}
use Rattle.graph_find.specs.Finding.{Answers, IfByParts}
use Rattle.graph_find.specs.LayerFinding.{IsLayerOfHead}
use Rattle.graph_find.specs.declared.answer.SearchAnswer.{SearchAnswer}
use Rattle.graph_find.specs.declared.chain.ChainLayer.{ChainLayer}

-- a layer of the head that was read for it
abbrev pub IsLayerOfChain : Option Tree → ChainLayer → Layer → Type 0
IsLayerOfChain known read layer = IsLayerOfHead known (string_bytes read.path) read.head layer

-- An answer of the lookup in some layers of the heads.
pub record AnswersInLayers (known : Option Tree) (heads : List ChainLayer) (id : List ℕ) (answer : SearchAnswer) : Type 0 where
  pub layers : List Layer
  pub each : AllZip (IsLayerOfChain known) heads layers
  pub answers : Answers layers id answer

abbrev pub FindsInLayers : Option Tree → List ChainLayer → List ℕ → SearchAnswer → Type 0
FindsInLayers known heads id answer = IfByParts answer (AnswersInLayers known heads id answer)
