-- What the search in one layer answers.
use Rattle.std.specs.Prelude.{◌≡◌, ℕ, List, Option, Some, None}
use Rattle.std.specs.Option.{ForSome}
use Rattle.graph_folder.specs.Tree.{Tree, file_at}
use Rattle.graph_format.specs.Head.{BeginsWith}
use Rattle.graph_format.specs.Layer.{Layer, decoded_layer, record_at}
use Rattle.graph_format.specs.Lookup.{Found}
use Rattle.graph_find.specs.Finding.{IfByParts}
use Rattle.graph_find.specs.declared.answer.FoundCommit.{FoundCommit}
use Rattle.graph_find.specs.declared.answer.SearchAnswer.{SearchAnswer}
use Rattle.graph_find.specs.declared.answer.SearchAnswer.TheVariants.{Found as found_at, Missing, NotByParts}
use Rattle.graph_find.specs.declared.head.Head.{Head}

-- The layer is that of a file that begins with the head: where the tree is known, of the one at the path.
pub record IsLayerOfHead (known : Option Tree) (path : List ℕ) (head : Head) (layer : Layer) : Type 0 where
  pub file : List ℕ
  pub stands : ForSome known (λ tree. file_at tree path ≡ Some file)
  pub begins : BeginsWith file head.front.items head.len
  pub decoded : layer ≡ decoded_layer file path

-- What is told of a commit of the layer.
pub record TellsOfRecord (layer : Layer) (commit : FoundCommit) : Type 0 where
  pub generation : commit.generation ≡ (record_at layer commit.pos).generation
  pub time : commit.time ≡ (record_at layer commit.pos).time

-- an answer of the lookup of an id in the layer, with the commit there
abbrev pub AnswersOfLayer : Layer → List ℕ → SearchAnswer → Type 0
AnswersOfLayer layer id (found_at commit) = Found layer id (Some commit.pos) × TellsOfRecord layer commit
AnswersOfLayer layer id Missing = Found layer id None
AnswersOfLayer layer id NotByParts = Unit

-- the same in some layer of the head
pub record AnswersInLayer (known : Option Tree) (path : List ℕ) (head : Head) (id : List ℕ) (answer : SearchAnswer) : Type 0 where
  pub layer : Layer
  pub is : IsLayerOfHead known path head layer
  pub answers : AnswersOfLayer layer id answer

abbrev pub FindsInLayer : Option Tree → List ℕ → Head → List ℕ → SearchAnswer → Type 0
FindsInLayer known path head id answer = IfByParts answer (AnswersInLayer known path head id answer)
