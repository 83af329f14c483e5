-- What a search by parts answers.
use Rattle.std.specs.Prelude.{◌≡◌, ℕ, List, Option, Some, None, Result, Ok, slice_get}
use Rattle.std.specs.Option.{ForSome}
use Rattle.graph_folder.specs.Tree.{Tree}
use Rattle.graph_format.specs.Layer.{Layer, record_at}
use Rattle.gix_commitgraph.specs.Graph.{IsGraph, graph_commits}
use Rattle.gix_commitgraph.specs.GraphLookup.{FoundIn}
use Rattle.gix_commitgraph.specs.OpenAlways.{IsFromFile, IsFromChain}
use Rattle.gix_commitgraph.specs.Opening.{file_opened, chain_opened}
use Rattle.graph_layer.specs.declared.opening.error.OpenError.{OpenError}
use Rattle.graph_find.specs.declared.answer.FoundCommit.{FoundCommit}
use Rattle.graph_find.specs.declared.answer.SearchAnswer.{SearchAnswer}
use Rattle.graph_find.specs.declared.answer.SearchAnswer.TheVariants.{Found, Missing, NotByParts}

-- What is told of a commit of a graph: where it stands, and the numbers of its record.
pub record Tells (layers : List Layer) (commit : FoundCommit) : Type 0 where
  pub layer : Layer
  pub pos : ℕ
  pub stands : slice_get (graph_commits layers) commit.pos ≡ Some (layer, pos)
  pub generation : commit.generation ≡ (record_at layer pos).generation
  pub time : commit.time ≡ (record_at layer pos).time

-- an answer of the lookup of an id in a graph, with the commit there
abbrev pub Answers : List Layer → List ℕ → SearchAnswer → Type 0
Answers layers id (Found commit) = FoundIn layers id (Some commit.pos) × Tells layers commit
Answers layers id Missing = FoundIn layers id None
Answers layers id NotByParts = Unit

-- the same in the layers of some graph: where the tree is known, those that an opener finds there
pub record AnswersIn (known : Option Tree) (opened : Tree → Result (List Layer) OpenError) (IsFrom : List Layer → Type 0)
    (id : List ℕ) (answer : SearchAnswer) : Type 0 where
  pub layers : List Layer
  pub opens : ForSome known (λ tree. opened tree ≡ Ok layers)
  pub graph : IsGraph layers
  pub from : IsFrom layers
  pub answers : Answers layers id answer

-- nothing is said of what is not read by parts
abbrev pub IfByParts : SearchAnswer → Type 0 → Type 0
IfByParts (Found commit) P = P
IfByParts Missing P = P
IfByParts NotByParts P = Unit

abbrev pub FindsInFile : Option Tree → List ℕ → List ℕ → SearchAnswer → Type 0
FindsInFile known path id answer =
    IfByParts answer (AnswersIn known (λ tree. file_opened tree path) (IsFromFile path) id answer)

abbrev pub FindsInChain : Option Tree → List ℕ → List ℕ → SearchAnswer → Type 0
FindsInChain known folder id answer =
    IfByParts answer (AnswersIn known (λ tree. chain_opened tree folder) (IsFromChain folder) id answer)
