-- Parts of the files of a graph that is trusted, and what is read of its commits.
use Rattle.std.specs.Prelude.{◌≡◌, ℕ, List, [], ◌∷◌, Option, Some, None, Vec}
use Rattle.std.specs.Global.{Global}
use Rattle.std.specs.Option.{ForSome}
use Rattle.graph_folder.specs.Tree.{Tree}
use Rattle.graph_walks.specs.History.{parents_at}
use Rattle.graph_format.specs.Layer.{Layer}
use Rattle.graph_format.specs.StoredHistory.{history_of}
use Rattle.graph_format.specs.declared.Position.{Position}
use Rattle.gix_commitgraph.specs.GraphLookup.{FoundIn}
use Rattle.gix_commitgraph.specs.IdWalks.{ids_at}
use Rattle.graph_parts.specs.OfTree.{AreOfTree}
use Rattle.graph_parts.specs.Shown.{AreGraphParts, Shows}
use Rattle.graph_parts.specs.Stored.{StoresAt}
use Rattle.graph_parts.specs.declared.layer.StoredCommit.{StoredCommit}
use Rattle.graph_parts.specs.declared.parts.GraphParts.{GraphParts}
use Rattle.answers.specs.FoundOf.{IsFoundOf, OfOne}
use Rattle.answers.specs.declared.answer.Answer.{Answer}
use Rattle.graph_unchecked.specs.Unchecked.{IsAnswerAt, IsFoundAt}

-- The parts of the files of a trusted graph: where the tree is known, of the graph that is opened at the path.
pub record IsTrustedAt (known : Option Tree) (path : List ℕ) (parts : GraphParts) : Type 0 where
  pub right : AreGraphParts parts
  pub of : AreOfTree known parts
  pub opened : ForSome known (λ (tree : Tree). IsAnswerAt tree path (λ layers shown. Shows known shown layers) parts)

-- what is found of the commit with an id: its position, and what is stored of it
abbrev pub IsCommitFound : List ℕ → List Layer → Option (Position × StoredCommit) → Type 0
IsCommitFound id layers (Some found) = IsFoundAt layers id found.0.0 × StoresAt layers found.0.0 found.1
IsCommitFound id layers None = FoundIn layers id None

-- these are the ids of the parents of a commit, first parent first
abbrev pub AreIdsOfParents : List Layer → ℕ → Vec (List ℕ) Global → Type 0
AreIdsOfParents layers p ids = ids.items ≡ ids_at layers (parents_at (history_of layers) p)

-- what is found of the parents of the commit with an id
abbrev pub AreParentsFound : List ℕ → List Layer → Answer (Vec (List ℕ) Global) → Type 0
AreParentsFound id layers answer = IsFoundOf (FoundIn layers) (OfOne (AreIdsOfParents layers)) (id ∷ []) answer
