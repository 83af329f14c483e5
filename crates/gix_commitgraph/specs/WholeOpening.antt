-- For private contracts: what the opener of whole graphs answers.
use Rattle.std.specs.Prelude.{◌≡◌, ℕ, List, Option, Result, IfOk, IfErr, MatchResult}
use Rattle.std.specs.Option.{ForSome}
use Rattle.graph_folder.specs.Tree.{Tree}
use Rattle.graph_format.specs.Layer.{Layer}
use Rattle.graph_layer.specs.OpenAnswer.{IsAsExpected, failures_after_opening}
use Rattle.graph_layer.specs.OpenRefusals.{OutOfMemoryStandsAlone}
use Rattle.graph_layer.specs.declared.opening.error.OpenError.{OpenError}
use Rattle.gix_commitgraph.specs.Graph.{IsGraph}
use Rattle.gix_commitgraph.specs.OpenAlways.{IsFileError, IsFolderError, IsFromChain, IsFromFile}
use Rattle.gix_commitgraph.specs.Opening.{chain_opened, file_opened}
use Rattle.gix_commitgraph.specs.WasRead.{ChainWasRead, FileWasRead}

-- That of one that stops at the first failed device: where the tree is known, what is expected; and in every folder a graph of
-- files that lie so and were read so, or one of these errors.
pub record WholeOpens (known : Option Tree) (opened : Tree → Result (List Layer) OpenError) (IsFrom WasRead : List Layer → Type 0)
    (IsError : OpenError → Type 0) (old new : ℕ) (answer : Result (List Layer) OpenError) : Type 0 where
  pub opens : ForSome known (λ (tree : Tree). IsAsExpected answer (opened tree))
  pub failures : new ≡ failures_after_opening answer old
  pub from : MatchResult answer IsFrom IsError
  pub given : IfOk answer WasRead
  pub graph : IfOk answer IsGraph
  pub memory : IfErr answer OutOfMemoryStandsAlone

-- that of a file
abbrev pub WholeFile : Option Tree → (List ℕ → List ℕ → Type 0) → List ℕ → ℕ → ℕ → Result (List Layer) OpenError → Type 0
WholeFile known gives path old new answer =
    WholeOpens known (λ tree. file_opened tree path) (IsFromFile path) (FileWasRead gives path) IsFileError old new answer

-- that of a chain folder
abbrev pub WholeChain : Option Tree → (List ℕ → List ℕ → Type 0) → List ℕ → ℕ → ℕ → Result (List Layer) OpenError → Type 0
WholeChain known gives path old new answer =
    WholeOpens known (λ tree. chain_opened tree path) (IsFromChain path) (ChainWasRead gives path) IsFolderError old new answer
