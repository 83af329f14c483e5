-- What comes of a path, by what an opener makes of a file and of a chain folder ("Commit-Graphs Chains" of Git's commit-graph
-- design). Of either, this may come of the one at a path, while the count of device failures goes from one number to another, and
-- the opener from one value to another.
use Rattle.std.specs.Prelude.{◌≡◌, ◌⊎◌, ℕ, List, Option, true, false}
use Rattle.std.specs.Option.{ForSome}
use Rattle.std.specs.declared.result.Result.{Result}
use Rattle.std.specs.declared.result.Result.TheVariants.{Err}
use Rattle.graph_folder.specs.Tree.{Tree}
use Rattle.graph_layer.specs.OpenAnswer.{is_settled}
use Rattle.graph_layer.specs.declared.opening.error.OpenError.{OpenError}
use Rattle.graph_layer.specs.declared.opening.error.OpenError.TheVariants.{NothingFound, OutOfMemory}
use Rattle.gix_commitgraph.specs.Opening.{standing_at}
use Rattle.gix_commitgraph.specs.Paths.{info_chain, info_file}
use Rattle.gix_commitgraph.specs.declared.opening.Standing.{Standing}
use Rattle.gix_commitgraph.specs.declared.opening.Standing.TheVariants.{File, ChainDir, InfoDir, Nothing}

-- this error comes before anything is opened
abbrev pub ComesFirst : {S A : Type 0} → OpenError → ℕ → ℕ → S → S → Result A OpenError → Type 0
ComesFirst error old new before after answer = (answer ≡ Err error) × (new ≡ old) × (after ≡ before)

-- What comes of the chain folder of an info folder, where its file is refused.
pub record ChainComes {S A : Type 0} (OfFile OfChain : List ℕ → ℕ → ℕ → S → S → Result A OpenError → Type 0) (folder : List ℕ)
    (old new : ℕ) (before after : S) (answer : Result A OpenError) : Type 0 where
  pub refusal : Result A OpenError
  pub failures : ℕ
  pub between : S
  pub file : OfFile (info_file folder) old failures before between refusal
  pub refused : is_settled refusal ≡ false
  pub chain : OfChain (info_chain folder) failures new between after answer

-- of an info folder: what comes of its file, and where that is refused what comes of its chain folder
abbrev pub InfoComes : {S A : Type 0} → (List ℕ → ℕ → ℕ → S → S → Result A OpenError → Type 0)
    → (List ℕ → ℕ → ℕ → S → S → Result A OpenError → Type 0) → List ℕ → ℕ → ℕ → S → S → Result A OpenError → Type 0
InfoComes OfFile OfChain folder old new before after answer =
    ((is_settled answer ≡ true) × OfFile (info_file folder) old new before after answer)
    ⊎ (ChainComes OfFile OfChain folder old new before after answer ⊎ ComesFirst OutOfMemory old new before after answer)

-- of a path at which this stands
abbrev pub StandingComes : {S A : Type 0} → Standing → (List ℕ → ℕ → ℕ → S → S → Result A OpenError → Type 0)
    → (List ℕ → ℕ → ℕ → S → S → Result A OpenError → Type 0) → List ℕ → ℕ → ℕ → S → S → Result A OpenError → Type 0
StandingComes File OfFile OfChain path old new before after answer = OfFile path old new before after answer
StandingComes ChainDir OfFile OfChain path old new before after answer = OfChain path old new before after answer
StandingComes InfoDir OfFile OfChain path old new before after answer = InfoComes OfFile OfChain path old new before after answer
StandingComes Nothing OfFile OfChain path old new before after answer = ComesFirst NothingFound old new before after answer

-- of a path: where the tree is known, by what stands there
abbrev pub PathComes : {S A : Type 0} → Option Tree → (List ℕ → ℕ → ℕ → S → S → Result A OpenError → Type 0)
    → (List ℕ → ℕ → ℕ → S → S → Result A OpenError → Type 0) → List ℕ → ℕ → ℕ → S → S → Result A OpenError → Type 0
PathComes known OfFile OfChain path old new before after answer =
    ((standing : Standing) × ForSome known (λ (tree : Tree). standing ≡ standing_at tree path)
    × StandingComes standing OfFile OfChain path old new before after answer)
    ⊎ ComesFirst OutOfMemory old new before after answer
