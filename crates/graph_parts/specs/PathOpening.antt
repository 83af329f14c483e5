-- The graph that stands at a path.
use Rattle.std.specs.Prelude.{◌≡◌, ℕ, List, Option, None, Result, Ok, Err, IfOk, IfSome}
use Rattle.std.specs.Option.{ForSome}
use Rattle.graph_folder.specs.Failures.{failures_after}
use Rattle.graph_folder.specs.Tree.{Tree, file_at}
use Rattle.graph_folder.specs.declared.folder.ReadError.{ReadError}
use Rattle.graph_folder.specs.declared.folder.ReadError.TheVariants as read
use Rattle.graph_format.specs.Layer.{Layer}
use Rattle.graph_layer.specs.declared.opening.error.OpenError.{OpenError}
use Rattle.graph_layer.specs.declared.opening.error.OpenError.TheVariants.{NothingFound, NotOpened, OutOfMemory}
use Rattle.gix_commitgraph.specs.OpenAlways.{IsFromChain, IsFromFile}
use Rattle.gix_commitgraph.specs.Opening.{chain_opened, file_opened, info_opened, standing_at}
use Rattle.gix_commitgraph.specs.declared.opening.Standing.{Standing}
use Rattle.gix_commitgraph.specs.declared.opening.Standing.TheVariants.{File, ChainDir, InfoDir, Nothing}
use Rattle.graph_parts.specs.Shown.{ArePartsOf}
use Rattle.graph_parts.specs.declared.parts.GraphParts.{GraphParts}

-- that of a file, of a chain folder or of an info folder
abbrev pub opened_as : Standing → Tree → List ℕ → Result (List Layer) OpenError
opened_as File tree path = file_opened tree path
opened_as ChainDir tree path = chain_opened tree path
opened_as InfoDir tree path = info_opened tree path
opened_as Nothing tree path = Err NothingFound

-- that of what stands at the path
abbrev pub opened_at : Tree → List ℕ → Result (List Layer) OpenError
opened_at tree path = opened_as (standing_at tree path) tree path

-- For private contracts: what comes of a file and of a chain folder.

-- the parts of what is opened so, or a read's error, which is counted
abbrev pub PartsCome : Option Tree → (Tree → Result (List Layer) OpenError) → (List Layer → Type 0) → ℕ → ℕ
    → Result (Option GraphParts) ReadError → Type 0
PartsCome known opened IsFrom old new answer =
    IfOk answer (λ found. IfSome found (ArePartsOf known opened IsFrom)) × (new ≡ failures_after answer old)

-- of a file: parts, or that none stands at the path or may be read
abbrev pub FilePartsCome : Option Tree → List ℕ → ℕ → ℕ → Result (Result (Option GraphParts) ReadError) OpenError → Type 0
FilePartsCome known path old new (Ok answer) =
    PartsCome known (λ tree. file_opened tree path) (IsFromFile path) old new answer
FilePartsCome known path old new (Err NotOpened) = ForSome known (λ tree. file_at tree path ≡ None) × (new ≡ old)
FilePartsCome known path old new (Err error) = ⊥

-- of a chain folder: parts
abbrev pub ChainPartsCome : Option Tree → List ℕ → ℕ → ℕ → Result (Result (Option GraphParts) ReadError) OpenError → Type 0
ChainPartsCome known path old new (Ok answer) =
    PartsCome known (λ tree. chain_opened tree path) (IsFromChain path) old new answer
ChainPartsCome known path old new (Err error) = ⊥

-- the answer of what was opened, `None` where nothing stands at the path
abbrev pub parts_answer : Result (Result (Option GraphParts) ReadError) OpenError → Result (Option GraphParts) ReadError
parts_answer (Ok answer) = answer
parts_answer (Err NotOpened) = Err read.NotOpened
parts_answer (Err OutOfMemory) = Err read.OutOfMemory
parts_answer (Err error) = Ok None
