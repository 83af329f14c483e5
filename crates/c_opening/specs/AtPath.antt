-- a graph that was opened at a path, and why none was
use Rattle.std.specs.Prelude.{◌≡◌, ◌⊎◌, ℕ, List, [], Option, Some, None, Ok, Err, length, string_bytes}
use Rattle.graph_format.specs.Layer.{Layer}
use Rattle.graph_format.specs.declared.error.GraphError.TheVariants as graph
use Rattle.graph_layer.specs.OpenRefusals.{OutOfMemoryStandsAlone}
use Rattle.graph_layer.specs.declared.opening.error.OpenError.{OpenError}
use Rattle.graph_layer.specs.declared.opening.error.OpenError.TheVariants as opening
use Rattle.gix_commitgraph.specs.Graph.{IsGraph}
use Rattle.gix_commitgraph.specs.OpenAlways.{IsFileError, IsFolderError, IsFromChain, IsFromFile, IsFromInfo, IsFromPath}
use Rattle.gix_commitgraph.specs.OpenAlways.{IsPathError}
use Rattle.c_opening.specs.Answers.{written}
use Rattle.c_opening.specs.Codes.{open_code, path_wanted}
use Rattle.c_opening.specs.KnownPaths.{known_at, unread}
use Rattle.c_opening.specs.KnownOpening.{ByError, IfRefused, KnownAnswer, UnreadPath}
use Rattle.c_opening.specs.declared.at_path.Unopened.{Unopened}
use Rattle.c_opening.specs.declared.at_path.Unopened.TheVariants as unopened
use Rattle.c_opening.specs.declared.known.CgKnown.{CgKnown}
use Rattle.c_opening.specs.declared.paths.CgPathError.{CgPathError}

-- The layers are a graph at a path: of the file (1), of the chain folder (2), of the info folder (3), or of what stands there.
pub record IsGraphAt (what : ℕ) (path : List ℕ) (layers : List Layer) : Type 0 where
  pub graph : IsGraph layers
  pub file : what ≡ 1 → IsFromFile path layers
  pub chain : what ≡ 2 → IsFromChain path layers
  pub info : what ≡ 3 → IsFromInfo path layers
  pub any : IsFromPath path layers

-- The error is one of opening that.
pub record IsErrorAt (what : ℕ) (error : OpenError) : Type 0 where
  pub file : what ≡ 1 → IsFileError error
  pub folder : (what ≡ 2) ⊎ (what ≡ 3) → IsFolderError error
  pub any : IsPathError error

-- why no graph is opened there: an error is one of opening that, and memory stands alone
abbrev pub IsUnopenedAt : ℕ → Unopened → Type 0
IsUnopenedAt what why = IfRefused why (λ error. IsErrorAt what error × OutOfMemoryStandsAlone error)

-- the layer or the line of the chain file that an error is about, 0 where it is about none
abbrev pub open_place : OpenError → ℕ
open_place (opening.ChainNotText line) = line
open_place (opening.Layer layer error) = layer
open_place (opening.Graph (graph.HashMismatch layer)) = layer
open_place error = 0

-- nothing is told but a code
abbrev pub only_code : ℕ → CgPathError
only_code code = record { code = code; layer = 0; length = 0 }

-- how an error is told, and how long the path of the file is that it is about
abbrev pub told_open : OpenError → List ℕ → CgPathError
told_open error file = record { code = open_code error; layer = open_place error; length = length file }

-- how a path is told whose file was not read, where this is known of it: it is wanted where nothing is
abbrev pub told_unread : Option CgKnown → List ℕ → CgPathError
told_unread None path = record { code = path_wanted; layer = 0; length = length path }
told_unread (Some known) path = told_open (unread known.kind) path

-- how it is told why no graph is opened: a path is written as far as there is room
abbrev pub TellsUnopened : List CgKnown → Unopened → CgPathError → List ℕ → List ℕ → Type 0
TellsUnopened known (unopened.Unread path) told old new =
    (told ≡ told_unread (known_at known (string_bytes path)) (string_bytes path)) × (new ≡ written (string_bytes path) old)
TellsUnopened known (unopened.Refused error file) told old new =
    (told ≡ told_open error (string_bytes file)) × (new ≡ written (string_bytes file) old)
TellsUnopened known unopened.NoMemory told old new = (told ≡ told_open opening.OutOfMemory []) × (new ≡ written [] old)

-- nothing is known of the path whose file was not read
abbrev pub IsUnknown : List CgKnown → Unopened → Type 0
IsUnknown known (unopened.Unread path) = known_at known (string_bytes path) ≡ None
IsUnknown known (unopened.Refused error file) = ⊥
IsUnknown known unopened.NoMemory = ⊥

-- A path is wanted: what is known ends there, since nothing is known of it. It is written as far as there is room.
pub record WantsPath (known : List CgKnown) (answer : KnownAnswer) (told : CgPathError) (old new : List ℕ) : Type 0 where
  pub path : List ℕ
  pub ends : answer ≡ Err (UnreadPath path)
  pub unknown : known_at known path ≡ None
  pub told_as : told ≡ told_unread None path
  pub room : new ≡ written path old

-- what is told of an answer: a path is written as far as there is room
abbrev pub TellsOpening : List CgKnown → KnownAnswer → CgPathError → List ℕ → List ℕ → Type 0
TellsOpening known (Ok layers) told old new = told ≡ only_code 0
TellsOpening known (Err (UnreadPath path)) told old new =
    (told ≡ told_unread (known_at known path) path) × (new ≡ written path old)
TellsOpening known (Err (ByError error file)) told old new = (told ≡ told_open error file) × (new ≡ written file old)

-- An error of opening is told, and the path of a file is written as far as there is room.
pub record RefusesPath (what : ℕ) (told : CgPathError) (old new : List ℕ) : Type 0 where
  pub error : OpenError
  pub at : IsErrorAt what error
  pub memory : OutOfMemoryStandsAlone error
  pub file : List ℕ
  pub told_as : told ≡ told_open error file
  pub room : new ≡ written file old
