-- the graph that a caller's files make, or where what the caller knows of paths ends
use Rattle.std.specs.Prelude.{◌≡◌, ◌==◌, ℕ, List, [], ◌∷◌, Option, Some, None, Bool, true, false, not, map, find, take_while, ⊤}
use Rattle.std.specs.Prelude.{Result, Ok, Err, if◌then◌else◌, slice_get, string_bytes, unwrap_or}
use Rattle.std.specs.Option.{option_map_or}
use Rattle.std.specs.Str.{is_utf8}
use Rattle.std.specs.Str.Lines.{lines}
use Rattle.graph_folder.specs.Tree.{Tree, file_at, is_file}
use Rattle.graph_format.specs.Layer.{Layer}
use Rattle.graph_layer.specs.declared.opening.error.OpenError.{OpenError}
use Rattle.graph_layer.specs.declared.opening.error.OpenError.TheVariants as opening
use Rattle.gix_commitgraph.specs.Opening.{chain_opened, file_opened}
use Rattle.gix_commitgraph.specs.Paths.{chain_path, info_chain, info_file, layer_path}
use Rattle.c_opening.specs.KnownPaths.{is_known_file, known_at, known_tree}
use Rattle.c_opening.specs.declared.at_path.Unopened.{Unopened}
use Rattle.c_opening.specs.declared.at_path.Unopened.TheVariants as unopened
use Rattle.c_opening.specs.declared.known.CgKnown.{CgKnown}
use Rattle.c_opening.specs.declared.known.TheConstants.{FOLDER, NO_MEMORY, NOTHING}

-- what keeps a graph from being opened: a path whose file was not read, or of which nothing is known; or else an error, with the
-- path of the file that it is about
pub data Obstacle : Type 0 where
  UnreadPath : List ℕ → Obstacle
  ByError : OpenError → List ℕ → Obstacle

abbrev pub KnownAnswer : Type 0
KnownAnswer = Result (List Layer) Obstacle

-- what an opener answers of the files that were read: with this obstacle where one is not among them, and the file of an error
abbrev pub with_obstacle : Obstacle → (OpenError → List ℕ) → Result (List Layer) OpenError → KnownAnswer
with_obstacle unread file_of (Ok layers) = Ok layers
with_obstacle unread file_of (Err opening.NotOpened) = Err unread
with_obstacle unread file_of (Err error) = Err (ByError error (file_of error))

-- of a file
unfoldable pub file_answer : Tree → List ℕ → KnownAnswer
file_answer tree path = with_obstacle (UnreadPath path) (λ _. path) (file_opened tree path)

-- the files that the lines of a chain file name, up to the first line that is not UTF-8
abbrev pub layer_files : List ℕ → Option (List ℕ) → List (List ℕ)
layer_files folder None = []
layer_files folder (Some text) = map (layer_path folder) (take_while is_utf8 (lines text))

-- the first of these files that was not read
abbrev pub first_unread : Tree → List (List ℕ) → Obstacle
first_unread tree paths = option_map_or UnreadPath (find (λ path. not (is_file tree path)) paths) (ByError opening.NotOpened [])

-- the file that an error of a chain folder is about: of the layer that is refused, and else its chain file
abbrev pub refused_file : Tree → List ℕ → OpenError → List ℕ
refused_file tree folder (opening.Layer layer error) =
    let chain = chain_path folder in unwrap_or (slice_get (layer_files folder (file_at tree chain)) layer) chain
refused_file tree folder error = chain_path folder

-- of a chain folder, whose files are its chain file and those that this names
unfoldable pub chain_answer : Tree → List ℕ → KnownAnswer
chain_answer tree folder =
    let chain = chain_path folder in
    with_obstacle (first_unread tree (chain ∷ layer_files folder (file_at tree chain))) (refused_file tree folder)
    (chain_opened tree folder)

-- whether nothing else is tried where a file was not read: nothing is known of its path, or there was no memory for its bytes
abbrev pub ends_all : Option CgKnown → Bool
ends_all None = true
ends_all (Some k) = k.kind == NO_MEMORY

-- the answer of an info folder's file; or where that is refused, of its chain folder
abbrev pub or_chain : List CgKnown → KnownAnswer → KnownAnswer → KnownAnswer
or_chain known (Ok layers) chain = Ok layers
or_chain known (Err (UnreadPath path)) chain = if ends_all (known_at known path) then Err (UnreadPath path) else chain
or_chain known (Err (ByError error file)) chain = chain

unfoldable pub info_answer : List CgKnown → List ℕ → KnownAnswer
info_answer known folder =
    or_chain known (file_answer (known_tree known) (info_file folder)) (chain_answer (known_tree known) (info_chain folder))

-- of a folder, where this is known of its chain file: it is a chain folder if that is a file, and else an info folder
unfoldable pub folder_answer : List CgKnown → List ℕ → Option CgKnown → KnownAnswer
folder_answer known path None = Err (UnreadPath (chain_path path))
folder_answer known path (Some chain) =
    if is_known_file chain then chain_answer (known_tree known) path else info_answer known path

-- of a path of which this is known
unfoldable pub path_answer : List CgKnown → List ℕ → Option CgKnown → KnownAnswer
path_answer known path None = Err (UnreadPath path)
path_answer known path (Some there) =
    if there.kind == NOTHING then Err (ByError opening.NothingFound [])
    else (if there.kind == FOLDER then folder_answer known path (known_at known (chain_path path))
    else file_answer (known_tree known) path)

-- of a file (1), a chain folder (2), an info folder (3), or what stands at the path
unfoldable pub known_opened : ℕ → List CgKnown → List ℕ → KnownAnswer
known_opened what known path =
    if what == 1 then file_answer (known_tree known) path
    else (if what == 2 then chain_answer (known_tree known) path
    else (if what == 3 then info_answer known path else path_answer known path (known_at known path)))

-- a call answers that, or memory ran out
abbrev pub AnswersAs : KnownAnswer → Result (List Layer) Unopened → Type 0
AnswersAs answer (Ok layers) = answer ≡ Ok layers
AnswersAs answer (Err (unopened.Unread path)) = answer ≡ Err (UnreadPath (string_bytes path))
AnswersAs answer (Err (unopened.Refused error file)) = answer ≡ Err (ByError error (string_bytes file))
AnswersAs answer (Err unopened.NoMemory) = ⊤

-- a call answers with this obstacle
abbrev pub IsObstacle : Obstacle → Unopened → Type 0
IsObstacle obstacle why = AnswersAs (Err obstacle) (Err why)

-- whether the answer of an info folder's file is that of the folder
abbrev pub is_final : List CgKnown → Result (List Layer) Unopened → Bool
is_final known (Ok layers) = true
is_final known (Err (unopened.Unread path)) = ends_all (known_at known (string_bytes path))
is_final known (Err (unopened.Refused error file)) = false
is_final known (Err unopened.NoMemory) = true

-- the error that refuses a graph, if one does, is of this kind
abbrev pub IfRefused : Unopened → (OpenError → Type 0) → Type 0
IfRefused (unopened.Unread path) P = ⊤
IfRefused (unopened.Refused error file) P = P error
IfRefused unopened.NoMemory P = ⊤
