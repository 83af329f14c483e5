-- what stands at a path, and why no graph is opened there
use Rattle.std.proofs.Common.{◌≡◌, ◌⊎◌, ℕ, List, IfOk, IfErr, Result, Ok, Err, inl, inr}
use Rattle.graph_format.specs.Layer.{Layer}
use Rattle.graph_layer.specs.OpenRefusals.{OutOfMemoryStandsAlone}
use Rattle.graph_layer.specs.declared.opening.error.OpenError.{OpenError}
use Rattle.graph_layer.specs.declared.opening.error.OpenError.TheVariants as opening
use Rattle.gix_commitgraph.proofs.opening.OpenErrorLemmas.{folder_error-file}
use Rattle.gix_commitgraph.specs.Graph.{IsGraph}
use Rattle.gix_commitgraph.specs.OpenAlways.{IsFileError, IsFolderError, IsPathError}
use Rattle.gix_commitgraph.specs.OpenAlways.{IsFromChain, IsFromFile, IsFromInfo, IsFromPath}
use Rattle.gix_commitgraph.specs.Paths.{info_chain, info_file}
use Rattle.c_opening.specs.AtPath.{IsGraphAt, IsUnopenedAt}
use Rattle.c_opening.specs.KnownOpening.{IfRefused}
use Rattle.c_opening.specs.declared.at_path.Unopened.{Unopened}
use Rattle.c_opening.specs.declared.at_path.Unopened.TheVariants as unopened

-- an error of a folder's opener is one of what stands at a path
path_error : (error : OpenError) → IsFolderError error → IsPathError error
path_error opening.NothingFound is = absurd is
path_error opening.NotOpened is = is
path_error opening.Device is = is
path_error (opening.ChainNotText line) is = is
path_error (opening.Layer layer error) is = is
path_error (opening.Graph error) is = is
path_error opening.OutOfMemory is = is

-- wider errors
pub refused_wider : (P Q : OpenError → Type 0) → ((error : OpenError) → P error → Q error) → (why : Unopened)
    → IfRefused why P → IfRefused why Q
refused_wider P Q wider (unopened.Unread path) is = tt
refused_wider P Q wider (unopened.Refused error file) is = wider error is
refused_wider P Q wider unopened.NoMemory is = tt

pub errors_wider : (P Q : OpenError → Type 0) → ((error : OpenError) → P error → Q error)
    → (answer : Result (List Layer) Unopened) → IfErr answer (λ why. IfRefused why P) → IfErr answer (λ why. IfRefused why Q)
errors_wider P Q wider (Ok layers) is = tt
errors_wider P Q wider (Err why) is = refused_wider P Q wider why is

pub file_error_of_folder : (answer : Result (List Layer) Unopened) → IfErr answer (λ why. IfRefused why IsFileError)
    → IfErr answer (λ why. IfRefused why IsFolderError)
file_error_of_folder answer is = errors_wider IsFileError IsFolderError folder_error-file answer is

pub file_error_of_path : (answer : Result (List Layer) Unopened) → IfErr answer (λ why. IfRefused why IsFileError)
    → IfErr answer (λ why. IfRefused why IsPathError)
file_error_of_path answer is =
    errors_wider IsFileError IsPathError (λ error was. path_error error (folder_error-file error was)) answer is

pub folder_error_of_path : (answer : Result (List Layer) Unopened) → IfErr answer (λ why. IfRefused why IsFolderError)
    → IfErr answer (λ why. IfRefused why IsPathError)
folder_error_of_path answer is = errors_wider IsFolderError IsPathError path_error answer is

-- as what a graph is opened
from_wider : (P Q : List Layer → Type 0) → ((layers : List Layer) → P layers → Q layers)
    → (answer : Result (List Layer) Unopened) → IfOk answer P → IfOk answer Q
from_wider P Q wider (Ok layers) is = wider layers is
from_wider P Q wider (Err why) is = tt

pub from_of_file : (path : List ℕ) (answer : Result (List Layer) Unopened) → IfOk answer (IsFromFile path)
    → IfOk answer (IsFromPath path)
from_of_file path answer is = from_wider (IsFromFile path) (IsFromPath path) (λ layers from. inl from) answer is

pub from_of_chain : (path : List ℕ) (answer : Result (List Layer) Unopened) → IfOk answer (IsFromChain path)
    → IfOk answer (IsFromPath path)
from_of_chain path answer is = from_wider (IsFromChain path) (IsFromPath path) (λ layers from. inr (inl from)) answer is

pub from_of_info : (path : List ℕ) (answer : Result (List Layer) Unopened) → IfOk answer (IsFromInfo path)
    → IfOk answer (IsFromPath path)
from_of_info path answer is = from_wider (IsFromInfo path) (IsFromPath path) (λ layers from. inr (inr from)) answer is

pub info_of_file : (path : List ℕ) (answer : Result (List Layer) Unopened) → IfOk answer (IsFromFile (info_file path))
    → IfOk answer (IsFromInfo path)
info_of_file path answer is = from_wider (IsFromFile (info_file path)) (IsFromInfo path) (λ layers from. inl from) answer is

pub info_of_chain : (path : List ℕ) (answer : Result (List Layer) Unopened) → IfOk answer (IsFromChain (info_chain path))
    → IfOk answer (IsFromInfo path)
info_of_chain path answer is = from_wider (IsFromChain (info_chain path)) (IsFromInfo path) (λ layers from. inr from) answer is

-- the graph that is opened there
pub graph_at : (what : ℕ) (path : List ℕ) (answer : Result (List Layer) Unopened) → IfOk answer IsGraph
    → (what ≡ 1 → IfOk answer (IsFromFile path)) → (what ≡ 2 → IfOk answer (IsFromChain path))
    → (what ≡ 3 → IfOk answer (IsFromInfo path)) → IfOk answer (IsFromPath path) → IfOk answer (IsGraphAt what path)
graph_at what path (Ok layers) graph file chain info any =
    record { graph = graph; file = file; chain = chain; info = info; any = any }
graph_at what path (Err why) graph file chain info any = tt

-- and why none is
refusal_at : (what : ℕ) (why : Unopened) → (what ≡ 1 → IfRefused why IsFileError)
    → ((what ≡ 2) ⊎ (what ≡ 3) → IfRefused why IsFolderError) → IfRefused why IsPathError → IfRefused why OutOfMemoryStandsAlone
    → IsUnopenedAt what why
refusal_at what (unopened.Unread path) file folder any memory = tt
refusal_at what (unopened.Refused error asked) file folder any memory =
    (record { file = file; folder = folder; any = any }, memory)
refusal_at what unopened.NoMemory file folder any memory = tt

pub unopened_at : (what : ℕ) (answer : Result (List Layer) Unopened)
    → (what ≡ 1 → IfErr answer (λ why. IfRefused why IsFileError))
    → ((what ≡ 2) ⊎ (what ≡ 3) → IfErr answer (λ why. IfRefused why IsFolderError))
    → IfErr answer (λ why. IfRefused why IsPathError) → IfErr answer (λ why. IfRefused why OutOfMemoryStandsAlone)
    → IfErr answer (IsUnopenedAt what)
unopened_at what (Ok layers) file folder any memory = tt
unopened_at what (Err why) file folder any memory = refusal_at what why file folder any memory
