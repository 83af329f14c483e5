-- What the opener of whole graphs answers at a path, by what stands there.
use Rattle.std.proofs.Common.{◌≡◌, ℕ, ◌<◌, ◌≤◌, ◌-◌, ◌^◌, List, Option, Result, Err, IfOk, IfErr, ap, subst, sym, ◌∙◌, arith}
use Rattle.std.proofs.Common.{inl, inr}
use Rattle.std.specs.Prelude.{MatchResult}
use Rattle.std.specs.Option.{ForSome}
use Rattle.graph_folder.specs.Tree.{Tree}
use Rattle.graph_format.specs.Layer.{Layer}
use Rattle.graph_layer.specs.OpenAnswer.{failures_after_opening}
use Rattle.graph_layer.specs.OpenRefusals.{OutOfMemoryStandsAlone}
use Rattle.graph_layer.specs.declared.opening.error.OpenError.{OpenError}
use Rattle.graph_layer.specs.declared.opening.error.OpenError.TheVariants.{NothingFound, NotOpened, Device, ChainNotText}
use Rattle.graph_layer.specs.declared.opening.error.OpenError.TheVariants.{Layer as layer_error, Graph as graph_error}
use Rattle.graph_layer.specs.declared.opening.error.OpenError.TheVariants.{OutOfMemory}
use Rattle.gix_commitgraph.specs.ByStanding.{InfoComes, PathComes, StandingComes}
use Rattle.gix_commitgraph.specs.Graph.{IsGraph}
use Rattle.gix_commitgraph.specs.OpenAlways.{IsFolderError, IsFromInfo, IsFromPath, IsPathError}
use Rattle.gix_commitgraph.specs.Opening.{InfoOpens, MetFailureIfDevice, Opens, StandingOpens, standing_at}
use Rattle.gix_commitgraph.specs.WasRead.{InfoWasRead, PathWasRead}
use Rattle.gix_commitgraph.specs.WholeOpening.{WholeChain, WholeFile}
use Rattle.gix_commitgraph.specs.declared.opening.Standing.{Standing}
use Rattle.gix_commitgraph.specs.declared.opening.Standing.TheVariants.{File, ChainDir, InfoDir, Nothing}
use Rattle.gix_commitgraph.proofs.opening.InfoOpeningLemmas.{failures_after_opening-le, info_opens-chain, info_opens-file}
use Rattle.gix_commitgraph.proofs.opening.OpenErrorLemmas.{folder_error-file}
use Rattle.gix_commitgraph.proofs.opening.OpenedPathLemmas.{from_wider, ok_wider}

-- a failed device is answered only where the count rose
pub device-counted : (answer : Result (List Layer) OpenError) (old mid new : ℕ) → (old < 2 ^ 64 - 1 → old ≤ mid)
    → new ≡ failures_after_opening answer mid → MetFailureIfDevice answer old new
device-counted answer old mid new before after is small =
    let rose : new ≡ failures_after_opening {A = List Layer} (Err Device) mid =
    after ∙ ap (λ (a : Result (List Layer) OpenError). failures_after_opening a mid) is in
    let least : old ≤ mid = before small in
    omega (arith, rose, least, small)

-- the error of a folder's opener is one of a path's
path_error : (error : OpenError) → IsFolderError error → IsPathError error
path_error NothingFound is = tt
path_error NotOpened is = is
path_error Device is = is
path_error (ChainNotText line) is = is
path_error (layer_error i error) is = is
path_error (graph_error error) is = is
path_error OutOfMemory is = is

-- What the opener of an info folder answers.
pub record InfoAnswer (known : Option Tree) (gives : List ℕ → List ℕ → Type 0) (folder : List ℕ) (old new : ℕ)
    (answer : Result (List Layer) OpenError) : Type 0 where
  pub opens : ForSome known (λ (tree : Tree). InfoOpens tree folder old new answer)
  pub device : MetFailureIfDevice answer old new
  pub from : MatchResult answer (IsFromInfo folder) IsFolderError
  pub given : IfOk answer (InfoWasRead gives folder)
  pub graph : IfOk answer IsGraph
  pub memory : IfErr answer OutOfMemoryStandsAlone

-- And that of a path.
pub record PathAnswer (known : Option Tree) (gives : List ℕ → List ℕ → Type 0) (path : List ℕ) (old new : ℕ)
    (answer : Result (List Layer) OpenError) : Type 0 where
  pub opens : ForSome known (λ (tree : Tree). Opens tree path old new answer)
  pub device : MetFailureIfDevice answer old new
  pub from : MatchResult answer (IsFromPath path) IsPathError
  pub given : IfOk answer (PathWasRead gives path)
  pub graph : IfOk answer IsGraph
  pub memory : IfErr answer OutOfMemoryStandsAlone

abbrev refused : OpenError → Result (List Layer) OpenError
refused error = Err error

module _ {S : Type 0} (known : Option Tree) (gives : List ℕ → List ℕ → Type 0) (path : List ℕ) (old new : ℕ) (before after : S)
    (answer : Result (List Layer) OpenError) where
  -- of its file, or of its chain folder, where the file is refused
  pub info_whole : InfoComes (λ (file : List ℕ) (from to : ℕ) (first then : S). WholeFile known gives file from to)
      (λ (chain : List ℕ) (from to : ℕ) (first then : S). WholeChain known gives chain from to) path old new before after answer
      → InfoAnswer known gives path old new answer
  info_whole (inl of) = record {
    opens = λ tree is. info_opens-file tree path old new answer of.0 (of.1.opens tree is) of.1.failures;
    device = device-counted answer old old new (λ small. omega arith) of.1.failures;
    from = from_wider _ (IsFromInfo path) _ _ answer (λ layers from. inl from) folder_error-file of.1.from;
    given = ok_wider _ (InfoWasRead gives path) answer (λ layers was. inl was) of.1.given;
    graph = of.1.graph;
    memory = of.1.memory;
  }
  info_whole (inr (inl of)) = record {
    opens = λ tree is.
        info_opens-chain tree path answer (of.chain.opens tree is) old of.failures new of.refusal of.refused
        (of.file.opens tree is) of.file.failures of.chain.failures;
    device =
        device-counted answer old of.failures new
        (λ small. omega (arith, failures_after_opening-le of.refusal old (omega arith), of.file.failures)) of.chain.failures;
    from = from_wider _ (IsFromInfo path) _ _ answer (λ layers from. inr from) (λ error is. is) of.chain.from;
    given = ok_wider _ (InfoWasRead gives path) answer (λ layers was. inr was) of.chain.given;
    graph = of.chain.graph;
    memory = of.chain.memory;
  }
  info_whole (inr (inr of)) =
      subst (InfoAnswer known gives path old new) (sym of.0)
      (record {
        opens = λ tree is. (λ met. tt, λ met. tt);
        device = λ clash small. let none : refused OutOfMemory ≡ refused Device = clash in cc;
        from = tt;
        given = tt;
        graph = tt;
        memory = tt;
      })

  -- of what stands at the path
  standing_whole : (standing : Standing)
      → StandingComes standing (λ (file : List ℕ) (from to : ℕ) (first then : S). WholeFile known gives file from to)
      (λ (chain : List ℕ) (from to : ℕ) (first then : S). WholeChain known gives chain from to) path old new before after answer
      → ForSome known (λ (tree : Tree). standing ≡ standing_at tree path) → PathAnswer known gives path old new answer
  standing_whole File of stands = record {
    opens = λ tree is.
        subst (λ (s : Standing). StandingOpens s tree path old new answer) (stands tree is) (of.opens tree is, of.failures);
    device = device-counted answer old old new (λ small. omega arith) of.failures;
    from = from_wider _ (IsFromPath path) _ _ answer (λ layers from. inl from)
        (λ error is. path_error error (folder_error-file error is)) of.from;
    given = ok_wider _ (PathWasRead gives path) answer (λ layers was. inl was) of.given;
    graph = of.graph;
    memory = of.memory;
  }
  standing_whole ChainDir of stands = record {
    opens = λ tree is.
        subst (λ (s : Standing). StandingOpens s tree path old new answer) (stands tree is) (of.opens tree is, of.failures);
    device = device-counted answer old old new (λ small. omega arith) of.failures;
    from = from_wider _ (IsFromPath path) _ _ answer (λ layers from. inr (inl from)) path_error of.from;
    given = ok_wider _ (PathWasRead gives path) answer (λ layers was. inr (inl was)) of.given;
    graph = of.graph;
    memory = of.memory;
  }
  standing_whole InfoDir of stands =
      let info = info_whole of in
      record {
        opens = λ tree is.
            subst (λ (s : Standing). StandingOpens s tree path old new answer) (stands tree is) (info.opens tree is);
        device = info.device;
        from = from_wider _ (IsFromPath path) _ _ answer (λ layers from. inr (inr from)) path_error info.from;
        given = ok_wider _ (PathWasRead gives path) answer (λ layers was. inr (inr was)) info.given;
        graph = info.graph;
        memory = info.memory;
      }
  standing_whole Nothing of stands =
      subst (PathAnswer known gives path old new) (sym of.0)
      (record {
        opens = λ tree is.
            subst (λ (s : Standing). StandingOpens s tree path old new (refused NothingFound)) (stands tree is) of.1;
        device = λ clash small. let none : refused NothingFound ≡ refused Device = clash in cc;
        from = tt;
        given = tt;
        graph = tt;
        memory = tt;
      })

  no_memory : (standing : Standing) (tree : Tree) → new ≡ old
      → StandingOpens standing tree path old new (refused OutOfMemory)
  no_memory File tree same = (tt, same)
  no_memory ChainDir tree same = (tt, same)
  no_memory InfoDir tree same = (λ met. tt, λ met. tt)
  no_memory Nothing tree same = same

  pub path_whole : PathComes known (λ (file : List ℕ) (from to : ℕ) (first then : S). WholeFile known gives file from to)
      (λ (chain : List ℕ) (from to : ℕ) (first then : S). WholeChain known gives chain from to) path old new before after answer
      → PathAnswer known gives path old new answer
  path_whole (inl of) = standing_whole of.0 of.2 of.1
  path_whole (inr of) =
      subst (PathAnswer known gives path old new) (sym of.0)
      (record {
        opens = λ tree is. no_memory (standing_at tree path) tree of.1;
        device = λ clash small. let none : refused OutOfMemory ≡ refused Device = clash in cc;
        from = tt;
        given = tt;
        graph = tt;
        memory = tt;
      })
