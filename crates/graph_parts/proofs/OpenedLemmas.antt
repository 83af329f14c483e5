-- what was read of a file and of a chain folder is what was read of the path
use Rattle.std.proofs.Common.{◌≡◌, ℕ, List, IfOk, IfSome, Option, Result, sym, subst, inl, inr}
use Rattle.graph_folder.specs.Tree.{Tree}
use Rattle.graph_folder.specs.declared.folder.Part.{Part}
use Rattle.graph_folder.specs.declared.folder.ReadError.{ReadError}
use Rattle.graph_layer.specs.declared.opening.error.OpenError.{OpenError}
use Rattle.gix_commitgraph.specs.ByStanding.{InfoComes, PathComes, StandingComes}
use Rattle.gix_commitgraph.specs.Paths.{info_chain, info_file}
use Rattle.gix_commitgraph.specs.declared.opening.Standing.{Standing}
use Rattle.gix_commitgraph.specs.declared.opening.Standing.TheVariants.{File, ChainDir, InfoDir, Nothing}
use Rattle.graph_parts.specs.OpenedParts.{ChainPartsWereRead, FilePartsWereRead, IfPartsOpened, InfoPartsWereRead}
use Rattle.graph_parts.specs.OpenedParts.{PathPartsWereRead}
use Rattle.graph_parts.specs.PathOpening.{ChainPartsCome, FilePartsCome, parts_answer}
use Rattle.graph_parts.specs.declared.parts.GraphParts.{GraphParts}
use Rattle.graph_parts.proofs.ZipLemmas.{ok-some}

-- an answer of the opener by parts
abbrev answered : Type 0
answered = Result (Result (Option GraphParts) ReadError) OpenError

-- what may come of the file or folder at a path
abbrev comes_of : Type 0 → Type 1
comes_of S = List ℕ → ℕ → ℕ → S → S → answered → Type 0

-- less is said of a file and of a chain folder
module _ {S : Type 0} (File1 File2 Chain1 Chain2 : comes_of S)
    (file : (path : List ℕ) (old new : ℕ) (s t : S) (answer : answered) → File1 path old new s t answer
    → File2 path old new s t answer)
    (chain : (path : List ℕ) (old new : ℕ) (s t : S) (answer : answered) → Chain1 path old new s t answer
    → Chain2 path old new s t answer) (path : List ℕ) (old new : ℕ) (before after : S) (answer : answered) where
  pub info-less : InfoComes File1 Chain1 path old new before after answer
      → InfoComes File2 Chain2 path old new before after answer
  info-less (inl come) = inl (come.0, file (info_file path) old new before after answer come.1)
  info-less (inr (inl come)) =
      inr (inl (record {
        refusal = come.refusal;
        failures = come.failures;
        between = come.between;
        file = file (info_file path) old come.failures before come.between come.refusal come.file;
        refused = come.refused;
        chain = chain (info_chain path) come.failures new come.between after answer come.chain;
      }))
  info-less (inr (inr come)) = inr (inr come)

  standing-less : (standing : Standing) → StandingComes standing File1 Chain1 path old new before after answer
      → StandingComes standing File2 Chain2 path old new before after answer
  standing-less File come = file path old new before after answer come
  standing-less ChainDir come = chain path old new before after answer come
  standing-less InfoDir come = info-less come
  standing-less Nothing come = come

  pub path-less : (known : Option Tree) → PathComes known File1 Chain1 path old new before after answer
      → PathComes known File2 Chain2 path old new before after answer
  path-less known (inl come) = inl (come.0, come.1, standing-less come.0 come.2)
  path-less known (inr come) = inr come

module _ {S : Type 0} (known : Option Tree) (gives : List ℕ → List ℕ → Type 0) (gives_part : List ℕ → ℕ → Part → Type 0)
    (path : List ℕ) (old new : ℕ) (before after : S) (answer : answered) where
  abbrev FileComes : comes_of S
  FileComes file from to s t found =
      FilePartsCome known file from to found × IfPartsOpened (FilePartsWereRead gives_part file) found

  abbrev ChainComes : comes_of S
  ChainComes folder from to s t found =
      ChainPartsCome known folder from to found × IfPartsOpened (ChainPartsWereRead gives gives_part folder) found

  -- the parts that come
  pub info-come : InfoComes FileComes ChainComes path old new before after answer
      → InfoComes (λ (file : List ℕ) (from to : ℕ) (s t : S). FilePartsCome known file from to)
      (λ (chain : List ℕ) (from to : ℕ) (s t : S). ChainPartsCome known chain from to) path old new before after answer
  info-come come =
      info-less FileComes (λ (file : List ℕ) (from to : ℕ) (s t : S). FilePartsCome known file from to) ChainComes
      (λ (chain : List ℕ) (from to : ℕ) (s t : S). ChainPartsCome known chain from to)
      (λ file from to s t found of. of.0) (λ chain from to s t found of. of.0) path old new before after answer come

  pub path-come : PathComes known FileComes ChainComes path old new before after answer
      → PathComes known (λ (file : List ℕ) (from to : ℕ) (s t : S). FilePartsCome known file from to)
      (λ (chain : List ℕ) (from to : ℕ) (s t : S). ChainPartsCome known chain from to) path old new before after answer
  path-come come =
      path-less FileComes (λ (file : List ℕ) (from to : ℕ) (s t : S). FilePartsCome known file from to) ChainComes
      (λ (chain : List ℕ) (from to : ℕ) (s t : S). ChainPartsCome known chain from to)
      (λ file from to s t found of. of.0) (λ chain from to s t found of. of.0) path old new before after answer known come

  -- how they were read
  pub info-read : InfoComes FileComes ChainComes path old new before after answer
      → IfPartsOpened (InfoPartsWereRead gives gives_part path) answer
  info-read (inl come) =
      ok-some (parts_answer answer) (FilePartsWereRead gives_part (info_file path)) (InfoPartsWereRead gives gives_part path)
      (λ parts were. inl were) come.1.1
  info-read (inr (inl come)) =
      ok-some (parts_answer answer) (ChainPartsWereRead gives gives_part (info_chain path))
      (InfoPartsWereRead gives gives_part path) (λ parts were. inr were) come.chain.1
  info-read (inr (inr come)) =
      subst (λ (a : answered). IfPartsOpened (InfoPartsWereRead gives gives_part path) a) (sym come.0) tt

  standing-read : (standing : Standing) → StandingComes standing FileComes ChainComes path old new before after answer
      → IfPartsOpened (PathPartsWereRead gives gives_part path) answer
  standing-read File come =
      ok-some (parts_answer answer) (FilePartsWereRead gives_part path) (PathPartsWereRead gives gives_part path)
      (λ parts were. inl were) come.1
  standing-read ChainDir come =
      ok-some (parts_answer answer) (ChainPartsWereRead gives gives_part path) (PathPartsWereRead gives gives_part path)
      (λ parts were. inr (inl were)) come.1
  standing-read InfoDir come =
      ok-some (parts_answer answer) (InfoPartsWereRead gives gives_part path) (PathPartsWereRead gives gives_part path)
      (λ parts were. inr (inr were)) (info-read come)
  standing-read Nothing come =
      subst (λ (a : answered). IfPartsOpened (PathPartsWereRead gives gives_part path) a) (sym come.0) tt

  pub path-read : PathComes known FileComes ChainComes path old new before after answer
      → IfPartsOpened (PathPartsWereRead gives gives_part path) answer
  path-read (inl come) = standing-read come.0 come.2
  path-read (inr come) =
      subst (λ (a : answered). IfPartsOpened (PathPartsWereRead gives gives_part path) a) (sym come.0) tt
