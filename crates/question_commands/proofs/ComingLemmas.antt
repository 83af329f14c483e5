-- What comes of a path, from what comes of the files and the chain folders there that an opener tries.
use Rattle.std.proofs.Common.{ℕ, List, Option, Result, inl, inr}
use Rattle.graph_folder.specs.Tree.{Tree}
use Rattle.graph_layer.specs.declared.opening.error.OpenError.{OpenError}
use Rattle.gix_commitgraph.specs.ByStanding.{InfoComes, PathComes, StandingComes}
use Rattle.gix_commitgraph.specs.Paths.{info_chain, info_file}
use Rattle.gix_commitgraph.specs.declared.opening.Standing.{Standing}
use Rattle.gix_commitgraph.specs.declared.opening.Standing.TheVariants.{File, ChainDir, InfoDir, Nothing}

module _ {S A : Type 0} (OfFile OfChain ToFile ToChain : List ℕ → ℕ → ℕ → S → S → Result A OpenError → Type 0) (path : List ℕ)
    (file : (from to : ℕ) (s t : S) (answer : Result A OpenError) → OfFile path from to s t answer
    → ToFile path from to s t answer)
    (chain : (from to : ℕ) (s t : S) (answer : Result A OpenError) → OfChain path from to s t answer
    → ToChain path from to s t answer)
    (file_in : (from to : ℕ) (s t : S) (answer : Result A OpenError) → OfFile (info_file path) from to s t answer
    → ToFile (info_file path) from to s t answer)
    (chain_in : (from to : ℕ) (s t : S) (answer : Result A OpenError) → OfChain (info_chain path) from to s t answer
    → ToChain (info_chain path) from to s t answer)
    (known : Option Tree) (old new : ℕ) (before after : S) (answer : Result A OpenError) where
  info_comes_as : InfoComes OfFile OfChain path old new before after answer
      → InfoComes ToFile ToChain path old new before after answer
  info_comes_as (inl of) = inl (of.0, file_in old new before after answer of.1)
  info_comes_as (inr (inl of)) =
      inr (inl (record {
        refusal = of.refusal;
        failures = of.failures;
        between = of.between;
        file = file_in old of.failures before of.between of.refusal of.file;
        refused = of.refused;
        chain = chain_in of.failures new of.between after answer of.chain;
      }))
  info_comes_as (inr (inr of)) = inr (inr of)

  standing_comes_as : (standing : Standing) → StandingComes standing OfFile OfChain path old new before after answer
      → StandingComes standing ToFile ToChain path old new before after answer
  standing_comes_as File of = file old new before after answer of
  standing_comes_as ChainDir of = chain old new before after answer of
  standing_comes_as InfoDir of = info_comes_as of
  standing_comes_as Nothing of = of

  pub path_comes_as : PathComes known OfFile OfChain path old new before after answer
      → PathComes known ToFile ToChain path old new before after answer
  path_comes_as (inl of) = inl (of.0, of.1, standing_comes_as of.0 of.2)
  path_comes_as (inr of) = inr of
