-- what is opened by parts, as what stands at a path
use Rattle.std.proofs.Common.{◌≡◌, ℕ, List, [], ◌∷◌, Option, None, Result, Ok, Err, true, false, sym, ap, subst, ◌∙◌, inl, inr}
use Rattle.std.specs.Option.{ForSome, ok_or}
use Rattle.std.specs.Result.{result_or}
use Rattle.graph_folder.specs.Failures.{failures_after}
use Rattle.graph_folder.specs.Tree.{Tree, file_at}
use Rattle.graph_folder.specs.declared.folder.ReadError.{ReadError}
use Rattle.graph_format.specs.Layer.{Layer}
use Rattle.graph_layer.specs.LayerOpening.{layer_of_bytes}
use Rattle.graph_layer.specs.OpenAnswer.{and_then, is_settled}
use Rattle.graph_layer.specs.declared.opening.error.OpenError.{OpenError}
use Rattle.graph_layer.specs.declared.opening.error.OpenError.TheVariants.{NothingFound, NotOpened, Device, ChainNotText}
use Rattle.graph_layer.specs.declared.opening.error.OpenError.TheVariants.{Layer as layer_error, Graph as graph_error}
use Rattle.graph_layer.specs.declared.opening.error.OpenError.TheVariants.{OutOfMemory}
use Rattle.gix_commitgraph.specs.ByStanding.{InfoComes, PathComes, StandingComes}
use Rattle.gix_commitgraph.specs.OpenAlways.{IsFromChain, IsFromFile, IsFromInfo, IsFromPath}
use Rattle.gix_commitgraph.specs.Opening.{chain_opened, file_opened, graph_of_layers, info_opened, standing_at}
use Rattle.gix_commitgraph.specs.Paths.{info_chain, info_file}
use Rattle.gix_commitgraph.specs.declared.opening.Standing.{Standing}
use Rattle.gix_commitgraph.specs.declared.opening.Standing.TheVariants.{File, ChainDir, InfoDir, Nothing}
use Rattle.graph_parts.specs.PathOpening.{ChainPartsCome, FilePartsCome, PartsCome, opened_as, opened_at, parts_answer}
use Rattle.graph_parts.proofs.ZipLemmas.{ok-some}
use Rattle.graph_parts.specs.Shown.{ArePartsOf}
use Rattle.graph_parts.specs.declared.parts.GraphParts.{GraphParts}

-- what another opener opens too
module _ (known : Option Tree) (opened more : Tree → Result (List Layer) OpenError) (IsFrom IsMore : List Layer → Type 0)
    (opens : (layers : List Layer) → ForSome known (λ (tree : Tree). opened tree ≡ Ok layers → more tree ≡ Ok layers))
    (from : (layers : List Layer) → IsFrom layers → IsMore layers) where
  pub parts-more : (parts : GraphParts) → ArePartsOf known opened IsFrom parts → ArePartsOf known more IsMore parts
  parts-more parts of = record {
    right = of.right;
    some = of.some;
    each = λ layers shows.
        let at = of.each layers shows in
        record {
          opens = λ tree is. opens layers tree is (at.opens tree is);
          graph = at.graph;
          from = from layers at.from;
        };
  }

module _ (known : Option Tree) (path : List ℕ) where
  -- the file of an info folder
  pub info-of_file : (parts : GraphParts)
      → ArePartsOf known (λ (tree : Tree). file_opened tree (info_file path)) (IsFromFile (info_file path)) parts
      → ArePartsOf known (λ (tree : Tree). info_opened tree path) (IsFromInfo path) parts
  info-of_file =
      parts-more known (λ (tree : Tree). file_opened tree (info_file path)) (λ (tree : Tree). info_opened tree path)
      (IsFromFile (info_file path)) (IsFromInfo path)
      (λ layers tree is opens.
      ap (λ (r : Result (List Layer) OpenError). result_or r (chain_opened tree (info_chain path))) opens)
      (λ layers from. inl from)

  -- its chain, where it has no file
  pub info-of_chain : ForSome known (λ (tree : Tree). file_at tree (info_file path) ≡ None) → (parts : GraphParts)
      → ArePartsOf known (λ (tree : Tree). chain_opened tree (info_chain path)) (IsFromChain (info_chain path)) parts
      → ArePartsOf known (λ (tree : Tree). info_opened tree path) (IsFromInfo path) parts
  info-of_chain none =
      parts-more known (λ (tree : Tree). chain_opened tree (info_chain path)) (λ (tree : Tree). info_opened tree path)
      (IsFromChain (info_chain path)) (IsFromInfo path)
      (λ layers tree is opens.
      ap
      (λ (o : Option (List ℕ)).
      result_or
      (and_then (and_then (ok_or o NotOpened) (λ bytes. layer_of_bytes 0 bytes (info_file path)))
      (λ (layer : Layer). graph_of_layers (layer ∷ [])))
      (chain_opened tree (info_chain path)))
      (none tree is)
      ∙ opens)
      (λ layers from. inr from)

  -- what stands at the path
  pub path-as : (standing : Standing) (IsFrom : List Layer → Type 0)
      → ForSome known (λ (tree : Tree). standing ≡ standing_at tree path)
      → ((layers : List Layer) → IsFrom layers → IsFromPath path layers)
      → (parts : GraphParts) → ArePartsOf known (λ (tree : Tree). opened_as standing tree path) IsFrom parts
      → ArePartsOf known (λ (tree : Tree). opened_at tree path) (IsFromPath path) parts
  path-as standing IsFrom stands from parts of =
      parts-more known (λ (tree : Tree). opened_as standing tree path) (λ (tree : Tree). opened_at tree path) IsFrom
      (IsFromPath path)
      (λ layers tree is opens.
      ap (λ (s : Standing). opened_as s tree path) (sym (stands tree is)) ∙ opens)
      from parts of

-- an answer of the opener by parts
abbrev answered : Type 0
answered = Result (Result (Option GraphParts) ReadError) OpenError

module _ {S : Type 0} (known : Option Tree) (path : List ℕ) (old new : ℕ) (before after : S) where
  -- what comes of a file of an info folder is what comes of the folder, where it settles it
  info-of-file : (answer : answered) → is_settled answer ≡ true → FilePartsCome known (info_file path) old new answer
      → PartsCome known (λ (tree : Tree). info_opened tree path) (IsFromInfo path) old new (parts_answer answer)
  info-of-file (Ok found) settled come = (
    ok-some found (ArePartsOf known (λ (tree : Tree). file_opened tree (info_file path)) (IsFromFile (info_file path)))
        (ArePartsOf known (λ (tree : Tree). info_opened tree path) (IsFromInfo path)) (info-of_file known path) come.0,
    come.1,
  )
  info-of-file (Err NotOpened) settled come = cc
  info-of-file (Err NothingFound) settled come = absurd come
  info-of-file (Err Device) settled come = absurd come
  info-of-file (Err (ChainNotText line)) settled come = absurd come
  info-of-file (Err (layer_error i error)) settled come = absurd come
  info-of-file (Err (graph_error error)) settled come = absurd come
  info-of-file (Err OutOfMemory) settled come = absurd come

  -- where there is no file, what comes of the chain is
  info-with-none : (mid : ℕ) → ForSome known (λ (tree : Tree). file_at tree (info_file path) ≡ None) → mid ≡ old
      → (answer : answered) → ChainPartsCome known (info_chain path) mid new answer
      → PartsCome known (λ (tree : Tree). info_opened tree path) (IsFromInfo path) old new (parts_answer answer)
  info-with-none mid none same (Ok found) come = (
    ok-some found (ArePartsOf known (λ (tree : Tree). chain_opened tree (info_chain path)) (IsFromChain (info_chain path)))
        (ArePartsOf known (λ (tree : Tree). info_opened tree path) (IsFromInfo path)) (info-of_chain known path none) come.0,
    come.1 ∙ ap (failures_after found) same,
  )
  info-with-none mid none same (Err error) come = absurd come

  info-after-file : (mid : ℕ) (refusal : answered) → is_settled refusal ≡ false
      → FilePartsCome known (info_file path) old mid refusal
      → (answer : answered) → ChainPartsCome known (info_chain path) mid new answer
      → PartsCome known (λ (tree : Tree). info_opened tree path) (IsFromInfo path) old new (parts_answer answer)
  info-after-file mid (Ok found) refused file answer come = cc
  info-after-file mid (Err NotOpened) refused file answer come = info-with-none mid file.0 file.1 answer come
  info-after-file mid (Err NothingFound) refused file answer come = absurd file
  info-after-file mid (Err Device) refused file answer come = absurd file
  info-after-file mid (Err (ChainNotText line)) refused file answer come = absurd file
  info-after-file mid (Err (layer_error i error)) refused file answer come = absurd file
  info-after-file mid (Err (graph_error error)) refused file answer come = absurd file
  info-after-file mid (Err OutOfMemory) refused file answer come = absurd file

  -- what comes of an info folder
  pub info-parts : (answer : answered)
      → InfoComes (λ (file : List ℕ) (from to : ℕ) (s t : S). FilePartsCome known file from to)
      (λ (chain : List ℕ) (from to : ℕ) (s t : S). ChainPartsCome known chain from to) path old new before after answer
      → PartsCome known (λ (tree : Tree). info_opened tree path) (IsFromInfo path) old new (parts_answer answer)
  info-parts answer (inl come) = info-of-file answer come.0 come.1
  info-parts answer (inr (inl come)) = info-after-file come.failures come.refusal come.refused come.file answer come.chain
  info-parts answer (inr (inr come)) =
      subst
      (λ (a : answered). PartsCome known (λ (tree : Tree). info_opened tree path) (IsFromInfo path) old new (parts_answer a))
      (sym come.0) (tt, come.1)

  as-path : (standing : Standing) → ForSome known (λ (tree : Tree). standing ≡ standing_at tree path)
      → (IsFrom : List Layer → Type 0) → ((layers : List Layer) → IsFrom layers → IsFromPath path layers)
      → (found : Result (Option GraphParts) ReadError)
      → PartsCome known (λ (tree : Tree). opened_as standing tree path) IsFrom old new found
      → PartsCome known (λ (tree : Tree). opened_at tree path) (IsFromPath path) old new found
  as-path standing stands IsFrom from found come = (
    ok-some found (ArePartsOf known (λ (tree : Tree). opened_as standing tree path) IsFrom)
        (ArePartsOf known (λ (tree : Tree). opened_at tree path) (IsFromPath path))
        (path-as known path standing IsFrom stands from) come.0,
    come.1,
  )

  path-of-file : ForSome known (λ (tree : Tree). File ≡ standing_at tree path) → (answer : answered)
      → FilePartsCome known path old new answer
      → PartsCome known (λ (tree : Tree). opened_at tree path) (IsFromPath path) old new (parts_answer answer)
  path-of-file stands (Ok found) come = as-path File stands (IsFromFile path) (λ layers from. inl from) found come
  path-of-file stands (Err NotOpened) come = (tt, come.1)
  path-of-file stands (Err NothingFound) come = absurd come
  path-of-file stands (Err Device) come = absurd come
  path-of-file stands (Err (ChainNotText line)) come = absurd come
  path-of-file stands (Err (layer_error i error)) come = absurd come
  path-of-file stands (Err (graph_error error)) come = absurd come
  path-of-file stands (Err OutOfMemory) come = absurd come

  path-of-chain : ForSome known (λ (tree : Tree). ChainDir ≡ standing_at tree path) → (answer : answered)
      → ChainPartsCome known path old new answer
      → PartsCome known (λ (tree : Tree). opened_at tree path) (IsFromPath path) old new (parts_answer answer)
  path-of-chain stands (Ok found) come = as-path ChainDir stands (IsFromChain path) (λ layers from. inr (inl from)) found come
  path-of-chain stands (Err error) come = absurd come

  path-standing : (standing : Standing) → ForSome known (λ (tree : Tree). standing ≡ standing_at tree path)
      → (answer : answered)
      → StandingComes standing (λ (file : List ℕ) (from to : ℕ) (s t : S). FilePartsCome known file from to)
      (λ (chain : List ℕ) (from to : ℕ) (s t : S). ChainPartsCome known chain from to) path old new before after answer
      → PartsCome known (λ (tree : Tree). opened_at tree path) (IsFromPath path) old new (parts_answer answer)
  path-standing File stands answer come = path-of-file stands answer come
  path-standing ChainDir stands answer come = path-of-chain stands answer come
  path-standing InfoDir stands answer come =
      as-path InfoDir stands (IsFromInfo path) (λ layers from. inr (inr from)) (parts_answer answer) (info-parts answer come)
  path-standing Nothing stands answer come =
      subst
      (λ (a : answered). PartsCome known (λ (tree : Tree). opened_at tree path) (IsFromPath path) old new (parts_answer a))
      (sym come.0) (tt, come.1)

  -- what comes of a path
  pub path-parts : (answer : answered)
      → PathComes known (λ (file : List ℕ) (from to : ℕ) (s t : S). FilePartsCome known file from to)
      (λ (chain : List ℕ) (from to : ℕ) (s t : S). ChainPartsCome known chain from to) path old new before after answer
      → PartsCome known (λ (tree : Tree). opened_at tree path) (IsFromPath path) old new (parts_answer answer)
  path-parts answer (inl come) = path-standing come.0 come.1 answer come.2
  path-parts answer (inr come) =
      subst
      (λ (a : answered). PartsCome known (λ (tree : Tree). opened_at tree path) (IsFromPath path) old new (parts_answer a))
      (sym come.0) (tt, come.1)
