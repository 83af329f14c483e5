-- The file of an info folder, and else its chain.
use Rattle.std.proofs.Common.{◌≡◌, ℕ, ◌<◌, ◌≤◌, ◌-◌, ◌^◌, true, false, List, Ok, Err, Result, ap, ◌∙◌, subst, arith}
use Rattle.std.specs.Result.{result_or}
use Rattle.graph_folder.specs.Failures.{one_more}
use Rattle.graph_folder.specs.Tree.{Tree}
use Rattle.graph_layer.specs.OpenAnswer.{IsAsExpected, is_settled, failures_after_opening}
use Rattle.graph_format.specs.Layer.{Layer}
use Rattle.gix_commitgraph.specs.Opening.{file_opened, chain_opened, InfoOpens}
use Rattle.gix_commitgraph.specs.Paths.{info_chain, info_file}
use Rattle.graph_layer.specs.declared.opening.error.OpenError.{OpenError}
use Rattle.graph_layer.specs.declared.opening.error.OpenError.TheVariants.{NothingFound, NotOpened, Device, ChainNotText}
use Rattle.graph_layer.specs.declared.opening.error.OpenError.TheVariants.{Layer as layer_error, Graph as graph_error}
use Rattle.graph_layer.specs.declared.opening.error.OpenError.TheVariants.{OutOfMemory}

abbrev or_chain : Tree → List ℕ → Result (List Layer) OpenError → Result (List Layer) OpenError
or_chain tree folder first = result_or first (chain_opened tree (info_chain folder))

-- a count does not fall
pub failures_after_opening-le : (answer : Result (List Layer) OpenError) (count : ℕ) → count < 2 ^ 64
    → count ≤ failures_after_opening answer count
failures_after_opening-le (Ok graph) count h = omega arith
failures_after_opening-le (Err NothingFound) count h = omega arith
failures_after_opening-le (Err NotOpened) count h = omega arith
failures_after_opening-le (Err Device) count h = omega arith
failures_after_opening-le (Err (ChainNotText line)) count h = omega arith
failures_after_opening-le (Err (layer_error i error)) count h = omega arith
failures_after_opening-le (Err (graph_error error)) count h = omega arith
failures_after_opening-le (Err OutOfMemory) count h = omega arith

-- the file decides
pub info_opens-file : (tree : Tree) (folder : List ℕ) (old new : ℕ) (first : Result (List Layer) OpenError)
    → is_settled first ≡ true → IsAsExpected first (file_opened tree (info_file folder)) → new ≡ failures_after_opening first old
    → InfoOpens tree folder old new first
info_opens-file tree folder old new (Ok graph) settled was same = (
  λ _. ap (or_chain tree folder) was,
  λ rose.
      absurd (omega arith),
)
info_opens-file tree folder old new (Err OutOfMemory) settled was same = (λ _. tt, λ _. tt)
info_opens-file tree folder old new (Err NothingFound) settled was same = cc
info_opens-file tree folder old new (Err NotOpened) settled was same = cc
info_opens-file tree folder old new (Err Device) settled was same = cc
info_opens-file tree folder old new (Err (ChainNotText line)) settled was same = cc
info_opens-file tree folder old new (Err (layer_error i error)) settled was same = cc
info_opens-file tree folder old new (Err (graph_error error)) settled was same = cc

module _ (tree : Tree) (folder : List ℕ) (answer : Result (List Layer) OpenError)
    (second : IsAsExpected answer (chain_opened tree (info_chain folder))) where
  -- a refused file leaves the chain
  after_refusal : (old new : ℕ) (e : OpenError) → Err e ≡ file_opened tree (info_file folder)
      → InfoOpens tree folder old new answer
  after_refusal old new e was = (λ _. subst (λ first. IsAsExpected answer (or_chain tree folder first)) was second, λ _. second)

  -- a failed device leaves the chain too, and the count has risen
  after_failure : (old new : ℕ) → new ≡ failures_after_opening answer (one_more old) → InfoOpens tree folder old new answer
  after_failure old new is = (
    λ met.
        let small : old < 2 ^ 64 - 1 = met.0 in let kept = failures_after_opening-le answer (one_more old) (omega arith) in
        absurd (omega (arith, kept, is, met.1)),
    λ _. second,
  )

  -- the chain decides
  pub info_opens-chain : (old mid new : ℕ) (first : Result (List Layer) OpenError)
      → is_settled first ≡ false → IsAsExpected first (file_opened tree (info_file folder))
      → mid ≡ failures_after_opening first old
      → new ≡ failures_after_opening answer mid → InfoOpens tree folder old new answer
  info_opens-chain old mid new (Ok graph) settled was counted is = cc
  info_opens-chain old mid new (Err OutOfMemory) settled was counted is = cc
  info_opens-chain old mid new (Err NothingFound) settled was counted is = after_refusal old new _ was
  info_opens-chain old mid new (Err NotOpened) settled was counted is = after_refusal old new _ was
  info_opens-chain old mid new (Err Device) settled was counted is =
      after_failure old new (is ∙ ap (failures_after_opening answer) counted)
  info_opens-chain old mid new (Err (ChainNotText line)) settled was counted is = after_refusal old new _ was
  info_opens-chain old mid new (Err (layer_error i error)) settled was counted is = after_refusal old new _ was
  info_opens-chain old mid new (Err (graph_error error)) settled was counted is = after_refusal old new _ was
