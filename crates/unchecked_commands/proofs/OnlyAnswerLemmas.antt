-- the only answer of an opener
use Rattle.std.proofs.Common.{◌≡◌, ℕ, List, Option, Some, None, Result, Ok, Err, refl, sym, subst, arith}
use Rattle.std.specs.Prelude.{IsOkAnd}
use Rattle.std.specs.Option.{ForSome}
use Rattle.graph_folder.specs.Tree.{Tree}
use Rattle.graph_format.specs.Layer.{Layer}
use Rattle.graph_layer.specs.OpenAnswer.{IsAsExpected}
use Rattle.graph_layer.specs.declared.opening.error.OpenError.{OpenError}
use Rattle.graph_layer.specs.declared.opening.error.OpenError.TheVariants.{NothingFound, NotOpened, Device, ChainNotText}
use Rattle.graph_layer.specs.declared.opening.error.OpenError.TheVariants.{OutOfMemory, Layer as layer_error}
use Rattle.graph_layer.specs.declared.opening.error.OpenError.TheVariants.{Graph as graph_error}
use Rattle.gix_commitgraph.specs.Opening.{NothingOpens, Opens, StandingOpens, standing_at}
use Rattle.gix_commitgraph.specs.declared.opening.Standing.{Standing}
use Rattle.gix_commitgraph.specs.declared.opening.Standing.TheVariants.{File, ChainDir, InfoDir, Nothing}
use Rattle.graph_parts.specs.PathOpening.{opened_as, opened_at}
use Rattle.graph_commands.specs.OpenerAnswer.{MayOpen}
use Rattle.graph_unchecked.specs.Unchecked.{IsAnswerAt}
use Rattle.unchecked_commands.specs.OnlyAnswer.{IsOnlyAnswer}

abbrev answered : List Layer → Result (List Layer) OpenError
answered layers = Ok layers

abbrev refused : OpenError → Result (List Layer) OpenError
refused error = Err error

-- where nothing is known of a folder, more than one refusal may be answered
none_only : (path : List ℕ) (opened : Result (List Layer) OpenError) → IsOnlyAnswer (MayOpen None path) opened → ⊥
none_only path opened only =
    let one : refused NotOpened ≡ opened =
    only (Err NotOpened) (
      λ tree is. let clash : None ≡ Some tree = is in cc,
      tt,
      λ is small. let clash : refused NotOpened ≡ refused Device = is in cc,
    ) in
    let other : refused NothingFound ≡ opened =
    only (Err NothingFound) (
      λ tree is. let clash : None ≡ Some tree = is in cc,
      tt,
      λ is small. let clash : refused NothingFound ≡ refused Device = is in cc,
    ) in
    cc (one, other)

-- what was opened in a known tree may be opened, where no read failed
standing-opens : (standing : Standing) (tree : Tree) (path : List ℕ) (layers : List Layer)
    → opened_as standing tree path ≡ Ok layers → StandingOpens standing tree path 0 0 (Ok layers)
standing-opens File tree path layers opens = (sym opens, refl)
standing-opens ChainDir tree path layers opens = (sym opens, refl)
standing-opens InfoDir tree path layers opens = (λ met. sym opens, λ rose. absurd (omega (arith, rose)))
standing-opens Nothing tree path layers opens = cc

-- What is so of the graph at a path is so of the opener's only answer, which is that graph.
pub so_of_only : {A : Type 0} (known : Option Tree) (path : List ℕ) (IsSo : List Layer → A → Type 0) (answer : A)
    (Tells : List Layer → Type 0) → ((layers : List Layer) → IsSo layers answer → Tells layers)
    → ForSome known (λ tree. IsAnswerAt tree path IsSo answer) → (opened : Result (List Layer) OpenError)
    → IsOnlyAnswer (MayOpen known path) opened → IsOkAnd opened Tells
so_of_only None path IsSo answer Tells tells so opened only = absurd (none_only path opened only)
so_of_only (Some tree) path IsSo answer Tells tells so opened only =
    let at = so tree refl in
    let opens = standing-opens (standing_at tree path) tree path at.layers at.opens in
    let is : answered at.layers ≡ opened = only (Ok at.layers) (
      λ other same.
          let one_tree : tree ≡ other = cc in subst (λ (t : Tree). Opens t path 0 0 (Ok at.layers)) one_tree opens,
      at.graph,
      λ failed small. let clash : answered at.layers ≡ refused Device = failed in cc,
    ) in
    subst (λ (r : Result (List Layer) OpenError). IsOkAnd r Tells) is (tells at.layers at.so)

-- what an opener answers in a known tree is what stands there
nothing-expected : (answer : Result (List Layer) OpenError) → NothingOpens 0 0 answer
    → IsAsExpected answer (refused NothingFound)
nothing-expected (Ok layers) opens = absurd opens
nothing-expected (Err NothingFound) opens = refl
nothing-expected (Err NotOpened) opens = absurd opens
nothing-expected (Err Device) opens = absurd opens
nothing-expected (Err (ChainNotText line)) opens = absurd opens
nothing-expected (Err (layer_error i error)) opens = absurd opens
nothing-expected (Err (graph_error error)) opens = absurd opens
nothing-expected (Err OutOfMemory) opens = tt

standing-expected : (standing : Standing) (tree : Tree) (path : List ℕ) (answer : Result (List Layer) OpenError)
    → StandingOpens standing tree path 0 0 answer → IsAsExpected answer (opened_as standing tree path)
standing-expected File tree path answer opens = opens.0
standing-expected ChainDir tree path answer opens = opens.0
standing-expected InfoDir tree path answer opens = opens.0 (omega arith, omega arith)
standing-expected Nothing tree path answer opens = nothing-expected answer opens

pub known_only : (tree : Tree) (path : List ℕ) → IsOnlyAnswer (MayOpen (Some tree) path) (opened_at tree path)
known_only tree path = λ answer may. standing-expected (standing_at tree path) tree path answer (may.0 tree refl)
