-- What comes of a path by an opener, where the opener of whole graphs may open the same.
use Rattle.std.proofs.Common.{◌≡◌, ℕ, List, Option, Result, Ok, Err, Bool, true, false, refl, subst, sym, ◌∙◌}
use Rattle.std.proofs.Common.{arith, inl, inr}
use Rattle.std.specs.Option.{ForSome}
use Rattle.graph_folder.specs.Tree.{Tree}
use Rattle.graph_format.specs.Layer.{Layer}
use Rattle.graph_layer.specs.OpenAnswer.{is_settled}
use Rattle.graph_layer.specs.declared.opening.error.OpenError.{OpenError}
use Rattle.graph_layer.specs.declared.opening.error.OpenError.TheVariants.{NothingFound, NotOpened, Device, ChainNotText}
use Rattle.graph_layer.specs.declared.opening.error.OpenError.TheVariants.{Layer as layer_error, Graph as graph_error}
use Rattle.graph_layer.specs.declared.opening.error.OpenError.TheVariants.{OutOfMemory}
use Rattle.gix_commitgraph.specs.ByStanding.{InfoComes, PathComes, StandingComes}
use Rattle.gix_commitgraph.specs.Opening.{InfoOpens, StandingOpens, chain_opened, file_opened, standing_at}
use Rattle.gix_commitgraph.specs.Paths.{info_chain, info_file}
use Rattle.gix_commitgraph.specs.declared.opening.Standing.{Standing}
use Rattle.gix_commitgraph.specs.declared.opening.Standing.TheVariants.{File, ChainDir, InfoDir, Nothing}
use Rattle.gix_commitgraph.proofs.opening.InfoOpeningLemmas.{failures_after_opening-le, info_opens-chain, info_opens-file}
use Rattle.gix_commitgraph.proofs.opening.WholeOpeningLemmas.{device-counted}
use Rattle.graph_commands.specs.OpenerAnswer.{MayOpen, MayOpenBy, OpensStopping}

abbrev refused : OpenError → Result (List Layer) OpenError
refused error = Err error

module _ (known : Option Tree) (path : List ℕ) (old new : ℕ) where
  -- a file
  pub opens-file : (answer : Result (List Layer) OpenError)
      → ForSome known (λ (tree : Tree). File ≡ standing_at tree path)
      → OpensStopping known (λ (tree : Tree). file_opened tree path) old new answer → MayOpen known path old new answer
  opens-file answer stands of = (
    λ tree is. subst (λ (s : Standing). StandingOpens s tree path old new answer) (stands tree is) (of.0.0 tree is, of.1),
    of.0.1,
    device-counted answer old old new (λ small. omega arith) of.1,
  )

  -- a chain folder
  pub opens-chain : (answer : Result (List Layer) OpenError)
      → ForSome known (λ (tree : Tree). ChainDir ≡ standing_at tree path)
      → OpensStopping known (λ (tree : Tree). chain_opened tree path) old new answer → MayOpen known path old new answer
  opens-chain answer stands of = (
    λ tree is. subst (λ (s : Standing). StandingOpens s tree path old new answer) (stands tree is) (of.0.0 tree is, of.1),
    of.0.1,
    device-counted answer old old new (λ small. omega arith) of.1,
  )

  opens-info : (answer : Result (List Layer) OpenError) → ForSome known (λ (tree : Tree). InfoDir ≡ standing_at tree path)
      → MayOpenBy known (λ (tree : Tree). InfoOpens tree path old new) old new answer → MayOpen known path old new answer
  opens-info answer stands of = (
    λ tree is. subst (λ (s : Standing). StandingOpens s tree path old new answer) (stands tree is) (of.0 tree is),
    of.1,
    of.2,
  )

  -- the file of an info folder
  pub opens-info_file : (answer : Result (List Layer) OpenError)
      → ForSome known (λ (tree : Tree). InfoDir ≡ standing_at tree path) → is_settled answer ≡ true
      → OpensStopping known (λ (tree : Tree). file_opened tree (info_file path)) old new answer
      → MayOpen known path old new answer
  opens-info_file answer stands settled of =
      opens-info answer stands (
        λ tree is. info_opens-file tree path old new answer settled (of.0.0 tree is) of.1,
        of.0.1,
        device-counted answer old old new (λ small. omega arith) of.1,
      )

  -- and its chain folder, where the file is refused
  pub opens-info_chain : (mid : ℕ) (first answer : Result (List Layer) OpenError)
      → ForSome known (λ (tree : Tree). InfoDir ≡ standing_at tree path) → is_settled first ≡ false
      → OpensStopping known (λ (tree : Tree). file_opened tree (info_file path)) old mid first
      → OpensStopping known (λ (tree : Tree). chain_opened tree (info_chain path)) mid new answer
      → MayOpen known path old new answer
  opens-info_chain mid first answer stands settled tried of =
      opens-info answer stands (
        λ tree is.
            info_opens-chain tree path answer (of.0.0 tree is) old mid new first settled (tried.0.0 tree is) tried.1 of.1,
        of.0.1,
        device-counted answer old mid new
            (λ small. omega (arith, failures_after_opening-le first old (omega arith), tried.1)) of.1,
      )

  -- nothing
  pub opens-nothing : ForSome known (λ (tree : Tree). Nothing ≡ standing_at tree path) → new ≡ old
      → MayOpen known path old new (refused NothingFound)
  opens-nothing stands same = (
    λ tree is. subst (λ (s : Standing). StandingOpens s tree path old new (refused NothingFound)) (stands tree is) same,
    tt,
    λ clash small. let none : refused NothingFound ≡ refused Device = clash in cc,
  )

  no_memory : (standing : Standing) (tree : Tree) → new ≡ old
      → StandingOpens standing tree path old new (refused OutOfMemory)
  no_memory File tree same = (tt, same)
  no_memory ChainDir tree same = (tt, same)
  no_memory InfoDir tree same = (λ met. tt, λ met. tt)
  no_memory Nothing tree same = same

  -- without memory
  pub opens-no_memory : new ≡ old → MayOpen known path old new (refused OutOfMemory)
  opens-no_memory same = (
    λ tree is. no_memory (standing_at tree path) tree same,
    tt,
    λ clash small. let none : refused OutOfMemory ≡ refused Device = clash in cc,
  )

-- an error settles as much for one opener as for another
settled-as : (A : Type 0) (b : Bool) (e : OpenError) → is_settled {A = A} (Err e) ≡ b → is_settled (refused e) ≡ b
settled-as A b NothingFound is = is
settled-as A b NotOpened is = is
settled-as A b Device is = is
settled-as A b (ChainNotText line) is = is
settled-as A b (layer_error i error) is = is
settled-as A b (graph_error error) is = is
settled-as A b OutOfMemory is = is

pub settled-alike : (A : Type 0) (e : OpenError) → is_settled (refused e) ≡ is_settled {A = A} (Err e)
settled-alike A NothingFound = refl
settled-alike A NotOpened = refl
settled-alike A Device = refl
settled-alike A (ChainNotText line) = refl
settled-alike A (layer_error i error) = refl
settled-alike A (graph_error error) = refl
settled-alike A OutOfMemory = refl

-- What comes of a path comes by a graph that may be opened there, where what comes of a file and of a chain folder comes by one
-- that is opened so.
module _ {S A : Type 0} (Comes : (Result (List Layer) OpenError → Type 0) → S → S → Result A OpenError → Type 0)
    (widen : (P Q : Result (List Layer) OpenError → Type 0) (s t : S) (answer : Result A OpenError)
    → ((given : Result (List Layer) OpenError) → is_settled given ≡ is_settled answer → P given → Q given)
    → Comes P s t answer → Comes Q s t answer)
    (error : (P : Result (List Layer) OpenError → Type 0) (s t : S) (e : OpenError) → Comes P s t (Err e) → P (Err e))
    (first : (P : Result (List Layer) OpenError → Type 0) (s : S) (e : OpenError) → P (Err e) → Comes P s s (Err e))
    (next : (P Q : Result (List Layer) OpenError → Type 0) (s t u : S) (e : OpenError) (answer : Result A OpenError)
    → Comes P s t (Err e) → Comes Q t u answer → Comes Q s u answer)
    (known : Option Tree) (path : List ℕ) (old new : ℕ) (before after : S) (answer : Result A OpenError) where
  abbrev of_file : List ℕ → ℕ → ℕ → S → S → Result A OpenError → Type 0
  of_file file from to s t given = Comes (OpensStopping known (λ (tree : Tree). file_opened tree file) from to) s t given

  abbrev of_chain : List ℕ → ℕ → ℕ → S → S → Result A OpenError → Type 0
  of_chain chain from to s t given = Comes (OpensStopping known (λ (tree : Tree). chain_opened tree chain) from to) s t given

  comes-first : (e : OpenError) → MayOpen known path old new (Err e) → (answer ≡ Err e) × (new ≡ old) × (after ≡ before)
      → Comes (MayOpen known path old new) before after answer
  comes-first e may of =
      subst (λ (a : Result A OpenError). Comes (MayOpen known path old new) before after a) (sym of.0)
      (subst (λ (s : S). Comes (MayOpen known path old new) before s (Err e)) (sym of.2)
      (first (MayOpen known path old new) before e may))

  comes-chain : ForSome known (λ (tree : Tree). InfoDir ≡ standing_at tree path) → (mid : ℕ) (between : S)
      (refusal : Result A OpenError) → of_file (info_file path) old mid before between refusal → is_settled refusal ≡ false
      → of_chain (info_chain path) mid new between after answer → Comes (MayOpen known path old new) before after answer
  comes-chain stands mid between (Ok x) file settled chain = cc
  comes-chain stands mid between (Err e) file settled chain =
      let stops : Result (List Layer) OpenError → Type 0 =
      OpensStopping known (λ (tree : Tree). file_opened tree (info_file path)) old mid in
      let tried = error stops before between e file in
      next stops (MayOpen known path old new) before between after e answer file
      (widen (OpensStopping known (λ (tree : Tree). chain_opened tree (info_chain path)) mid new) (MayOpen known path old new)
      between after answer
      (λ given same opens.
      opens-info_chain known path old new mid (refused e) given stands (settled-as A false e settled) tried opens)
      chain)

  comes-info : ForSome known (λ (tree : Tree). InfoDir ≡ standing_at tree path)
      → InfoComes of_file of_chain path old new before after answer → Comes (MayOpen known path old new) before after answer
  comes-info stands (inl of) =
      widen (OpensStopping known (λ (tree : Tree). file_opened tree (info_file path)) old new) (MayOpen known path old new)
      before after answer (λ given same opens. opens-info_file known path old new given stands (same ∙ of.0) opens) of.1
  comes-info stands (inr (inl of)) = comes-chain stands of.failures of.between of.refusal of.file of.refused of.chain
  comes-info stands (inr (inr of)) = comes-first OutOfMemory (opens-no_memory known path old new of.1) of

  comes-standing : (standing : Standing) → ForSome known (λ (tree : Tree). standing ≡ standing_at tree path)
      → StandingComes standing of_file of_chain path old new before after answer
      → Comes (MayOpen known path old new) before after answer
  comes-standing File stands of =
      widen (OpensStopping known (λ (tree : Tree). file_opened tree path) old new) (MayOpen known path old new)
      before after answer (λ given same opens. opens-file known path old new given stands opens) of
  comes-standing ChainDir stands of =
      widen (OpensStopping known (λ (tree : Tree). chain_opened tree path) old new) (MayOpen known path old new)
      before after answer (λ given same opens. opens-chain known path old new given stands opens) of
  comes-standing InfoDir stands of = comes-info stands of
  comes-standing Nothing stands of = comes-first NothingFound (opens-nothing known path old new stands of.1) of

  pub comes-path : PathComes known of_file of_chain path old new before after answer
      → Comes (MayOpen known path old new) before after answer
  comes-path (inl of) = comes-standing of.0 of.1 of.2
  comes-path (inr of) = comes-first OutOfMemory (opens-no_memory known path old new of.1) of
