-- A graph that is opened anew beside one that stands.
use Rattle.std.proofs.Common.{◌≡◌, ℕ, ◌-◌, ◌<◌, List, [], ◌++◌, length, take, drop, Option, Some, None}
use Rattle.std.proofs.Common.{Result, Ok, Err, true, refl, sym, ap, subst, ◌∙◌, arith, get_or, inl, inr, map}
use Rattle.std.specs.Prelude.{All, Bool, IfOk, IfSome, MatchOption, IsSomeAnd, Vec, if◌then◌else◌}
use Rattle.std.specs.Option.{ForSome, ok_or}
use Rattle.std.specs.Str.{is_utf8}
use Rattle.std.specs.Str.Lines.{lines}
use Rattle.std.proofs.Math.Seq.{drop-append_seam, take-append_seam}
use Rattle.std.proofs.lemmas.List.{length-append, map-append, take_all}
use Rattle.std.proofs.lemmas.Option.{slice_get-get_or, slice_get_within}
use Rattle.gix_hash_core.specs.declared.kind.Kind.TheVariants.{Sha1}
use Rattle.graph_folder.specs.Tree.{Tree, file_at}
use Rattle.graph_format.specs.Layer.{Layer, IsLayer, IsOpened, bytes_of}
use Rattle.graph_format.specs.Opened.{layer_of}
use Rattle.graph_format.specs.declared.error.FileError.{FileError}
use Rattle.graph_format.specs.declared.error.GraphError.{GraphError}
use Rattle.graph_format.specs.declared.error.GraphError.TheVariants.{NoFiles, TooManyCommits, HashMismatch}
use Rattle.graph_format.specs.declared.error.GraphError.TheVariants.{OutOfMemory as graph_OutOfMemory}
use Rattle.graph_format.proofs.DecidedFileLemmas.{answered}
use Rattle.graph_layer.specs.LayerOpening.{LayerWasRead, bytes_at, layer_at, layer_of_bytes}
use Rattle.graph_layer.specs.OpenAnswer.{and_then, is_settled, result_map_err}
use Rattle.graph_layer.specs.OpenRefusals.{layer_refused}
use Rattle.graph_layer.specs.declared.opening.error.OpenError.{OpenError}
use Rattle.graph_layer.specs.declared.opening.error.OpenError.TheVariants.{NotOpened, ChainNotText, OutOfMemory}
use Rattle.gix_commitgraph.specs.ByStanding.{PathComes}
use Rattle.gix_commitgraph.specs.Graph.{MakesGraph, total}
use Rattle.gix_commitgraph.specs.GraphLaw.{IsRefusal}
use Rattle.gix_commitgraph.specs.GraphRefusal.{graph_refusal, kind_at}
use Rattle.gix_commitgraph.specs.Opening.{chain_opened, file_opened}
use Rattle.gix_commitgraph.specs.Opening.{graph_of_layers, graph_unless_refused, layer_of_line}
use Rattle.gix_commitgraph.specs.Paths.{chain_path, info_chain, info_file, layer_path}
use Rattle.gix_commitgraph.specs.WasRead.{ChainWasRead, FileWasRead, PathWasRead}
use Rattle.gix_commitgraph.specs.declared.verify.VerifyError.{VerifyError}
use Rattle.gix_commitgraph.proofs.layers.GraphLemmas.{judged}
use Rattle.gix_commitgraph.proofs.layers.LayerListLemmas.{kind_at-is}
use Rattle.graph_ancestors.specs.declared.checking.NoFault.{NoFault}
use Rattle.gix_commitgraph.proofs.opening.OpenedPathLemmas.{ok_wider, paths_with}
use Rattle.graph_commands.specs.OpenerAnswer.{OpensStopping}
use Rattle.graph_commands.specs.declared.refusal.Refusal.{Refusal}
use Rattle.graph_commands.proofs.OpenerLemmas.{comes-path, settled-alike}
use Rattle.graph_history.specs.Reload.{StandAboveShared}
use Rattle.question_commands.specs.ReadOpening.{MayOpenAsRead, OpensAsRead}
use Rattle.question_commands.specs.TakenAnew.{IsThisGraph, OpensAbove, PutsAbove, Takes, TakesBy, taken_of}
use Rattle.question_commands.proofs.ComingLemmas.{path_comes_as}
use Rattle.question_commands.proofs.WiderLemmas.{refuses_wider}

no_layer : Layer
no_layer = record { kind = Sha1; bases = []; fan = []; ids = []; records = []; edges = None; checksum = []; body = []; path = [] }

module _ (layers : List Layer) (makes : MakesGraph layers) where
  kind-of : (i : ℕ) → i < length layers → kind_at layers i ≡ (get_or layers i no_layer).kind
  kind-of i within = kind_at-is layers i (get_or layers i no_layer) (slice_get-get_or layers i no_layer within)

  unrefused_by : (o : Option GraphError) → MatchOption o (MakesGraph layers) (IsRefusal layers) → o ≡ None
  unrefused_by None judgement = refl
  unrefused_by (Some NoFiles) none = absurd (omega (arith, makes.some, ap length none))
  unrefused_by (Some (TooManyCommits commits)) many = absurd (omega (arith, makes.few, many.1))
  unrefused_by (Some (HashMismatch i)) judgement =
      let mismatch = judgement.1 in
      let before : i - 1 < length layers = omega (arith, mismatch.within) in
      absurd (mismatch.differs (kind-of i mismatch.within
      ∙ sym (makes.alike (i - 1) i no_layer (omega (arith, mismatch.after_one)) mismatch.within) ∙ sym (kind-of (i - 1) before)))
  unrefused_by (Some graph_OutOfMemory) never = absurd never

  -- layers that make a graph are not refused
  pub unrefused : graph_refusal layers ≡ None
  unrefused = unrefused_by (graph_refusal layers) (judged layers)

-- what opens these layers opens the graph that they make
pub opens_as : (expected : Result (List Layer) OpenError) (layers : List Layer) → expected ≡ graph_of_layers layers
    → MakesGraph layers → Ok layers ≡ expected
opens_as expected layers is makes =
    sym (is ∙ ap (λ (o : Option GraphError). graph_unless_refused o layers) (unrefused layers makes))

-- all layers of a graph are the lowest of another, and so many commits stand above them
pub stand_above : (old files new : List Layer) (checked : ℕ) → new ≡ old ++ files → checked ≡ total files
    → StandAboveShared old new checked
stand_above old files new checked is counts =
    let back : drop (length old) new ≡ files = ap (drop (length old)) is ∙ drop-append_seam old files in (
      length old,
      record {
        in_old = omega arith;
        in_new = omega (arith, ap length is, length-append old files);
        same = take_all (length old) old (omega arith) ∙ sym (ap (take (length old)) is ∙ take-append_seam old files);
        most = λ layer there also. absurd (omega (arith, slice_get_within old (length old) layer there));
      },
      counts ∙ ap total (sym back),
    )

-- a wider opener
pub takes_wider : (P Q : Result (List Layer) OpenError → Type 0)
    → ((answer : Result (List Layer) OpenError) → P answer → Q answer) → (before after : List Layer)
    → (result : Result ℕ Refusal) → Takes P before after result → Takes Q before after result
takes_wider P Q wider before after (Ok checked) takes = ((wider (Ok after) takes.0.0, takes.0.1), takes.1)
takes_wider P Q wider before after (Err x) takes = (refuses_wider P Q wider x takes.0, takes.1)

-- what came of a graph that an opener may answer, and that was read so
pub takes_read : (P : Result (List Layer) OpenError → Type 0) (WereRead : List Layer → Type 0) (opened before after : List Layer)
    (result : Result ℕ (VerifyError NoFault)) → P (Ok opened) → WereRead opened
    → TakesBy (IsThisGraph opened) before after (Ok result) → TakesBy (OpensAsRead P WereRead) before after (Ok result)
takes_read P WereRead opened before after result opens read takes =
    takes_wider (IsThisGraph opened) (OpensAsRead P WereRead)
    (λ answer is. subst (OpensAsRead P WereRead) (sym is) (opens, read)) before after (taken_of (Ok result)) takes

-- What comes of a path comes of what may be opened there.
module _ (S : Type 0) (layers_of : S → List Layer) where
  abbrev taken : (Result (List Layer) OpenError → Type 0) → S → S → Result (Result ℕ (VerifyError NoFault)) OpenError → Type 0
  taken MayOpen s t answer = TakesBy MayOpen (layers_of s) (layers_of t) answer

  taken-widen : (P Q : Result (List Layer) OpenError → Type 0) (s t : S)
      (answer : Result (Result ℕ (VerifyError NoFault)) OpenError)
      → ((given : Result (List Layer) OpenError) → is_settled given ≡ is_settled answer → P given → Q given)
      → taken P s t answer → taken Q s t answer
  taken-widen P Q s t (Ok (Ok checked)) wider of = ((wider (Ok (layers_of t)) refl of.0.0, of.0.1), of.1)
  taken-widen P Q s t (Ok (Err error)) wider of = ((of.0.0, wider (Ok of.0.0) refl of.0.1, of.0.2), of.1)
  taken-widen P Q s t (Err error) wider of =
      (wider (Err error) (settled-alike (Result ℕ (VerifyError NoFault)) error) of.0, of.1)

  taken-error : (P : Result (List Layer) OpenError → Type 0) (s t : S) (error : OpenError) → taken P s t (Err error)
      → P (Err error)
  taken-error P s t error of = of.0

  taken-first : (P : Result (List Layer) OpenError → Type 0) (s : S) (error : OpenError) → P (Err error)
      → taken P s s (Err error)
  taken-first P s error may = (may, refl)

  -- where none was opened, the graph of before stands
  taken-next : (P Q : Result (List Layer) OpenError → Type 0) (s t u : S) (error : OpenError)
      (answer : Result (Result ℕ (VerifyError NoFault)) OpenError) → taken P s t (Err error) → taken Q t u answer
      → taken Q s u answer
  taken-next P Q s t u error answer tried of =
      subst (λ (layers : List Layer). TakesBy Q layers (layers_of u) answer) tried.1 of

  -- the layers were read so, wherever they came from
  taken-read : (P : Result (List Layer) OpenError → Type 0) (Read WereRead : List Layer → Type 0)
      → ((layers : List Layer) → Read layers → WereRead layers) → (s t : S)
      → (answer : Result (Result ℕ (VerifyError NoFault)) OpenError) → taken (OpensAsRead P Read) s t answer
      → taken (OpensAsRead P WereRead) s t answer
  taken-read P Read WereRead wider s t answer of =
      taken-widen (OpensAsRead P Read) (OpensAsRead P WereRead) s t answer
      (λ given same may. (may.0, ok_wider Read WereRead given wider may.1)) of

  module _ (known : Option Tree) (gives : List ℕ → List ℕ → Type 0) (path : List ℕ) where
    abbrev WereRead : List Layer → Type 0
    WereRead = PathWasRead gives path

    abbrev read : (Result (List Layer) OpenError → Type 0) → S → S → Result (Result ℕ (VerifyError NoFault)) OpenError → Type 0
    read MayOpen s t answer = taken (OpensAsRead MayOpen WereRead) s t answer

    abbrev opens_file : List ℕ → ℕ → ℕ → Result (List Layer) OpenError → Type 0
    opens_file file from to = OpensStopping known (λ tree. file_opened tree file) from to

    abbrev opens_chain : List ℕ → ℕ → ℕ → Result (List Layer) OpenError → Type 0
    opens_chain chain from to = OpensStopping known (λ tree. chain_opened tree chain) from to

    pub taken_path : (old new : ℕ) (before after : S) (answer : Result (Result ℕ (VerifyError NoFault)) OpenError)
        → PathComes known
        (λ (file : List ℕ) (from to : ℕ) (s t : S). taken (OpensAsRead (OpensStopping known (λ tree. file_opened tree file)
        from to) (FileWasRead gives file)) s t)
        (λ (chain : List ℕ) (from to : ℕ) (s t : S). taken (OpensAsRead (OpensStopping known (λ tree. chain_opened tree chain)
        from to) (ChainWasRead gives chain)) s t)
        path old new before after answer
        → taken (MayOpenAsRead known gives path old new) before after answer
    taken_path old new before after answer of =
        comes-path read
        (λ P Q s t given wider. taken-widen (OpensAsRead P WereRead) (OpensAsRead Q WereRead) s t given
        (λ one same may. (wider one same may.0, may.1)))
        (λ P s t error is. (taken-error (OpensAsRead P WereRead) s t error is).0)
        (λ P s error may. taken-first (OpensAsRead P WereRead) s error (may, tt))
        (λ P Q s t u error given. taken-next (OpensAsRead P WereRead) (OpensAsRead Q WereRead) s t u error given)
        known path old new before after answer
        (path_comes_as
        (λ file from to s t. taken (OpensAsRead (opens_file file from to) (FileWasRead gives file)) s t)
        (λ chain from to s t. taken (OpensAsRead (opens_chain chain from to) (ChainWasRead gives chain)) s t)
        (λ file from to. read (opens_file file from to)) (λ chain from to. read (opens_chain chain from to)) path
        (λ from to s t one. taken-read (opens_file path from to) (FileWasRead gives path) WereRead (λ layers was. inl was)
        s t one)
        (λ from to s t one. taken-read (opens_chain path from to) (ChainWasRead gives path) WereRead
        (λ layers was. inr (inl was)) s t one)
        (λ from to s t one. taken-read (opens_file (info_file path) from to) (FileWasRead gives (info_file path)) WereRead
        (λ layers was. inr (inr (inl was))) s t one)
        (λ from to s t one. taken-read (opens_chain (info_chain path) from to) (ChainWasRead gives (info_chain path)) WereRead
        (λ layers was. inr (inr (inr was))) s t one)
        known old new before after answer of)

-- a layer that was opened is what a line names, if that names its path and the file there has its bytes
pub same_layer : (tree : Tree) (folder line : List ℕ) (i : ℕ) (layer : Layer) → IsOpened layer → is_utf8 line ≡ true
    → layer.path ≡ layer_path folder line → file_at tree (layer_path folder line) ≡ Some (bytes_of layer)
    → Ok layer ≡ layer_of_line tree folder i line
same_layer tree folder line i layer opened text named same =
    let path = layer_path folder line in
    let bytes = bytes_of layer in
    let read : bytes_at tree path ≡ Ok bytes = ap (λ (o : Option (List ℕ)). ok_or o NotOpened) same in
    let is : layer_of bytes path ≡ Ok layer =
    ((answered bytes path).layer layer).1 (subst (λ (at : List ℕ). IsLayer bytes at layer) named opened) in
    let at : layer_at tree i path ≡ Ok layer =
    ap (λ (r : Result (List ℕ) OpenError). and_then r (λ b. layer_of_bytes i b path)) read
    ∙ ap (λ (r : Result Layer FileError). result_map_err (layer_refused i) r) is in
    sym (ap (λ (b : Bool). if b then layer_at tree i path else Err (ChainNotText i)) text ∙ at)

-- the lines of a chain name the layers that stand, and then those above them
pub named_above : (folder : List ℕ) (standing files : List Layer) (all left : List (List ℕ))
    → map (layer_path folder) all ≡ paths_with standing folder left
    → map (λ layer. layer.path) files ≡ map (layer_path folder) left
    → map (λ layer. layer.path) (standing ++ files) ≡ map (layer_path folder) all
named_above folder standing files all left first rest =
    let path : Layer → List ℕ = λ layer. layer.path in
    map-append path standing files ∙ ap (λ (l : List (List ℕ)). map path standing ++ l) rest ∙ sym first

-- so they were read as its layers, if there are some
pub chain_above : {A : Type 0} (gives : List ℕ → List ℕ → Type 0) (folder text : List ℕ) (standing : List Layer)
    (result : Result (Option (Vec Layer A)) OpenError) → gives (chain_path folder) text
    → IfOk result (λ above. IfSome above (λ files.
    map (λ layer. layer.path) (standing ++ files.items) ≡ map (layer_path folder) (lines text)))
    → IfOk result (λ above. IfSome above (λ files. All (LayerWasRead gives) (standing ++ files.items)))
    → IfOk result (λ above. IfSome above (λ files. ChainWasRead gives folder (standing ++ files.items)))
chain_above gives folder text standing (Ok (Some files)) given named read =
    record { text = text; given = given; named = named; read = read }
chain_above gives folder text standing (Ok None) given named read = tt
chain_above gives folder text standing (Err e) given named read = tt

-- what came of layers that are put on top is what comes of opening the chain that names them above those of before; all of them
-- were read so
pub takes_above : (known : Option Tree) (path : List ℕ) (WereRead : List Layer → Type 0) (old new : ℕ)
    (before above after : List Layer) → new ≡ old
    → ForSome known (λ tree. chain_opened tree path ≡ graph_of_layers (before ++ above)) → WereRead (before ++ above)
    → (answer : Result (Result ℕ (VerifyError NoFault)) OpenError) → PutsAbove before above after answer
    → TakesBy (OpensAsRead (OpensStopping known (λ tree. chain_opened tree path) old new) WereRead) before after answer
takes_above known path WereRead old new before above after same opens read (Ok (Ok checked)) puts =
    let layers : ForSome known (λ tree. Ok after ≡ chain_opened tree path) = λ tree is.
    subst (λ (ls : List Layer). Ok ls ≡ chain_opened tree path) (sym puts.0)
    (opens_as (chain_opened tree path) (before ++ above) (opens tree is) (subst MakesGraph puts.0 puts.2.makes)) in
    let were : WereRead after = subst WereRead (sym puts.0) read in
    (((((layers, puts.2), same), were), puts.3), stand_above before above after checked puts.0 puts.1)
takes_above known path WereRead old new before above after same opens read (Ok (Err e)) puts =
    let layers : ForSome known (λ tree. Ok (before ++ above) ≡ chain_opened tree path) = λ tree is.
    opens_as (chain_opened tree path) (before ++ above) (opens tree is) puts.1.makes in
    ((before ++ above, (((layers, puts.1), same), read), puts.2), puts.0)
takes_above known path WereRead old new before above after same opens read (Err e) puts =
    let stops : OpenError → Type 0 = λ x. OpensStopping known (λ tree. chain_opened tree path) old new (Err x) in
    let memory : stops OutOfMemory = (((λ tree is. tt), tt), same) in (
      (
        subst stops (sym puts.1) memory,
        tt,
      ),
      puts.0,
    )

-- the same of layers that are there, if there are some
pub takes_put : {A : Type 0} (known : Option Tree) (path : List ℕ) (WereRead : List Layer → Type 0) (old new : ℕ)
    (before after : List Layer) (above : Option (Vec Layer A)) → new ≡ old
    → ForSome known (λ tree. OpensAbove (chain_opened tree path) before (Ok above))
    → IfSome above (λ files. WereRead (before ++ files.items))
    → (answer : Result (Result ℕ (VerifyError NoFault)) OpenError)
    → IsSomeAnd above (λ files. PutsAbove before files.items after answer)
    → TakesBy (OpensAsRead (OpensStopping known (λ tree. chain_opened tree path) old new) WereRead) before after answer
takes_put known path WereRead old new before after None same opens read answer puts = absurd puts
takes_put known path WereRead old new before after (Some files) same opens read answer puts =
    takes_above known path WereRead old new before files.items after same opens read answer puts
