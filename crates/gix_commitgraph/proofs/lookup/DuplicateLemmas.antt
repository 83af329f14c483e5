-- What the check of a commit's ids finds, and the search of its id in the layers below.
use Rattle.std.proofs.Common.{◌≡◌, ℕ, ◌+◌, ◌<◌, ◌≤◌, true, false, if◌then◌else◌, List, [], length, unwrap_or, take}
use Rattle.std.proofs.Common.{slice_get, Option, Some, None, option_map, refl, sym, ap, ◌∙◌, arith}
use Rattle.std.specs.Prelude.{◌↔◌}
use Rattle.std.proofs.lemmas.List.{take-take, length-take-le, get_or-take}
use Rattle.std.proofs.lemmas.Option.{slice_get-get_or, get_or_from_slice_get}
use Rattle.gix_chunk_core.specs.FirstFault.{◌otherwise◌}
use Rattle.graph_format.specs.Layer.{Layer}
use Rattle.graph_format.specs.Faults.{id_at, id_fault, tree_fault, commit_fault}
use Rattle.graph_format.specs.Lookup.{Found, scan}
use Rattle.graph_format.specs.Parents.{position_of}
use Rattle.graph_format.specs.declared.fault.CommitFault.{CommitFault}
use Rattle.gix_commitgraph.specs.Graph.{graph_ids, total, start}
use Rattle.gix_commitgraph.specs.GraphLookup.{FoundIn}
use Rattle.gix_commitgraph.specs.Verify.{duplicate_refusal, commit_ids_refusal}
use Rattle.gix_commitgraph.specs.declared.verify.VerifyError.{VerifyError}
use Rattle.gix_commitgraph.specs.declared.verify.VerifyError.TheVariants as error
use Rattle.gix_commitgraph.specs.declared.verify.VerifyOptions.{VerifyOptions}
use Rattle.gix_commitgraph.proofs.lookup.GraphLookupLemmas.{IsMissed, found_in-counted, found_in-none}

-- a layer among the lowest ones, and where it starts
pub take-layer : (layers : List Layer) (n i : ℕ) (layer : Layer) → n ≤ length layers → i < n → slice_get layers i ≡ Some layer
    → slice_get (take n layers) i ≡ Some layer
take-layer layers n i layer long below here =
    let inside : i < length (take n layers) = omega (arith, length-take-le n layers long) in
    slice_get-get_or (take n layers) i layer inside
    ∙ ap (λ (l : Layer). Some l) (get_or-take n layers i layer below ∙ get_or_from_slice_get layers i layer layer here)

pub start-take : (layers : List Layer) (n i : ℕ) → i ≤ n → start (take n layers) i ≡ start layers i
unfolding start
start-take layers n i h = ap total (take-take i n layers h)

-- the lowest layers are searched up to the first that finds the id
pub found-below : (layers : List Layer) (n at first pos : ℕ) (layer : Layer) (id : List ℕ) → n ≤ length layers → at < n
    → IsMissed (take n layers) id at → slice_get layers at ≡ Some layer → first ≡ start layers at → Found layer id (Some pos)
    → FoundIn (take n layers) id (Some (first + pos))
found-below layers n at first pos layer id long below missed here is_first found =
    found_in-counted (take n layers) id at first pos layer (is_first ∙ sym (start-take layers n at (omega arith))) missed
    (take-layer layers n at layer long below here) found

pub none-below : (layers : List Layer) (n at : ℕ) (id : List ℕ) → n ≤ length layers → n ≤ at → IsMissed (take n layers) id at
    → FoundIn (take n layers) id None
none-below layers n at id long past missed =
    found_in-none (take n layers) id at missed (omega (arith, length-take-le n layers long))

-- the id of a commit that is seen by its layer
pub id-told : (own layer : Layer) (pos : ℕ) (id : List ℕ) → own ≡ layer → slice_get own.ids pos ≡ Some id → id_at layer pos ≡ id
id-told own layer pos id same here =
    ap (λ (l : Layer). id_at l pos) (sym same) ∙ ap (λ (o : Option (List ℕ)). unwrap_or o []) here

module _ {E : Type 0} where
  abbrev pub duplicate_of : ℕ → ℕ → VerifyError E
  duplicate_of p earlier = error.DuplicateId (position_of p) (position_of earlier)

  -- what is named where the layers below hold the id at this position, or nowhere
  pub duplicate-is : (layers : List Layer) (i : ℕ) (layer : Layer) (pos p : ℕ) (id : List ℕ) (found : Option ℕ)
      → id_at layer pos ≡ id → p ≡ start layers i + pos → found ≡ scan (graph_ids (take i layers)) id
      → option_map (duplicate_of p) found ≡ duplicate_refusal layers i layer pos
  duplicate-is layers i layer pos p id found here is_p is = rw (here, ← is, ← is_p) refl

  -- what is asked of an id besides: that no layer below has it, or nothing
  abbrev pub asked_of : VerifyOptions → List Layer → ℕ → Layer → ℕ → Option (VerifyError E)
  asked_of options layers i layer pos = if options.distinct_ids then duplicate_refusal layers i layer pos else None

  -- it is what was found, where it is asked, and else nothing
  pub asked-found : (options : VerifyOptions) (layers : List Layer) (i : ℕ) (layer : Layer) (pos : ℕ)
      (found : Option (VerifyError E)) → options.distinct_ids ≡ true → found ≡ duplicate_refusal layers i layer pos
      → found ≡ asked_of options layers i layer pos
  asked-found options layers i layer pos found asked is = rw asked is

  pub asked-nothing : (options : VerifyOptions) (layers : List Layer) (i : ℕ) (layer : Layer) (pos : ℕ)
      → options.distinct_ids ≡ false → None ≡ asked_of options layers i layer pos
  asked-nothing options layers i layer pos not_asked = rw not_asked refl

  -- what the faults of an id and of a tree come to, with what is asked between them
  abbrev pub joined : ℕ → Option CommitFault → Option (VerifyError E) → Option CommitFault → Option (VerifyError E)
  joined p id asked tree =
      option_map (error.Commit (position_of p)) id otherwise asked otherwise option_map (error.Commit (position_of p)) tree

  -- what is found of a commit that is seen by its layer and its position in the graph
  pub ids-answered : (options : VerifyOptions) (layers : List Layer) (i : ℕ) (layer own : Layer) (pos p : ℕ)
      (id tree : Option CommitFault) (asked : Option (VerifyError E)) → own ≡ layer → p ≡ start layers i + pos
      → id ≡ id_fault own pos → asked ≡ asked_of options layers i layer pos → tree ≡ tree_fault own pos
      → joined p id asked tree ≡ commit_ids_refusal options layers i layer pos
  ids-answered options layers i layer own pos p id tree asked same is_p id_is asked_is tree_is =
      ap (λ (n : ℕ). joined n id asked tree) is_p
      ∙ ap (λ (fault : Option CommitFault). joined (start layers i + pos) fault asked tree)
      (id_is ∙ ap (λ (l : Layer). id_fault l pos) same)
      ∙ ap (λ (o : Option (VerifyError E)). joined (start layers i + pos) (id_fault layer pos) o tree) asked_is
      ∙ ap (joined (start layers i + pos) (id_fault layer pos) (asked_of options layers i layer pos))
      (tree_is ∙ ap (λ (l : Layer). tree_fault l pos) same)

  joined-none : (p : ℕ) (id tree : Option CommitFault) (asked : Option (VerifyError E))
      → (joined p id asked tree ≡ None) ↔ (((id otherwise tree) ≡ None) × (asked ≡ None))
  joined-none p (Some fault) tree asked = (λ h. cc, λ h. cc)
  joined-none p None tree (Some x) = (λ h. cc, λ h. cc)
  joined-none p None (Some fault) None = (λ h. cc, λ h. cc)
  joined-none p None None None = (λ h. (refl, refl), λ h. refl)

  -- nothing is wrong with the ids of a commit, and no earlier layer has its id where that is asked
  pub ids-none : (options : VerifyOptions) (layers : List Layer) (i : ℕ) (layer : Layer) (pos : ℕ)
      → (commit_ids_refusal {E = E} options layers i layer pos ≡ None)
      ↔ ((commit_fault layer pos ≡ None) × ((if options.distinct_ids then duplicate_refusal {E = E} layers i layer pos else None)
      ≡ None))
  unfolding commit_fault
  ids-none options layers i layer pos =
      joined-none (start layers i + pos) (id_fault layer pos) (tree_fault layer pos) (asked_of options layers i layer pos)
