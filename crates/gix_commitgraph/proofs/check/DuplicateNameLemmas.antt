-- The check of a graph names a repeated id only where the options ask for distinct ids.
use Rattle.std.proofs.Common.{◌≡◌, ℕ, zero, suc, ◌+◌, Bool, true, false, if◌then◌else◌, List, [], ◌∷◌, ◌++◌, length, map}
use Rattle.std.proofs.Common.{Option, Some, None, Result, Ok, Err, refl, subst}
use Rattle.std.specs.Prelude.{IfSome, IsTrue, option_map, ⊤}
use Rattle.std.specs.List.{flat_map, range_with_len, enumerate_from}
use Rattle.std.specs.Option.{option_or}
use Rattle.gix_chunk_core.specs.FirstFault.{◌when◌, first_below}
use Rattle.graph_format.specs.Faults.{layer_fault}
use Rattle.graph_format.specs.Layer.{Layer}
use Rattle.graph_format.specs.Parents.{position_of}
use Rattle.graph_format.specs.Points.{Point, check, call, first_some, first_fault}
use Rattle.graph_format.specs.StoredHistory.{history_of}
use Rattle.graph_walks.specs.History.{Node}
use Rattle.gix_commitgraph.specs.Graph.{start, stop}
use Rattle.gix_commitgraph.specs.Verify.{base_refusal, base_ids_refusal, item_refusal, parents_refusal, commit_ids_refusal}
use Rattle.gix_commitgraph.specs.Verify.{generation_refusal, commit_points, layer_points, points_with}
use Rattle.graph_format.specs.declared.Position.{Position}
use Rattle.graph_format.specs.declared.fault.CommitFault.{CommitFault}
use Rattle.graph_format.specs.declared.parents.ParentError.{ParentError}
use Rattle.gix_commitgraph.specs.declared.verify.VerifyOptions.{VerifyOptions}
use Rattle.gix_commitgraph.specs.declared.verify.VerifyError.{VerifyError}
use Rattle.gix_commitgraph.specs.declared.verify.VerifyError.TheVariants as error

-- What holds of each fault that a check may name holds of the first.
module _ {X : Type 0} (P : X → Type 0) where
  -- If this is a fault, it is so.
  record Names (fault : Option X) : Type 0 where
    holds : IfSome fault P

  none : Names None
  none = record { holds = tt }

  some : (x : X) → P x → Names (Some x)
  some x h = record { holds = h }

  names-when : (x : X) (test : Bool) → P x → Names (x when test)
  names-when x true h = some x h
  names-when x false h = none

  names-map : {Y : Type 0} (f : Y → X) (o : Option Y) → ((y : Y) → P (f y)) → Names (option_map f o)
  names-map f None h = none
  names-map f (Some y) h = some (f y) (h y)

  names-or : (a b : Option X) → Names a → Names b → Names (option_or a b)
  names-or None b h k = k
  names-or (Some x) b h k = h

  names-below : (f : ℕ → Option X) (n : ℕ) → ((i : ℕ) → Names (f i)) → Names (first_below f n)
  unfolding first_below
  names-below f zero h = none
  names-below f (suc n) h = names-or (first_below f n) (f n) (names-below f n h) (h n)

  names-first : (o : Option X) (os : List (Option X)) → Names o → Names (first_some os) → Names (first_some (o ∷ os))
  names-first None os h k = k
  names-first (Some x) os h k = h

  names-some : {Y : Type 0} (f : Y → Option X) (ys : List Y) → ((y : Y) → Names (f y)) → Names (first_some (map f ys))
  names-some f [] h = none
  names-some f (y ∷ ys) h = names-first (f y) (map f ys) (h y) (names-some f ys h)

  names-check : (o : Option X) (points : List (Point X)) → Names o → Names (first_fault points)
      → Names (first_fault (check o ∷ points))
  names-check None points h k = k
  names-check (Some x) points h k = h

  names-append : (a b : List (Point X)) → Names (first_fault a) → Names (first_fault b) → Names (first_fault (a ++ b))
  names-append [] b h k = k
  names-append (check None ∷ a) b h k = names-append a b h k
  names-append (check (Some x) ∷ a) b h k = h
  names-append (call p ∷ a) b h k = names-append a b h k

  names-flat_map : {A : Type 0} (f : A → List (Point X)) (xs : List A) → ((x : A) → Names (first_fault (f x)))
      → Names (first_fault (flat_map f xs))
  names-flat_map f [] h = none
  names-flat_map f (x ∷ xs) h = names-append (f x) (flat_map f xs) (h x) (names-flat_map f xs h)

-- a repeated id is named where it is asked about, and any other fault in any case
abbrev IsAsked : {E : Type 0} → Bool → VerifyError E → Type 0
IsAsked asked (error.DuplicateId pos earlier) = IsTrue asked
IsAsked asked x = ⊤

module _ (E : Type 0) (options : VerifyOptions) (layers : List Layer) where
  abbrev Asked : VerifyError E → Type 0
  Asked x = IsAsked options.distinct_ids x

  asked-base : (i : ℕ) (layer : Layer) → Names Asked (base_ids_refusal {E = E} layers i layer)
  asked-base i layer =
      names-or Asked _ _ (names-when Asked (error.BaseCount i) _ tt)
      (names-below Asked (base_refusal layers i layer) i (λ j. names-when Asked (error.BaseId i j) _ tt))

  asked-id : (asked : Bool) (pos : Position) (f : ℕ → Position) (o : Option ℕ)
      → Names (IsAsked {E = E} asked) (if asked then option_map (λ earlier. error.DuplicateId pos (f earlier)) o else None)
  asked-id true pos f None = none (IsAsked true)
  asked-id true pos f (Some earlier) = some (IsAsked true) _ refl
  asked-id false pos f o = none (IsAsked false)

  asked-item : (p stop : ℕ) (item : Result Position ParentError) → Names Asked (item_refusal {E = E} p stop item)
  asked-item p stop (Ok parent) = names-when Asked (error.ParentOutOfRange (position_of p) parent) _ tt
  asked-item p stop (Err fault) = some Asked (error.Parent (position_of p) fault) tt

  asked-commit_id : (p : Position) (o : Option CommitFault) → Names Asked (option_map (error.Commit p) o)
  asked-commit_id p o = names-map Asked (error.Commit p) o (λ fault. tt)

  asked-ids : (i : ℕ) (layer : Layer) (pos : ℕ) → Names Asked (commit_ids_refusal {E = E} options layers i layer pos)
  asked-ids i layer pos =
      names-or Asked _ _ (asked-commit_id _ _)
      (names-or Asked _ _ (asked-id options.distinct_ids (position_of (start layers i + pos)) position_of _)
      (asked-commit_id _ _))

  asked-parents : (i : ℕ) (layer : Layer) (pos : ℕ) → Names Asked (parents_refusal {E = E} layers i layer pos)
  asked-parents i layer pos =
      names-some Asked (item_refusal (start layers i + pos) (stop layers i)) _
      (asked-item (start layers i + pos) (stop layers i))

  asked-generation : (history : List Node) (p : ℕ) → Names Asked (generation_refusal {E = E} history p)
  asked-generation history p = names-when Asked (error.Generation (position_of p) _) _ tt

  asked-commit : (i : ℕ) (layer : Layer) (pos : ℕ)
      → Names Asked (first_fault (commit_points {E = E} options layers i layer pos))
  asked-commit i layer pos =
      let p : ℕ = start layers i + pos in
      let generation : Option (VerifyError E) = generation_refusal (history_of layers) p in
      let parents : Option (VerifyError E) = parents_refusal layers i layer pos in
      names-check Asked _ (check parents ∷ check generation ∷ call p ∷ []) (asked-ids i layer pos)
      (names-check Asked _ (check generation ∷ call p ∷ []) (asked-parents i layer pos)
      (names-check Asked _ (call p ∷ []) (asked-generation (history_of layers) p) (none Asked)))

  asked-layer : (i : ℕ) (layer : Layer) → Names Asked (first_fault (layer_points {E = E} options layers i layer))
  asked-layer i layer =
      let positions : List ℕ = range_with_len 0 (length layer.ids) in
      let commits : List (Point (VerifyError E)) = flat_map (commit_points options layers i layer) positions in
      let whole : Option (VerifyError E) = option_map (error.Layer i) (layer_fault layer) in
      names-check Asked _ (check whole ∷ commits) (asked-base i layer)
      (names-check Asked whole commits (names-map Asked (error.Layer i) (layer_fault layer) (λ fault. tt))
      (names-flat_map Asked (commit_points options layers i layer) positions (asked-commit i layer)))

  asked-graph : Names Asked (first_fault (points_with {E = E} options layers))
  asked-graph =
      let points : ℕ × Layer → List (Point (VerifyError E)) = λ e. layer_points options layers e.0 e.1 in
      names-check Asked _ (flat_map points (enumerate_from 0 layers)) (names-when Asked error.TooManyFiles _ tt)
      (names-flat_map Asked points (enumerate_from 0 layers) (λ e. asked-layer e.0 e.1))

  pub asked-from_named : (pos earlier : Position)
      → first_fault (points_with {E = E} options layers) ≡ Some (error.DuplicateId pos earlier) → IsTrue options.distinct_ids
  asked-from_named pos earlier is = (subst (Names Asked) is asked-graph).holds
