-- How the check of a graph goes over the points of one commit.
use Rattle.std.proofs.Common.{◌≡◌, ℕ, ◌+◌, Bool, true, false, not, ◌==◌, if◌then◌else◌, List, [], ◌∷◌, map, take, min, Option}
use Rattle.std.proofs.Common.{Some, None, option_map, Result, Ok, Err, nat_lt, eq-eqb, ne_eqb, refl, sym, ap, subst, ◌∙◌, arith}
use Rattle.gix_chunk_core.specs.FirstFault.{◌when◌, ◌otherwise◌}
use Rattle.graph_format.specs.Layer.{Layer, record_at}
use Rattle.graph_layer.specs.Commit.{commit_pos}
use Rattle.graph_format.specs.Parents.{position_of, items_of, parents_of}
use Rattle.gix_commitgraph.specs.Graph.{graph_ids, start, stop}
use Rattle.graph_format.specs.Faults.{id_at, id_fault, tree_fault}
use Rattle.graph_format.specs.Lookup.{scan}
use Rattle.graph_walks.specs.History.{Node, generation_at, parents_at}
use Rattle.graph_format.specs.StoredHistory.{history_of}
use Rattle.graph_walks.specs.Generations.{expected_generation}
use Rattle.graph_walks.specs.Counts.{greatest}
use Rattle.graph_format.specs.Points.{Point, check, call, first_some, refused, IsRefused, StopsAtCall, StopsBy, PassesAll}
use Rattle.gix_commitgraph.specs.Verify.{commit_ids_refusal, item_refusal, parents_refusal, generation_refusal}
use Rattle.gix_commitgraph.specs.Verify.{commit_points, cause_of}
use Rattle.gix_commitgraph.specs.LayerSpans.{IsSpan, IsInSpan}
use Rattle.graph_format.specs.declared.Position.{Position}
use Rattle.graph_layer.specs.declared.file.commit.Commit.{Commit}
use Rattle.graph_format.specs.declared.parents.ParentError.{ParentError}
use Rattle.gix_commitgraph.specs.declared.verify.VerifyError.{VerifyError}
use Rattle.gix_commitgraph.specs.declared.verify.VerifyOptions.{VerifyOptions}
use Rattle.gix_commitgraph.specs.declared.verify.VerifyError.TheVariants as error
use Rattle.gix_commitgraph.specs.declared.verify.span.LayerSpan.{LayerSpan}
use Rattle.graph_format.proofs.PointLemmas.{Reaches, reached_start, reached_past_check, refused_at_check, reached_past_call}
use Rattle.graph_format.proofs.PointLemmas.{stopped_at_call, passed}

-- what holds of each refusal that may be found holds of the first one
pub first_some-holds : {A X : Type 0} (P : X → Type 0) (h : A → Option X) → ((a : A) (x : X) → h a ≡ Some x → P x)
    → (items : List A) (x : X) → Some x ≡ first_some (map h items) → P x
first_some-holds P h each [] x found = cc
first_some-holds {A} {X} P h each (a ∷ items) x found = by_head (h a) refl (first_some-holds P h each items x) found
  where
    by_head : (o : Option X) → h a ≡ o → (Some x ≡ first_some (map h items) → P x) → Some x ≡ first_some (o ∷ map h items) → P x
    by_head None is others found = others found
    by_head (Some y) is others found = each a x (is ∙ sym found)

-- a refusal that is no answer of the processor, where a test finds it
pub cause_of-when : {E : Type 0} (b : Bool) (y x : VerifyError E) → cause_of y ≡ refused y → (y when b) ≡ Some x
    → cause_of x ≡ refused x
cause_of-when true y x is found = let same : x ≡ y = cc in rw same is
cause_of-when false y x is found = cc

-- what is found at a parent is no answer of the processor
cause_of-parents : {E : Type 0} (p stop : ℕ) (items : List (Result Position ParentError)) (x : VerifyError E)
    → Some x ≡ first_some (map (item_refusal p stop) items) → cause_of x ≡ refused x
cause_of-parents {E} p stop = first_some-holds (λ x. cause_of x ≡ refused x) (item_refusal p stop) each
  where
    each : (item : Result Position ParentError) (x : VerifyError E) → item_refusal p stop item ≡ Some x → cause_of x ≡ refused x
    each (Ok q) x found = cause_of-when (not (nat_lt q.0 stop)) _ x refl found
    each (Err e) x found = let same : x ≡ error.Parent (position_of p) e = cc in rw same refl

-- what one of two conditions names, each of which names no answer of the processor
cause_of-otherwise : {E : Type 0} (o rest : Option (VerifyError E)) → ((x : VerifyError E) → o ≡ Some x → cause_of x ≡ refused x)
    → ((x : VerifyError E) → rest ≡ Some x → cause_of x ≡ refused x)
    → (x : VerifyError E) → (o otherwise rest) ≡ Some x → cause_of x ≡ refused x
cause_of-otherwise None rest first second x found = second x found
cause_of-otherwise (Some y) rest first second x found = first x found

cause_of-mapped : {E A : Type 0} (f : A → VerifyError E) → ((a : A) → cause_of (f a) ≡ refused (f a))
    → (o : Option A) (x : VerifyError E) → option_map f o ≡ Some x → cause_of x ≡ refused x
cause_of-mapped f each None x found = cc
cause_of-mapped f each (Some a) x found = let same : x ≡ f a = cc in rw same (each a)

cause_of-asked : {E A : Type 0} (f : A → VerifyError E) → ((a : A) → cause_of (f a) ≡ refused (f a))
    → (asked : Bool) (o : Option A) (x : VerifyError E) → (if asked then option_map f o else None) ≡ Some x
    → cause_of x ≡ refused x
cause_of-asked f each true o x found = cause_of-mapped f each o x found
cause_of-asked f each false o x found = cc

-- what is found at the ids is no answer of the processor
cause_of-ids : {E : Type 0} (options : VerifyOptions) (layers : List Layer) (i : ℕ) (layer : Layer) (pos : ℕ) (x : VerifyError E)
    → Some x ≡ commit_ids_refusal options layers i layer pos → cause_of x ≡ refused x
cause_of-ids {E} options layers i layer pos x found =
    let p = position_of (start layers i + pos) in
    cause_of-otherwise _ _ (cause_of-mapped (error.Commit p) (λ a. refl) (id_fault layer pos))
    (cause_of-otherwise _ _ (cause_of-asked (λ (earlier : ℕ). error.DuplicateId p (position_of earlier)) (λ a. refl)
    options.distinct_ids (scan (graph_ids (take i layers)) (id_at layer pos)))
    (cause_of-mapped (error.Commit p) (λ a. refl) (tree_fault layer pos))) x (sym found)

pub wrong_generation : {E : Type 0} (history : List Node) (p stored expected : ℕ) → stored ≡ generation_at history p
    → expected ≡ expected_generation history p
    → (stored ≡ expected → ⊥) → generation_refusal {E = E} history p ≡ Some (error.Generation (position_of p) expected)
wrong_generation {E} history p stored expected is_stored is_expected differs =
    let test : (generation_at history p == expected_generation history p) ≡ false = ne_eqb _ _ (λ same.
    differs (is_stored ∙ same ∙ sym is_expected)) in
    rw (is_expected, test) refl

pub right_generation : {E : Type 0} (history : List Node) (p stored expected : ℕ) → stored ≡ generation_at history p
    → expected ≡ expected_generation history p
    → stored ≡ expected → generation_refusal {E = E} history p ≡ None
right_generation {E} history p stored expected is_stored is_expected same =
    let test : (generation_at history p == expected_generation history p) ≡ true =
    eq-eqb _ _ (sym is_stored ∙ same ∙ is_expected) in
    rw test refl

-- the number that the code comes to
pub expected-is : (history : List Node) (p most more expected : ℕ)
    → most ≡ greatest (map (generation_at history) (parents_at history p))
    → more ≡ min (most + 1) 4294967295 → expected ≡ min more 1073741823 → expected ≡ expected_generation history p
unfolding expected_generation
expected-is history p most more expected is_most is_more is = omega arith

-- The commit at p of a layer, point by point.
module _ {F E : Type 0} (step : F → ℕ → Result (Unit {0}) E → F → Type 0) (f : F) (options : VerifyOptions) (layers : List Layer)
    (span : LayerSpan) (commit : Commit) (p : ℕ) (is : IsSpan layers span) (at : IsInSpan span commit p) where
  abbrev points : List (Point (VerifyError E))
  points = commit_points options layers span.layer span.file.now (commit_pos commit)

  at_ids : Reaches step points f (
      check (commit_ids_refusal options layers span.layer span.file.now (commit_pos commit))
      ∷ check (parents_refusal layers span.layer span.file.now (commit_pos commit))
      ∷ check (generation_refusal (history_of layers) p)
      ∷ call p
      ∷ []) f
  at_ids =
      let here : start layers span.layer + commit_pos commit ≡ p = omega (arith, is.start, at.at) in
      let from : ℕ → List (Point (VerifyError E)) = λ q.
      check (commit_ids_refusal options layers span.layer span.file.now (commit_pos commit))
      ∷ check (parents_refusal layers span.layer span.file.now (commit_pos commit))
      ∷ check (generation_refusal (history_of layers) q)
      ∷ call q
      ∷ [] in
      let P : List (Point (VerifyError E)) → Type 0 = λ rest. Reaches step points f rest f in
      subst P (ap from here) (reached_start step points f)

  pub refused_by_ids : (x : VerifyError E)
      → Some x ≡ commit_ids_refusal options layers span.layer span.file.now (commit_pos commit)
      → StopsBy step points f f (cause_of x)
  refused_by_ids x some =
      rw (cause_of-ids options layers span.layer span.file.now (commit_pos commit) x some)
      (refused_at_check step points f _ _ f x (sym some) at_ids)

  module _ (ids : None ≡ commit_ids_refusal {E = E} options layers span.layer span.file.now (commit_pos commit)) where
    at_parents : Reaches step points f
        (check (parents_refusal layers span.layer span.file.now (commit_pos commit)) ∷ check
        (generation_refusal (history_of layers) p) ∷ call p ∷ []) f
    at_parents = reached_past_check step points f _ _ f (sym ids) at_ids

    pub refused_by_parents : (x : VerifyError E) → Some x ≡ parents_refusal layers span.layer span.file.now (commit_pos commit)
        → StopsBy step points f f (cause_of x)
    refused_by_parents x some =
        rw (cause_of-parents (start layers span.layer + commit_pos commit) (stop layers span.layer)
        (items_of (parents_of (record_at span.file.now (commit_pos commit)) span.file.now.edges)) x some)
        (refused_at_check step points f _ _ f x (sym some) at_parents)

    module _ (parents : None ≡ parents_refusal {E = E} layers span.layer span.file.now (commit_pos commit)) where
      at_generation : Reaches step points f (check (generation_refusal (history_of layers) p) ∷ call p ∷ []) f
      at_generation = reached_past_check step points f _ _ f (sym parents) at_parents

      pub refused_by_generation : (x : VerifyError E) → generation_refusal (history_of layers) p ≡ Some x
          → IsRefused step points f f x
      refused_by_generation x some = refused_at_check step points f _ _ f x some at_generation

      module _ (generation : generation_refusal {E = E} (history_of layers) p ≡ None) (g : F) where
        at_call : Reaches step points f (call p ∷ []) f
        at_call = reached_past_check step points f _ _ f generation at_generation

        pub stopped_by_processor : (e : E) → step f p (Err e) g → StopsAtCall step points f g p e
        stopped_by_processor e called = stopped_at_call step points f p e [] f g called at_call

        pub commit_passed : step f p (Ok tt) g → PassesAll step points f g
        commit_passed called = passed step points f g (reached_past_call step points f p [] f g called at_call)
