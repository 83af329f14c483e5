-- On how many commits a check calls the processor: as many as stand before the place of the first fault.
use Rattle.std.proofs.Common.{◌≡◌, ℕ, zero, suc, ◌+◌, Bool, true, false, if◌then◌else◌, List, [], ◌∷◌, ◌++◌, length, map}
use Rattle.std.proofs.Common.{Option, Some, None, Result, Ok, Err, refl, sym, ap, subst, ◌∙◌, arith, ◌<◌, ◌≤◌, min, ⊎_elim}
use Rattle.std.specs.Prelude.{⊤}
use Rattle.std.specs.List.{flat_map, range_with_len, enumerate_from}
use Rattle.std.specs.Option.{option_map}
use Rattle.std.proofs.lemmas.Bool.{cases_lt}
use Rattle.std.proofs.lemmas.List.FromFn.{length-range_with_len}
use Rattle.std.proofs.lemmas.Option.{same_Some}
use Rattle.gix_chunk_core.specs.FirstFault.{◌when◌, ◌otherwise◌, first_below}
use Rattle.graph_format.specs.Layer.{Layer}
use Rattle.graph_format.specs.Points.{Point, check, call, first_some, first_fault, calls, calls_before_fault}
use Rattle.graph_format.specs.declared.Position.{Position}
use Rattle.graph_format.specs.declared.parents.ParentError.{ParentError}
use Rattle.graph_format.proofs.CallRangeLemmas.{calls-range}
use Rattle.graph_history.specs.Checked.{MayRefuseWith}
use Rattle.graph_ancestors.specs.declared.checking.NoFault.{NoFault}
use Rattle.gix_commitgraph.specs.Graph.{start, stop}
use Rattle.gix_commitgraph.specs.Verify.{base_ids_refusal, commit_points, commit_ids_refusal, item_refusal}
use Rattle.gix_commitgraph.specs.Verify.{layer_points, points_with}
use Rattle.gix_commitgraph.specs.declared.verify.VerifyError.{VerifyError}
use Rattle.gix_commitgraph.specs.declared.verify.VerifyError.TheVariants as error
use Rattle.gix_commitgraph.specs.declared.verify.VerifyOptions.{VerifyOptions}
use Rattle.gix_commitgraph.proofs.layers.LayerListLemmas.{size, start-none, start-cons, start-all}
use Rattle.graph_format.specs.declared.fault.CommitFault.TheVariants as commit
use Rattle.graph_format.specs.declared.fault.LayerFault.TheVariants as layer
use Rattle.graph_format.specs.declared.parents.ParentError.TheVariants as parent
use Rattle.c_opening.specs.Codes.{out_of_memory}
use Rattle.c_opening.specs.Verdict.{TellsCalls, commits_before, refusal_of, with_calls}
use Rattle.c_opening.specs.declared.check.CgVerdict.{CgVerdict}

-- the commits below a layer, where there may be fewer layers
pub start-min : (layers : List Layer) (n k : ℕ) → k ≡ min n (length layers) → start layers k ≡ start layers n
start-min layers n k e = ⊎_elim
    (λ (below : n < length layers). ap (start layers) (e ∙ omega (arith, below)))
    (λ (past : length layers ≤ n). start-all layers k (omega (arith, e, past)) ∙ sym (start-all layers n past))
    (cases_lt n (length layers))

abbrev pub Fault : Type 0
Fault = VerifyError NoFault

module _ (layers : List Layer) where
  -- a fault that is there stands behind n commits
  abbrev pub StandsAt : ℕ → Option Fault → Type 0
  StandsAt n o = (x : Fault) → o ≡ Some x → commits_before layers x ≡ n

  -- each fault of these points stands behind n commits, and those that the points before it call on
  abbrev pub ArePlaced : ℕ → List (Point Fault) → Type 0
  ArePlaced n [] = ⊤
  ArePlaced n (check o ∷ points) = StandsAt n o × ArePlaced n points
  ArePlaced n (call p ∷ points) = ArePlaced (suc n) points

  pub placed-first : (n : ℕ) (points : List (Point Fault)) (x : Fault) → ArePlaced n points → first_fault points ≡ Some x
      → commits_before layers x ≡ n + length (calls_before_fault points)
  placed-first n [] x placed h = cc
  placed-first n (check None ∷ points) x placed h = placed-first n points x placed.1 h
  placed-first n (check (Some y) ∷ points) x placed h = placed.0 x h ∙ omega arith
  placed-first n (call p ∷ points) x placed h = placed-first (suc n) points x placed h ∙ omega arith

  placed-append : (n : ℕ) (a b : List (Point Fault)) → ArePlaced n a → ArePlaced (n + length (calls a)) b → ArePlaced n (a ++ b)
  placed-append n [] b p q = subst (λ (m : ℕ). ArePlaced m b) (omega arith) q
  placed-append n (check o ∷ a) b p q = (p.0, placed-append n a b p.1 q)
  placed-append n (call c ∷ a) b p q =
      placed-append (suc n) a b p (subst (λ (m : ℕ). ArePlaced m b) (omega arith) q)

  -- the forms that a fault may have
  when-at : (n : ℕ) (y : Fault) (test : Bool) → commits_before layers y ≡ n → StandsAt n (y when test)
  when-at n y true at = λ x h. ap (commits_before layers) (sym (same_Some y x h)) ∙ at
  when-at n y false at = λ x h. cc

  otherwise-at : (n : ℕ) (a b : Option Fault) → StandsAt n a → StandsAt n b → StandsAt n (a otherwise b)
  otherwise-at n None b p q = q
  otherwise-at n (Some y) b p q = p

  map-at : {Y : Type 0} (n : ℕ) (f : Y → Fault) (o : Option Y) → ((y : Y) → commits_before layers (f y) ≡ n)
      → StandsAt n (option_map f o)
  map-at n f None at = λ x h. cc
  map-at n f (Some y) at = λ x h. ap (commits_before layers) (sym (same_Some (f y) x h)) ∙ at y

  below-at : (n : ℕ) (f : ℕ → Option Fault) (k : ℕ) → ((j : ℕ) → StandsAt n (f j)) → StandsAt n (first_below f k)
  unfolding first_below
  below-at n f zero at = λ x h. cc
  below-at n f (suc k) at = otherwise-at n (first_below f k) (f k) (below-at n f k at) (at k)

  one-of : (n : ℕ) (o : Option Fault) (os : List (Option Fault)) → StandsAt n o → StandsAt n (first_some os)
      → StandsAt n (first_some (o ∷ os))
  one-of n None os p q = q
  one-of n (Some x) os p q = p

  some-at : {Y : Type 0} (n : ℕ) (f : Y → Option Fault) (ys : List Y) → ((y : Y) → StandsAt n (f y))
      → StandsAt n (first_some (map f ys))
  some-at n f [] at = λ x h. cc
  some-at n f (y ∷ ys) at = one-of n (f y) (map f ys) (at y) (some-at n f ys at)

  if-at : (n : ℕ) (test : Bool) (o : Option Fault) → StandsAt n o → StandsAt n (if test then o else None)
  if-at n true o p = p
  if-at n false o p = λ x h. cc

  item-at : (p end : ℕ) (item : Result Position ParentError) → StandsAt p (item_refusal p end item)
  item-at p end (Ok parent) = when-at p _ _ refl
  item-at p end (Err fault) = λ x h. ap (commits_before layers) (sym (same_Some _ x h))

  module _ (options : VerifyOptions) where
    ids-at : (i : ℕ) (layer : Layer) (pos : ℕ) → StandsAt (start layers i + pos) (commit_ids_refusal options layers i layer pos)
    ids-at i layer pos =
        otherwise-at _ _ _ (map-at _ _ _ (λ y. refl))
        (otherwise-at _ _ _ (if-at _ options.distinct_ids _ (map-at _ _ _ (λ y. refl))) (map-at _ _ _ (λ y. refl)))

    commit-placed : (i : ℕ) (layer : Layer) (pos : ℕ)
        → ArePlaced (start layers i + pos) (commit_points options layers i layer pos)
    commit-placed i layer pos =
        (ids-at i layer pos, (some-at _ _ _ (item-at (start layers i + pos) (stop layers i)), (when-at _ _ _ refl, tt)))

    commits-placed : (i : ℕ) (layer : Layer) (k n : ℕ)
        → ArePlaced (start layers i + k) (flat_map (commit_points options layers i layer) (range_with_len k n))
    commits-placed i layer k zero = tt
    commits-placed i layer k (suc n) =
        placed-append (start layers i + k) (commit_points options layers i layer k)
        (flat_map (commit_points options layers i layer) (range_with_len (k + 1) n)) (commit-placed i layer k)
        (subst
        (λ (m : ℕ). ArePlaced m (flat_map (commit_points options layers i layer) (range_with_len (k + 1) n))) (omega arith)
        (commits-placed i layer (k + 1) n))

    bases-at : (i : ℕ) (layer : Layer) → StandsAt (start layers i) (base_ids_refusal layers i layer)
    bases-at i layer = otherwise-at _ _ _ (when-at _ _ _ refl) (below-at _ _ i (λ j. when-at _ _ _ refl))

    layer-placed : (i : ℕ) (layer : Layer) → ArePlaced (start layers i) (layer_points options layers i layer)
    layer-placed i layer = (
      bases-at i layer,
      (
        map-at _ _ _ (λ y. refl),
        subst
            (λ (m : ℕ). ArePlaced m (flat_map (commit_points options layers i layer) (range_with_len 0 (size layer))))
            (omega arith)
            (commits-placed i layer 0 (size layer)),
      ),
    )

    layer-calls : (i : ℕ) (layer : Layer) → length (calls (layer_points {E = NoFault} options layers i layer)) ≡ size layer
    layer-calls i layer =
        ap length (calls-range (commit_points {E = NoFault} options layers i layer) (start layers i) (λ pos. refl) 0 (size layer))
        ∙ length-range_with_len (start layers i + 0) (size layer)

    layers-placed : (rest : List Layer) (i : ℕ) → ((j : ℕ) → start layers (i + j) ≡ start layers i + start rest j)
        → ArePlaced (start layers i) (flat_map (λ e. layer_points options layers e.0 e.1) (enumerate_from i rest))
    layers-placed [] i follow = tt
    layers-placed (layer ∷ rest) i follow =
        let next : start layers (i + 1) ≡ start layers i + size layer =
        follow 1 ∙ ap (λ (n : ℕ). start layers i + n) (start-cons layer rest 0 ∙ ap (λ (n : ℕ). size layer + n) (start-none rest)
        ∙ omega arith) in
        let follow_next : (j : ℕ) → start layers (i + 1 + j) ≡ start layers (i + 1) + start rest j =
        λ j. ap (start layers) (omega arith) ∙ follow (suc j) ∙ omega (arith, next, start-cons layer rest j) in
        placed-append (start layers i) (layer_points options layers i layer)
        (flat_map (λ e. layer_points options layers e.0 e.1) (enumerate_from (i + 1) rest)) (layer-placed i layer)
        (subst
        (λ (m : ℕ). ArePlaced m (flat_map (λ e. layer_points options layers e.0 e.1) (enumerate_from (i + 1) rest)))
        (next ∙ ap (λ (n : ℕ). start layers i + n) (sym (layer-calls i layer)))
        (layers-placed rest (i + 1) follow_next))

    -- the check of a graph
    graph-placed : ArePlaced 0 (points_with options layers)
    graph-placed =
        let none : start layers 0 ≡ 0 = start-none layers in
        let follow : (j : ℕ) → start layers (0 + j) ≡ start layers 0 + start layers j =
        λ j. let same : 0 + j ≡ j = omega arith in ap (start layers) same ∙ omega (arith, none) in (
          when-at 0 _ _ refl,
          subst (λ (m : ℕ). ArePlaced m (flat_map (λ e. layer_points options layers e.0 e.1) (enumerate_from 0 layers))) none
              (layers-placed layers 0 follow),
        )

    pub calls-before : (x : Fault) → first_fault (points_with options layers) ≡ Some x
        → commits_before layers x ≡ length (calls_before_fault (points_with {E = NoFault} options layers))
    calls-before x h = placed-first 0 (points_with options layers) x graph-placed h ∙ omega arith

    -- a fault of a code that is neither 0 nor that for memory
    told-fault : (x : Fault) (v : CgVerdict) (code : ℕ) → first_fault (points_with options layers) ≡ Some x
        → v.called ≡ commits_before layers x → v.code ≡ code → ¬ (code ≡ 0) → ¬ (code ≡ out_of_memory)
        → TellsCalls options layers v
    told-fault x v code first called is fault memory = record {
      all = λ zero. absurd (fault (sym is ∙ zero));
      before = λ _ _. called ∙ calls-before x first;
      none = λ one. absurd (memory (sym is ∙ one));
    }

    -- a refusal tells on how many commits the processor is called
    pub told-calls : (x : Fault) (v : CgVerdict) → MayRefuseWith options layers x
        → v ≡ with_calls (commits_before layers x) (refusal_of x) → TellsCalls options layers v
    told-calls x v may is = by x may (ap (λ (w : CgVerdict). w.called) is) (ap (λ (w : CgVerdict). w.code) is)
      where
        by : (x : Fault) → MayRefuseWith options layers x → v.called ≡ commits_before layers x → v.code ≡ (refusal_of x).code
            → TellsCalls options layers v
        by error.TooManyFiles may called is =
            told-fault error.TooManyFiles v 301 may.0 called is (λ e. cc) (λ e. cc)
        by (error.BaseCount l) may called is =
            told-fault (error.BaseCount l) v 302 may.0 called is (λ e. cc) (λ e. cc)
        by (error.BaseId l j) may called is =
            told-fault (error.BaseId l j) v 303 may.0 called is (λ e. cc) (λ e. cc)
        by (error.Layer l layer.Checksum) may called is =
            told-fault (error.Layer l layer.Checksum) v 341 may.0 called is (λ e. cc) (λ e. cc)
        by (error.Layer l layer.FileName) may called is =
            told-fault (error.Layer l layer.FileName) v 342 may.0 called is (λ e. cc) (λ e. cc)
        by (error.Layer l (layer.Fan byte)) may called is =
            told-fault (error.Layer l (layer.Fan byte)) v 343 may.0 called is (λ e. cc) (λ e. cc)
        by (error.Commit p commit.NullId) may called is =
            told-fault (error.Commit p commit.NullId) v 351 may.0 called is (λ e. cc) (λ e. cc)
        by (error.Commit p commit.Order) may called is =
            told-fault (error.Commit p commit.Order) v 352 may.0 called is (λ e. cc) (λ e. cc)
        by (error.Commit p commit.NullTree) may called is =
            told-fault (error.Commit p commit.NullTree) v 353 may.0 called is (λ e. cc) (λ e. cc)
        by (error.Parent p parent.SecondWithoutFirst) may called is =
            told-fault (error.Parent p parent.SecondWithoutFirst) v 361 may.0 called is (λ e. cc) (λ e. cc)
        by (error.Parent p parent.FirstIsEdgeIndex) may called is =
            told-fault (error.Parent p parent.FirstIsEdgeIndex) v 362 may.0 called is (λ e. cc) (λ e. cc)
        by (error.Parent p parent.NoEdgeList) may called is =
            told-fault (error.Parent p parent.NoEdgeList) v 363 may.0 called is (λ e. cc) (λ e. cc)
        by (error.Parent p parent.EdgeOverflow) may called is =
            told-fault (error.Parent p parent.EdgeOverflow) v 364 may.0 called is (λ e. cc) (λ e. cc)
        by (error.ParentOutOfRange p q) may called is =
            told-fault (error.ParentOutOfRange p q) v 307 may.0 called is (λ e. cc) (λ e. cc)
        by (error.Generation p g) may called is =
            told-fault (error.Generation p g) v 308 may.0 called is (λ e. cc) (λ e. cc)
        by (error.Processor p f) may called is = absurd may
        by error.OutOfMemory may called is =
            record { all = λ e. absurd (cc); before = λ _ one. absurd (one is); none = λ _. called }
        by (error.DuplicateId p q) may called is =
            told-fault (error.DuplicateId p q) v 311 may.0 called is (λ e. cc) (λ e. cc)
