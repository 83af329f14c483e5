-- How the check of a graph goes over the points of one layer.
use Rattle.std.proofs.Common.{◌≡◌, ℕ, suc, ◌+◌, ◌-◌, ◌<◌, ◌≤◌, Bool, true, false, not, ◌==◌, List, [], ◌∷◌, ◌++◌, map, length}
use Rattle.std.proofs.Common.{Some, None, option_map, Result, bytes_eq, refl, sym, ap, subst, ◌∙◌, arith, ⊎_elim}
use Rattle.std.specs.List.{flat_map, range_with_len}
use Rattle.std.specs.Fn.{Mut}
use Rattle.std.proofs.lemmas.Bool.{cases_lt}
use denote.Ref.{Bor}
use Rattle.gix_chunk_core.specs.FirstFault.{◌when◌, ◌otherwise◌, first_below}
use Rattle.gix_chunk_core.proofs.FirstFaultLemmas.{first_below-least}
use Rattle.graph_format.specs.Layer.{Layer}
use Rattle.graph_layer.specs.Commit.{commit_pos, layer_and_position}
use Rattle.graph_format.specs.Layer.{positions_from}
use Rattle.graph_format.specs.Faults.{layer_fault}
use Rattle.graph_layer.specs.Called.{CalledOn}
use Rattle.gix_commitgraph.specs.InGraph.{InGraph}
use Rattle.graph_format.specs.Points.{Point, check, Cause, refused, StopsBy, PassesAll}
use Rattle.gix_commitgraph.specs.Verify.{base_at, checksum_at, base_refusal, base_ids_refusal, commit_points, layer_points}
use Rattle.gix_commitgraph.specs.Verify.{cause_of}
use Rattle.gix_commitgraph.specs.LayerSpans.{IsInSpan}
use Rattle.graph_layer.specs.declared.file.commit.Commit.{Commit}
use Rattle.gix_commitgraph.specs.declared.verify.VerifyError.{VerifyError}
use Rattle.gix_commitgraph.specs.declared.verify.VerifyOptions.{VerifyOptions}
use Rattle.gix_commitgraph.specs.declared.verify.VerifyError.TheVariants as error
use Rattle.gix_commitgraph.specs.declared.verify.span.LayerSpan.{LayerSpan}
use Rattle.graph_format.proofs.PointLemmas.{Reaches, reached_start, reached_past_check, refused_at_check, passed}
use Rattle.graph_format.proofs.PointLemmas.{reached_past_part, stops_in_part}
use Rattle.graph_layer.proofs.ElementLemmas.{range-next}
use Rattle.gix_commitgraph.proofs.check.CommitCheckLemmas.{cause_of-when}

-- what is found at the base ids is no answer of the processor
cause_of-bases : {E : Type 0} (layers : List Layer) (i : ℕ) (layer : Layer) (x : VerifyError E)
    → Some x ≡ base_ids_refusal layers i layer → cause_of x ≡ refused x
cause_of-bases {E} layers i layer x = by_count (not (length layer.bases == i))
  where
    by_count : (b : Bool) → Some x ≡ (error.BaseCount i when b otherwise first_below (base_refusal layers i layer) i)
        → cause_of x ≡ refused x
    by_count true found = let same : x ≡ error.BaseCount i = cc in rw same refl
    by_count false found =
        let at = first_below-least (base_refusal layers i layer) i x (sym found) in
        cause_of-when (not (bytes_eq (base_at layer at.0) (checksum_at layers at.0))) (error.BaseId i at.0) x refl at.1.gives

-- A commit of a layer is the first of the positions that are left from the q-th on. It stands at p.
pub record IsTurn (span : LayerSpan) (commit : Commit) (q p : ℕ) (rest : List (Layer × ℕ)) : Type 0 where
  pub below : q < length span.file.now.ids
  pub in_span : IsInSpan span commit p
  pub pos : commit_pos commit ≡ q
  pub left : rest ≡ positions_from span.file.now (q + 1)

pub turn : (span : LayerSpan) (commit : Commit) (q p pos : ℕ) (left rest : List (Layer × ℕ))
    → left ≡ positions_from span.file.now q → left ≡ layer_and_position commit ∷ rest
    → pos ≡ commit_pos commit → p ≡ span.start + pos → IsTurn span commit q p rest
turn span commit q p pos left rest is taken is_pos is_p =
    let layer : Layer = span.file.now in
    ⊎_elim
    (λ (below : q < length layer.ids).
    let next : layer_and_position commit ∷ rest ≡ (layer, q) ∷ positions_from layer (q + 1) = sym taken ∙ is
    ∙ range-next (λ (pos : ℕ). (layer, pos)) q (length layer.ids) below in
    let first : layer_and_position commit ≡ (layer, q) = cc in
    let at : commit_pos commit ≡ q = ap (λ (place : Layer × ℕ). place.1) first in
    record {
      below = below;
      in_span = record { layer = ap (λ (place : Layer × ℕ). place.0) first; at = omega arith };
      pos = at;
      left = cc;
    })
    (λ (past : length layer.ids ≤ q).
    let none : length layer.ids - q ≡ 0 = omega arith in
    let empty : positions_from layer q ≡ [] = ap (λ (n : ℕ). map (λ (pos : ℕ). (layer, pos)) (range_with_len q n)) none in
    let never : layer_and_position commit ∷ rest ≡ [] = sym taken ∙ is ∙ empty in
    absurd (cc))
    (cases_lt q (length layer.ids))

pub place-none : (layer : Layer) (q : ℕ) (left : List (Layer × ℕ)) → left ≡ positions_from layer q → left ≡ []
    → length layer.ids ≤ q
place-none layer q left is none = ⊎_elim
    (λ (below : q < length layer.ids).
    let next : [] ≡ (layer, q) ∷ positions_from layer (q + 1) = sym none ∙ is
    ∙ range-next (λ (pos : ℕ). (layer, pos)) q (length layer.ids) below in
    cc)
    (λ (past : length layer.ids ≤ q). past)
    (cases_lt q (length layer.ids))

-- the points of the commits of a layer from the q-th on
abbrev pub commits_from : {E : Type 0} → VerifyOptions → List Layer → ℕ → Layer → ℕ → List (Point (VerifyError E))
commits_from options layers i layer q = flat_map (commit_points options layers i layer) (range_with_len q (length layer.ids - q))

commits_from-next : {E : Type 0} (options : VerifyOptions) (layers : List Layer) (i : ℕ) (layer : Layer) (q : ℕ)
    → q < length layer.ids
    → commits_from {E = E} options layers i layer q
    ≡ commit_points options layers i layer q ++ commits_from options layers i layer (q + 1)
commits_from-next {E} options layers i layer q within =
    let more : length layer.ids - q ≡ suc (length layer.ids - (q + 1)) = omega arith in
    let from : ℕ → List (Point (VerifyError E)) = λ n. flat_map (commit_points options layers i layer) (range_with_len q n) in
    ap from more

commits_from-end : {E : Type 0} (options : VerifyOptions) (layers : List Layer) (i : ℕ) (layer : Layer) (q : ℕ)
    → length layer.ids ≤ q → commits_from {E = E} options layers i layer q ≡ []
commits_from-end {E} options layers i layer q past =
    let none : length layer.ids - q ≡ 0 = omega arith in
    let from : ℕ → List (Point (VerifyError E)) = λ n. flat_map (commit_points options layers i layer) (range_with_len q n) in
    ap from none

-- A layer, point by point.
module _ {F E : Type 0} (processor : Mut F (Bor Commit × Unit {0}) (Result (Unit {0}) E)) (options : VerifyOptions)
    (layers : List Layer) (span : LayerSpan) (f : F) where
  abbrev here : List (Point (VerifyError E))
  here = layer_points options layers span.layer span.file.now

  -- The check of the layer has come to its q-th commit.
  abbrev pub ReachesCommit : ℕ → F → Type 0
  ReachesCommit q g =
      Reaches (CalledOn processor (InGraph layers)) here f (commits_from options layers span.layer span.file.now q) g

  pub refused_by_bases : (x : VerifyError E) → Some x ≡ base_ids_refusal layers span.layer span.file.now
      → StopsBy (CalledOn processor (InGraph layers)) here f f (cause_of x)
  refused_by_bases x some =
      rw (cause_of-bases layers span.layer span.file.now x some)
      (refused_at_check (CalledOn processor (InGraph layers)) here f _ _ f x (sym some) (reached_start _ here f))

  module _ (bases : None ≡ base_ids_refusal {E = E} layers span.layer span.file.now) where
    at_layer : Reaches (CalledOn processor (InGraph layers)) here f
        (check (option_map (error.Layer span.layer) (layer_fault span.file.now)) ∷ commits_from options layers span.layer
        span.file.now 0) f
    at_layer =
        let all : length span.file.now.ids ≡ length span.file.now.ids - 0 = omega arith in
        let P : ℕ → Type 0 = λ n.
        Reaches (CalledOn processor (InGraph layers)) here f
        (check (option_map (error.Layer span.layer) (layer_fault span.file.now)) ∷ flat_map
        (commit_points options layers span.layer span.file.now) (range_with_len 0 n)) f in
        subst P all (reached_past_check (CalledOn processor (InGraph layers)) here f _ _ f (sym bases) (reached_start _ here f))

    pub reached_first : None ≡ layer_fault span.file.now → ReachesCommit 0 f
    reached_first none =
        reached_past_check (CalledOn processor (InGraph layers)) here f _ _ f
        (ap (option_map (error.Layer span.layer)) (sym none)) at_layer

  module _ (q : ℕ) (commit : Commit) (is : commit_pos commit ≡ q) (within : q < length span.file.now.ids) (g h : F)
      (reached : ReachesCommit q g) where
    abbrev part : List (Point (VerifyError E))
    part = commit_points options layers span.layer span.file.now (commit_pos commit)

    at_commit : Reaches (CalledOn processor (InGraph layers)) here f
        (part ++ commits_from options layers span.layer span.file.now (q + 1)) g
    at_commit =
        let same : commits_from {E = E} options layers span.layer span.file.now q
        ≡ part ++ commits_from options layers span.layer span.file.now (q + 1) =
        commits_from-next options layers span.layer span.file.now q within
        ∙ ap (λ (pos : ℕ). commit_points {E = E} options layers span.layer span.file.now pos ++ commits_from options layers
        span.layer span.file.now (q + 1)) (sym is) in
        rw same at reached

    pub stops_at_commit : (s : Cause (VerifyError E) E) → StopsBy (CalledOn processor (InGraph layers)) part g h s
        → StopsBy (CalledOn processor (InGraph layers)) here f h s
    stops_at_commit s r =
        stops_in_part _ _ f part (commits_from options layers span.layer span.file.now (q + 1)) g h at_commit s r

    pub reached_next : PassesAll (CalledOn processor (InGraph layers)) part g h → ReachesCommit (q + 1) h
    reached_next passes =
        reached_past_part _ _ f part (commits_from options layers span.layer span.file.now (q + 1)) g h at_commit passes

  -- behind the last commit the layer is passed
  pub layer_passed : (q : ℕ) (g : F) → length span.file.now.ids ≤ q → ReachesCommit q g
      → PassesAll (CalledOn processor (InGraph layers)) here f g
  layer_passed q g past reached =
      let P : List (Point (VerifyError E)) → Type 0 = λ rest. Reaches (CalledOn processor (InGraph layers)) here f rest g in
      passed (CalledOn processor (InGraph layers)) here f g (subst P
      (commits_from-end options layers span.layer span.file.now q past) reached)
