-- how the check of a layer goes over its points
use Rattle.std.proofs.Common.{◌≡◌, ◌+◌, ◌-◌, ◌^◌, ◌<◌, ◌≤◌, ℕ, suc, ◌++◌, subst, Result, Ok, Err, Some, None, option_map, List}
use Rattle.std.proofs.Common.{[], ◌∷◌, length, refl, sym, ap, arith}
use Rattle.std.specs.List.{flat_map, range_with_len}
use Rattle.std.specs.Fn.{Mut, Called}
use denote.Ref.{Bor}
use Rattle.graph_format.specs.Layer.{Layer, record_at}
use Rattle.graph_layer.specs.Commit.{commit_layer, commit_pos, commit_record, commit_parents}
use Rattle.graph_layer.specs.Called.{CalledOn, InLayer}
use Rattle.graph_format.specs.Parents.{parents_of}
use Rattle.graph_format.specs.Points.{Point, check, call, PassesAll, IsRefused, StopsAtCall, StopsBy, Cause, refused}
use Rattle.graph_layer.specs.Traverse.{layer_refusal, commit_refusal, parent_refusal, traverse_points_at, traverse_points}
use Rattle.graph_layer.specs.Traverse.{traverse_cause}
use Rattle.graph_format.specs.Faults.{layer_fault, commit_fault}
use Rattle.graph_layer.specs.declared.file.commit.Commit.{Commit}
use Rattle.graph_format.specs.declared.parents.ParentError.{ParentError}
use Rattle.graph_format.specs.declared.fault.LayerFault.{LayerFault}
use Rattle.graph_format.specs.declared.fault.LayerFault.TheVariants.{Checksum, FileName, Fan}
use Rattle.graph_format.specs.declared.fault.CommitFault.{CommitFault}
use Rattle.graph_format.specs.declared.fault.CommitFault.TheVariants.{NullId, Order, NullTree}
use Rattle.graph_layer.specs.declared.file.verify.TraverseError.{TraverseError}
use Rattle.graph_layer.specs.declared.file.verify.TraverseError.TheVariants as error
use Rattle.graph_layer.proofs.ParentCountLemmas.{HasFew, few_parents}
use Rattle.graph_format.proofs.PointLemmas.{Reaches, reached_start, reached_past_check, refused_at_check, reached_past_call}
use Rattle.graph_format.proofs.PointLemmas.{stopped_at_call, passed, reached_past_part, stops_in_part}

traverse_cause-layer_refusal : {E : Type 0} (fault : LayerFault)
    → traverse_cause {E = E} (layer_refusal fault) ≡ refused (layer_refusal fault)
traverse_cause-layer_refusal Checksum = refl
traverse_cause-layer_refusal FileName = refl
traverse_cause-layer_refusal (Fan byte) = refl

traverse_cause-commit_refusal : {E : Type 0} (pos : ℕ) (fault : CommitFault)
    → traverse_cause {E = E} (commit_refusal pos fault) ≡ refused (commit_refusal pos fault)
traverse_cause-commit_refusal pos NullId = refl
traverse_cause-commit_refusal pos Order = refl
traverse_cause-commit_refusal pos NullTree = refl

-- what is said of a commit's layer and its position, said of the layer and the position that they are
pub said_there : (commit : Commit) {layer : Layer} {pos : ℕ} → commit_layer commit ≡ layer → commit_pos commit ≡ pos
    → (P : Layer → ℕ → Type 0)
    → P (commit_layer commit) (commit_pos commit) → P layer pos
said_there commit {layer} {pos} in_layer at P said =
    subst (λ (l : Layer). P l pos) in_layer (subst (λ (p : ℕ). P (commit_layer commit) p) at said)

-- the commit stands at its position in its layer
pub stands_there : (commit : Commit) {layer : Layer} {pos : ℕ} → commit_layer commit ≡ layer → commit_pos commit ≡ pos
    → InLayer layer pos commit
stands_there commit in_layer at = λ i. (in_layer i, at i)

-- its parents are few, as those of its layer are
pub few_there : (commit : Commit) {layer : Layer} → commit_layer commit ≡ layer → HasFew layer.edges
    → length (commit_parents commit).positions < 2 ^ 32
few_there commit in_layer few =
    few_parents (commit_layer commit) (commit_record commit) (subst (λ (l : Layer). HasFew l.edges) (sym in_layer) few)

-- a call on a reference to a commit is one on the commit at its position in its layer
pub called_there : {F E : Type 0} (processor : Mut F (Bor Commit × Unit {0}) (Result (Unit {0}) E)) (shown : Bor Commit) (f g : F)
    (answer : Result (Unit {0}) E)
    → Called processor f (shown, tt) answer g
    → CalledOn processor (InLayer (commit_layer shown.now)) f (commit_pos shown.now) answer g
called_there processor shown f g answer called =
    record { commit = shown.now; stands = refl; called = record { shown = shown; shows = refl; called = called } }

-- the check of one commit
module _ {F E : Type 0} (processor : Mut F (Bor Commit × Unit {0}) (Result (Unit {0}) E)) (layer : Layer) (pos : ℕ) (f : F) where
  pub refused_by_ids : (fault : CommitFault) → commit_fault layer pos ≡ Some fault
      → StopsBy (CalledOn processor (InLayer layer)) (traverse_points_at {E = E} layer pos) f f
      (traverse_cause (commit_refusal pos fault))
  refused_by_ids fault some = rw traverse_cause-commit_refusal
      (refused_at_check _ _ f _ _ f (commit_refusal pos fault) (ap (option_map (commit_refusal pos)) some) (reached_start _ _ f))

  module _ (right : None ≡ commit_fault layer pos) where
    reached_call : Reaches (CalledOn processor (InLayer layer)) (traverse_points_at {E = E} layer pos) f
        (call pos ∷ check (parent_refusal layer pos) ∷ []) f
    reached_call = reached_past_check _ _ f _ _ f (ap (option_map (commit_refusal {E = E} pos)) (sym right)) (reached_start _ _ f)

    pub stopped_by_processor : (e : E) (h : F) → CalledOn processor (InLayer layer) f pos (Err e) h
        → StopsAtCall (CalledOn processor (InLayer layer)) (traverse_points_at {E = E} layer pos) f h pos e
    stopped_by_processor e h called = stopped_at_call _ _ f pos e _ f h called reached_call

    module _ (h : F) (accepted : CalledOn processor (InLayer layer) f pos (Ok tt) h) where
      reached_parents : Reaches (CalledOn processor (InLayer layer)) (traverse_points_at {E = E} layer pos) f
          (check (parent_refusal layer pos) ∷ []) h
      reached_parents = reached_past_call _ _ f pos _ f h accepted reached_call

      pub refused_by_parents : (e : ParentError) → (parents_of (record_at layer pos) layer.edges).fault ≡ Some e
          → IsRefused (CalledOn processor (InLayer layer)) (traverse_points_at {E = E} layer pos) f h
          (error.Parent (record { 0 = pos }) e)
      refused_by_parents e some =
          refused_at_check _ _ f _ _ h _ (ap (option_map (error.Parent (record { 0 = pos }))) some) reached_parents

      pub passed_commit : (parents_of (record_at layer pos) layer.edges).fault ≡ None
          → PassesAll (CalledOn processor (InLayer layer)) (traverse_points_at {E = E} layer pos) f h
      passed_commit none =
          let decoded : parent_refusal {E = E} layer pos ≡ None = ap (option_map (error.Parent (record { 0 = pos }))) none in
          passed _ _ f h (reached_past_check _ _ f _ _ h decoded reached_parents)

module _ {E : Type 0} (layer : Layer) where
  -- the points of the commits from a position on
  abbrev pub points_from : ℕ → List (Point (TraverseError E))
  points_from pos = flat_map (traverse_points_at layer) (range_with_len pos (length layer.ids - pos))

  points_from-start : flat_map (traverse_points_at {E = E} layer) (range_with_len 0 (length layer.ids)) ≡ points_from 0
  points_from-start = let all : length layer.ids ≡ length layer.ids - 0 = omega arith in
      ap (λ (n : ℕ). flat_map (traverse_points_at layer) (range_with_len 0 n)) all

  points_from-commit : (pos : ℕ) → pos < length layer.ids
      → points_from pos ≡ traverse_points_at layer pos ++ points_from (pos + 1)
  points_from-commit pos inside =
      let more : length layer.ids - pos ≡ suc (length layer.ids - (pos + 1)) = omega (arith, inside) in
      ap (λ (n : ℕ). flat_map (traverse_points_at layer) (range_with_len pos n)) more

  points_from-end : (pos : ℕ) → length layer.ids ≤ pos → points_from pos ≡ []
  points_from-end pos past =
      let none : length layer.ids - pos ≡ 0 = omega (arith, past) in
      ap (λ (n : ℕ). flat_map (traverse_points_at layer) (range_with_len pos n)) none

-- the check of the whole layer
module _ {F E : Type 0} (processor : Mut F (Bor Commit × Unit {0}) (Result (Unit {0}) E)) (layer : Layer) (f : F) where
  -- The check has come to the commit at a position, behind calls that took the processor from f to g.
  abbrev pub ReachesCommit : ℕ → F → Type 0
  ReachesCommit pos g = Reaches (CalledOn processor (InLayer layer)) (traverse_points {E = E} layer) f (points_from layer pos) g

  pub reached_first : None ≡ layer_fault layer → ReachesCommit 0 f
  reached_first none =
      let reached =
      reached_past_check (CalledOn processor (InLayer layer)) (traverse_points {E = E} layer) f _ _ f
      (ap (option_map (layer_refusal {E = E})) (sym none)) (reached_start _ _ f) in
      subst (λ (rest : List (Point (TraverseError E))). Reaches (CalledOn processor (InLayer layer))
      (traverse_points {E = E} layer) f rest f) (points_from-start layer) reached

  pub reached_end : (pos : ℕ) (g : F) → length layer.ids ≤ pos → ReachesCommit pos g
      → PassesAll (CalledOn processor (InLayer layer)) (traverse_points {E = E} layer) f g
  reached_end pos g past reached =
      passed _ _ f g
      (subst (λ (rest : List (Point (TraverseError E))). Reaches (CalledOn processor (InLayer layer))
      (traverse_points {E = E} layer) f rest g) (points_from-end layer pos past) reached)

  -- the commit that stands at a position, and its own check, from g to h
  module _ (commit : Commit) (pos : ℕ) (in_layer : commit_layer commit ≡ layer) (at : commit_pos commit ≡ pos)
      (inside : pos < length layer.ids) (g h : F) (reached : ReachesCommit pos g) where
    at_commit : Reaches (CalledOn processor (InLayer layer)) (traverse_points {E = E} layer) f
        (traverse_points_at layer pos ++ points_from layer (pos + 1)) g
    at_commit =
        subst (λ (rest : List (Point (TraverseError E))). Reaches (CalledOn processor (InLayer layer))
        (traverse_points {E = E} layer) f rest g) (points_from-commit layer pos inside) reached

    pub stops_at_commit : (stop : Cause (TraverseError E) E)
        → StopsBy (CalledOn processor (InLayer (commit_layer commit)))
        (traverse_points_at (commit_layer commit) (commit_pos commit)) g h stop
        → StopsBy (CalledOn processor (InLayer layer)) (traverse_points layer) f h stop
    stops_at_commit stop stopped = stops_in_part _ _ f (traverse_points_at layer pos) (points_from layer (pos + 1)) g h at_commit
        stop
        (said_there commit in_layer at (λ l p. StopsBy (CalledOn processor (InLayer l)) (traverse_points_at l p) g h stop)
        stopped)

    pub reached_next : PassesAll (CalledOn processor (InLayer (commit_layer commit)))
        (traverse_points_at {E = E} (commit_layer commit) (commit_pos commit)) g h → ReachesCommit (pos + 1) h
    reached_next passes = reached_past_part _ _ f (traverse_points_at layer pos) (points_from layer (pos + 1)) g h at_commit
        (said_there commit in_layer at (λ l p. PassesAll (CalledOn processor (InLayer l)) (traverse_points_at {E = E} l p) g h)
        passes)
