-- How the check of a graph goes over the points of its layers.
use Rattle.std.proofs.Common.{◌≡◌, ℕ, ◌+◌, ◌≤◌, false, List, [], ◌++◌, length, Some, Result, nat_lt, slice_get, refl, ap}
use Rattle.std.proofs.Common.{subst}
use Rattle.std.specs.List.{flat_map, enumerate_from}
use Rattle.std.specs.Fn.{Mut}
use Rattle.std.proofs.lemmas.Bool.{le-ltb}
use Rattle.std.proofs.lemmas.List.{drop_all}
use denote.Ref.{Bor}
use Rattle.gix_chunk_core.specs.FirstFault.{◌when◌}
use Rattle.graph_format.specs.Layer.{Layer}
use Rattle.graph_layer.specs.Called.{CalledOn}
use Rattle.gix_commitgraph.specs.InGraph.{InGraph}
use Rattle.graph_format.specs.Points.{Point, Cause, StopsBy, PassesAll}
use Rattle.gix_commitgraph.specs.Verify.{layer_points, layer_points_from, points_from}
use Rattle.graph_layer.specs.declared.file.commit.Commit.{Commit}
use Rattle.gix_commitgraph.specs.declared.verify.VerifyError.{VerifyError}
use Rattle.gix_commitgraph.specs.declared.verify.VerifyOptions.{VerifyOptions}
use Rattle.gix_commitgraph.specs.declared.verify.VerifyError.TheVariants as error
use Rattle.graph_format.proofs.PointLemmas.{Reaches, reached_start, reached_past_check, passed, reached_past_part, stops_in_part}
use Rattle.graph_layer.proofs.ElementLemmas.{drop-next}

pub layer_points_from-next : {E : Type 0} (options : VerifyOptions) (layers : List Layer) (i : ℕ) (layer : Layer)
    → slice_get layers i ≡ Some layer
    → layer_points_from {E = E} options layers i ≡ layer_points options layers i layer ++ layer_points_from options layers (i + 1)
layer_points_from-next {E} options layers i layer there =
    let from : List Layer → List (Point (VerifyError E)) =
    λ rest. flat_map (λ e. layer_points options layers e.0 e.1) (enumerate_from i rest) in
    ap from (drop-next layers i layer there)

layer_points_from-end : {E : Type 0} (options : VerifyOptions) (layers : List Layer) (i : ℕ) → length layers ≤ i
    → layer_points_from {E = E} options layers i ≡ []
layer_points_from-end {E} options layers i past =
    let from : List Layer → List (Point (VerifyError E)) =
    λ rest. flat_map (λ e. layer_points options layers e.0 e.1) (enumerate_from i rest) in
    ap from (drop_all i layers past)

-- A graph, layer by layer, from one on.
module _ {F E : Type 0} (processor : Mut F (Bor Commit × Unit {0}) (Result (Unit {0}) E)) (options : VerifyOptions)
    (layers : List Layer) (first : ℕ) (f : F) where
  -- The check has come to layer i.
  abbrev pub ReachesLayer : ℕ → F → Type 0
  ReachesLayer i g =
      Reaches (CalledOn processor (InGraph layers)) (points_from {E = E} options layers first) f
      (layer_points_from options layers i) g

  pub reached_layers : length layers ≤ 256 → ReachesLayer first f
  reached_layers few =
      let test : nat_lt 256 (length layers) ≡ false = le-ltb _ _ few in
      reached_past_check (CalledOn processor (InGraph layers)) (points_from {E = E} options layers first) f
      (error.TooManyFiles when nat_lt 256 (length layers)) (layer_points_from options layers first) f (rw test refl)
      (reached_start _ _ f)

  module _ (i : ℕ) (layer : Layer) (there : slice_get layers i ≡ Some layer) (g h : F) (reached : ReachesLayer i g) where
    at_layer : Reaches (CalledOn processor (InGraph layers)) (points_from {E = E} options layers first) f
        (layer_points options layers i layer ++ layer_points_from options layers (i + 1)) g
    at_layer = rw (layer_points_from-next options layers i layer there) at reached

    pub stops_in_layer : (s : Cause (VerifyError E) E)
        → StopsBy (CalledOn processor (InGraph layers)) (layer_points options layers i layer) g h s
        → StopsBy (CalledOn processor (InGraph layers)) (points_from {E = E} options layers first) f h s
    stops_in_layer s r =
        stops_in_part _ _ f (layer_points options layers i layer) (layer_points_from options layers (i + 1)) g h at_layer s r

    pub reached_next_layer : PassesAll (CalledOn processor (InGraph layers)) (layer_points {E = E} options layers i layer) g h
        → ReachesLayer (i + 1) h
    reached_next_layer passes =
        reached_past_part _ _ f (layer_points options layers i layer) (layer_points_from options layers (i + 1)) g h at_layer
        passes

  -- behind the last layer the graph is passed
  pub graph_passed : (i : ℕ) (g : F) → length layers ≤ i → ReachesLayer i g
      → PassesAll (CalledOn processor (InGraph layers)) (points_from {E = E} options layers first) f g
  graph_passed i g past reached =
      let P : List (Point (VerifyError E)) → Type 0 =
      λ rest. Reaches (CalledOn processor (InGraph layers)) (points_from {E = E} options layers first) f rest g in
      passed _ _ f g (subst P (layer_points_from-end options layers i past) reached)
