-- How many commits a check calls on where it goes on above some layers, and a processor that counts them.
use Rattle.std.proofs.Common.{◌≡◌, ℕ, zero, suc, ◌+◌, ◌-◌, ◌^◌, ◌<◌, ◌≤◌, min, List, [], ◌∷◌, length, drop, refl}
use Rattle.std.proofs.Common.{sym, ap, ◌∙◌, arith, length-append, lit≤}
use Rattle.std.specs.List.{FoldsTo, flat_map, enumerate_from}
use Rattle.std.proofs.lemmas.List.FromFn.{length-range_with_len}
use Rattle.std.proofs.lemmas.List.Sums.{sum_by-cons}
use Rattle.graph_format.specs.Layer.{Layer}
use Rattle.graph_format.specs.Points.{Point, calls}
use Rattle.graph_format.proofs.CallRangeLemmas.{calls-range}
use Rattle.graph_format.proofs.PointLemmas.{calls-append}
use Rattle.gix_commitgraph.specs.Graph.{start, total}
use Rattle.gix_commitgraph.specs.Verify.{commit_points, layer_points, points_from}
use Rattle.gix_commitgraph.specs.declared.verify.VerifyError.{VerifyError}
use Rattle.gix_commitgraph.specs.declared.verify.VerifyOptions.{VerifyOptions}
use Rattle.gix_commitgraph.proofs.layers.LayerListLemmas.{size}

-- steps that each count one more, up to what 32 bits hold, and leave something else as it was
pub counted : {F A N : Type 0} (R : F → A → F → Type 0) (value : F → ℕ) (name : F → N)
    → ((f : F) (x : A) (g : F) → R f x g → (value g ≡ min (value f + 1) (2 ^ 32 - 1)) × (name g ≡ name f))
    → (xs : List A) (f g : F) → FoldsTo R f xs g → value f + length xs < 2 ^ 32
    → (value g ≡ value f + length xs) × (name g ≡ name f)
counted R value name more [] f g steps few = (omega (arith, ap value steps), sym (ap name steps))
counted R value name more (x ∷ xs) f g steps few =
    let one = more f x steps.0 steps.1 in
    let first : value steps.0 ≡ value f + 1 = omega (arith, one.0, few) in
    let rest = counted R value name more xs steps.0 g steps.2 (omega (arith, first, few)) in
    (omega (arith, first, rest.0), rest.1 ∙ one.1)

pub total-drop : (layers : List Layer) (n : ℕ) → total (drop n layers) ≤ total layers
total-drop [] zero = lit≤ tt
total-drop [] (suc n) = lit≤ tt
total-drop (layer ∷ layers) zero = omega arith
total-drop (layer ∷ layers) (suc n) = omega (arith, total-drop layers n, sum_by-cons size layer layers)

module _ (E : Type 0) (options : VerifyOptions) (layers : List Layer) where
  calls-layer : (i : ℕ) (layer : Layer) → length (calls (layer_points {E = E} options layers i layer)) ≡ size layer
  calls-layer i layer =
      ap length (calls-range (commit_points options layers i layer) (start layers i) (λ pos. refl) 0 (size layer))
      ∙ length-range_with_len (start layers i + 0) (size layer)

  calls-rest : (rest : List Layer) (i : ℕ)
      → length (calls (flat_map (λ e. layer_points {E = E} options layers e.0 e.1) (enumerate_from i rest))) ≡ total rest
  calls-rest [] i = refl
  calls-rest (layer ∷ rest) i =
      let first : List (Point (VerifyError E)) = layer_points {E = E} options layers i layer in
      let later : List (Point (VerifyError E)) =
      flat_map (λ e. layer_points {E = E} options layers e.0 e.1) (enumerate_from (i + 1) rest) in
      let of_first : length (calls first) ≡ size layer = calls-layer i layer in
      let of_later : length (calls later) ≡ total rest = calls-rest rest (i + 1) in
      let all : total (layer ∷ rest) ≡ size layer + total rest = sum_by-cons size layer rest in
      ap length (calls-append first later)
      ∙ length-append (calls first) (calls later)
      ∙ omega (arith, of_first, of_later, all)

  -- the calls of a check that goes on from layer i
  pub calls-above : (i : ℕ) → length (calls (points_from {E = E} options layers i)) ≡ total (drop i layers)
  calls-above i = calls-rest (drop i layers) i
