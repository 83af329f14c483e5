-- Where the check of a layer's base ids names no fault.
use Rattle.std.proofs.Common.{◌≡◌, ℕ, ◌<◌, ◌≤◌, not, List, [], map, length, take, get_or, slice_get, Some, None, sym, ap, ◌∙◌}
use Rattle.std.proofs.Common.{arith}
use Rattle.std.specs.Prelude.{◌↔◌}
use Rattle.std.proofs.lemmas.Bool.{not-false, eqb-true, eq-eqb}
use Rattle.std.proofs.lemmas.List.{length-map, length-take-le, get_or_default, get_or-take, take-map, same_lists}
use Rattle.std.proofs.lemmas.Option.{slice_get_within, unwrap_or-slice_get}
use Rattle.std.proofs.lemmas.Slice.Eq.{bytes_eq-Decides}
use Rattle.gix_chunk_core.proofs.FirstFaultLemmas.{option_or-none, then_some-false, first_below-none_at, first_below-none_from}
use Rattle.gix_chunk_core.proofs.FirstFaultLemmas.{otherwise-none, when-none}
use Rattle.graph_format.specs.Layer.{Layer}
use Rattle.gix_commitgraph.specs.Verify.{base_at, checksum_at, base_refusal, base_ids_refusal}

-- the checksums of layers
abbrev pub checksums : List Layer → List (List ℕ)
checksums layers = map (λ layer. layer.checksum) layers

-- a base id and a checksum as what stands in their lists
base_at-is : (layer : Layer) (j : ℕ) → base_at layer j ≡ get_or layer.bases j []
base_at-is layer j = unwrap_or-slice_get layer.bases j []

checksum_at-is : (layers : List Layer) (j : ℕ) → checksum_at layers j ≡ get_or (checksums layers) j []
checksum_at-is layers j = unwrap_or-slice_get (checksums layers) j []

bases-from_each : (layers : List Layer) (i : ℕ) (layer : Layer) → i ≤ length layers → length layer.bases ≡ i
    → ((j : ℕ) → j < i → base_at layer j ≡ checksum_at layers j) → layer.bases ≡ checksums (take i layers)
bases-from_each layers i layer fits count each =
    let all : length (checksums layers) ≡ length layers = length-map layers (λ (l : Layer). l.checksum) in
    let some : length (take i (checksums layers)) ≡ i = length-take-le i (checksums layers) (omega arith) in
    same_lists layer.bases (take i (checksums layers)) (count ∙ sym some) (λ k d within.
    let below : k < i = omega arith in
    get_or_default layer.bases k d [] within
    ∙ sym (base_at-is layer k)
    ∙ each k below
    ∙ checksum_at-is layers k
    ∙ get_or_default (checksums layers) k [] d (omega arith)
    ∙ sym (get_or-take i (checksums layers) k d below))
    ∙ take-map (λ (l : Layer). l.checksum) i layers

each-from_bases : (layers : List Layer) (i : ℕ) (layer : Layer) → layer.bases ≡ checksums (take i layers) → (j : ℕ) → j < i
    → base_at layer j ≡ checksum_at layers j
each-from_bases layers i layer same j below =
    base_at-is layer j
    ∙ ap (λ (ids : List (List ℕ)). get_or ids j []) (same ∙ sym (take-map (λ (l : Layer). l.checksum) i layers))
    ∙ get_or-take i (checksums layers) j [] below
    ∙ sym (checksum_at-is layers j)

module _ {E : Type 0} where
  -- the base ids of layer i are the checksums of the layers before it
  pub bases-iff : (layers : List Layer) (i : ℕ) (layer : Layer) → slice_get layers i ≡ Some layer
      → (base_ids_refusal {E = E} layers i layer ≡ None) ↔ (layer.bases ≡ map (λ l. l.checksum) (take i layers))
  bases-iff layers i layer here =
      let inside : i < length layers = slice_get_within layers i layer here in (
        λ h.
            let parts = otherwise-none _ _ h in
            bases-from_each layers i layer (omega arith) (eqb-true _ _ (not-false _ (when-none _ _ parts.0))) (λ j below.
            (bytes_eq-Decides _ _).0
            (not-false _ (when-none _ _ (first_below-none_at (base_refusal {E = E} layers i layer) j i parts.1 below)))),
        λ same.
            let count : length layer.bases ≡ i = ap length same ∙ length-map (take i layers) (λ (l : Layer). l.checksum)
            ∙ length-take-le i layers (omega arith) in
            option_or-none _ _ (then_some-false _ _ (ap not (eq-eqb _ _ count)))
            (first_below-none_from (base_refusal {E = E} layers i layer) i (λ j below.
            then_some-false _ _ (ap not ((bytes_eq-Decides _ _).1 (each-from_bases layers i layer same j below))))),
      )
