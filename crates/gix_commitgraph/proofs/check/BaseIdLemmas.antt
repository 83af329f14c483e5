-- laws of the base ids of a layer
use Rattle.std.proofs.Common.{◌≡◌, ℕ, List, [], Bool, true, not, ◌==◌, length, Option, Some, option_map, unwrap_or, bytes_eq}
use Rattle.std.proofs.Common.{slice_get, refl, sym, ap, ◌∙◌}
use Rattle.std.proofs.lemmas.Bool.{eq-eqb}
use Rattle.std.proofs.lemmas.Option.{slice_get-map}
use Rattle.gix_chunk_core.specs.FirstFault.{◌when◌, first_below}
use Rattle.graph_format.specs.Layer.{Layer}
use Rattle.gix_commitgraph.specs.Verify.{base_at, checksum_at, base_refusal, base_ids_refusal}
use Rattle.gix_commitgraph.specs.declared.verify.VerifyError.{VerifyError}
use Rattle.gix_commitgraph.specs.declared.verify.VerifyError.TheVariants.{BaseId}

base_at-is : (layer : Layer) (j : ℕ) (id : List ℕ) → slice_get layer.bases j ≡ Some id → base_at layer j ≡ id
base_at-is layer j id here = ap (λ (o : Option (List ℕ)). unwrap_or o []) here

checksum_at-is : (layers : List Layer) (j : ℕ) (below : Layer) → slice_get layers j ≡ Some below
    → checksum_at layers j ≡ below.checksum
checksum_at-is layers j below there =
    ap (λ (o : Option (List ℕ)). unwrap_or o []) (slice_get-map (λ (l : Layer). l.checksum) layers j
    ∙ ap (option_map (λ (l : Layer). l.checksum)) there)

-- whether a base id differs from the checksum of its layer
pub base-tested : {E : Type 0} (layers : List Layer) (i j : ℕ) (layer below : Layer) (id checksum : List ℕ) (differ : Bool)
    → slice_get layer.bases j ≡ Some id → slice_get layers j ≡ Some below → checksum ≡ below.checksum
    → differ ≡ not (bytes_eq id checksum)
    → base_refusal {E = E} layers i layer j ≡ (BaseId i j when differ)
base-tested {E} layers i j layer below id checksum differ here there is test =
    let refusal : Bool → Option (VerifyError E) = λ b. BaseId i j when b in
    ap refusal
    (ap (λ (a : List ℕ). not (bytes_eq a (checksum_at layers j))) (base_at-is layer j id here)
    ∙ ap (λ (b : List ℕ). not (bytes_eq id b)) (checksum_at-is layers j below there ∙ sym is)
    ∙ sym test)

-- where they are as many as the layers below, the first that differs decides
pub bases-counted : {E : Type 0} (layers : List Layer) (i : ℕ) (layer : Layer) → length layer.bases ≡ i
    → base_ids_refusal {E = E} layers i layer ≡ first_below (base_refusal layers i layer) i
bases-counted {E} layers i layer counted =
    let test : (length layer.bases == i) ≡ true = eq-eqb _ _ counted in
    rw test refl
