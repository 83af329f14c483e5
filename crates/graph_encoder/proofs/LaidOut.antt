-- The file of a plan is in Git's layout.
use Rattle.std.proofs.Common.{◌≡◌, ℕ, zero, suc, ◌*◌, ◌<◌, ◌≤◌, List, [], ◌∷◌, ◌++◌, length, All, IfSome, slice_get}
use Rattle.std.proofs.Common.{Option, Some, get_or, sym, ap, ◌∙◌, subst, arith}
use Rattle.std.specs.Prelude.{codes, slice_index}
use Rattle.std.proofs.lemmas.List.{length-map}
use Rattle.std.proofs.lemmas.Option.{none-some, same_Some, slice_get-get_or, slice_get_within}
use Rattle.graph_format.specs.Format.{Record, fan_id, ids_id, records_id, edges_id, bases_id}
use Rattle.graph_format.specs.Layer.{Layer, IsLayer}
use Rattle.graph_format.specs.Parents.{DecodedParents, parents_of}
use Rattle.graph_format.specs.declared.Position.{Position}
use Rattle.graph_format.proofs.DecidedFileLemmas.{only}
use Rattle.graph_encoder.specs.Chunks.{NamedChunk, those_there, unless_empty, with_chunks}
use Rattle.graph_encoder.specs.ExtraEdges.{all_extra_words, no_parent, second_field, top_bit}
use Rattle.graph_encoder.specs.GitLayout.{HasWords, IsInGitLayout, chunks_in_order}
use Rattle.graph_encoder.specs.Plan.{IsPlan, IsPlannedCommit}
use Rattle.graph_encoder.specs.Said.{planned_parents}
use Rattle.graph_encoder.specs.Written.{header, ids_bytes, ids_of, planned_body, planned_chunks, planned_file, words_bytes}
use Rattle.graph_encoder.specs.declared.plan.FilePlan.{FilePlan}
use Rattle.graph_encoder.specs.declared.plan.PlanCommit.{PlanCommit}
use Rattle.graph_encoder.proofs.GitLayout.{same-nine, some-and, there}
use Rattle.graph_encoder.proofs.Pieces.{All-first, All-others, length-words_bytes}
use Rattle.graph_encoder.proofs.PlannedFile.{chunk_of-planned, digest_in}
use Rattle.graph_encoder.proofs.PlannedLayer.{is-planned, planned_layer, says-planned}
use Rattle.graph_encoder.proofs.PlannedRecords.{index_after, length-planned_records, planned_record, planned_records}

words-of : (bytes : List ℕ) (n : ℕ) → length bytes ≡ 4 * n → IfSome (unless_empty bytes) HasWords
words-of [] n long = tt
words-of (byte ∷ bytes) n long = record { some = omega arith; count = n; whole = long }

some-of : (bytes : List ℕ) → IfSome (unless_empty bytes) (λ chunk. 0 < length chunk)
some-of [] = tt
some-of (byte ∷ bytes) = omega arith

record-at : (n : ℕ) (commits : List PlanCommit) (i : ℕ) (c : PlanCommit) → slice_get commits i ≡ Some c
    → (m : ℕ) × (slice_get (planned_records n commits) i ≡ Some (planned_record m c))
record-at n [] i c here = absurd (none-some c here)
record-at n (x ∷ commits) zero c here = (n, ap (λ (y : PlanCommit). Some (planned_record n y)) (same_Some x c here))
record-at n (x ∷ commits) (suc i) c here = record-at (index_after n x) commits i c here

-- up to two parents need no extra words
second-low : (index : ℕ) (ps : List ℕ) → All (λ p. p < no_parent) ps → length ps ≤ 2 → second_field index ps < top_bit
second-low index [] fit few = omega arith
second-low index (first ∷ []) fit few = omega arith
second-low index (first ∷ second ∷ []) fit few =
    omega (arith, All-first (λ p. p < no_parent) second [] (All-others (λ p. p < no_parent) first (second ∷ []) fit))
second-low index (first ∷ second ∷ third ∷ more) fit few = absurd (omega (arith, few))

module _ (plan : FilePlan) (path : List ℕ) (fits : IsPlan plan) where
  chunks-laid : chunks_in_order (planned_file plan) ≡ planned_chunks plan
  chunks-laid =
      ap those_there
      (same-nine _ _ _ _ _ _ _ _ _ _ _ _ _ _ _ _ _ _ (chunk_of-planned plan fan_id fits) (chunk_of-planned plan ids_id fits)
      (chunk_of-planned plan records_id fits) (chunk_of-planned plan (codes "GDA2") fits)
      (chunk_of-planned plan (codes "GDO2") fits) (chunk_of-planned plan edges_id fits)
      (chunk_of-planned plan (codes "BIDX") fits) (chunk_of-planned plan (codes "BDAT") fits)
      (chunk_of-planned plan bases_id fits))

  laid : planned_file plan
      ≡ with_chunks (header plan.kind (length (chunks_in_order (planned_file plan))) (length plan.bases.items))
      (chunks_in_order (planned_file plan))
      ++ digest_in plan
  unfolding planned_file planned_body
  laid =
      sym
      (ap (λ (cs : List NamedChunk). with_chunks (header plan.kind (length cs) (length plan.bases.items)) cs ++ digest_in plan)
      chunks-laid)

  direct : All (λ r. length (parents_of r (planned_layer plan path).edges).positions ≤ 2 → r.parent2 < top_bit)
      (planned_layer plan path).records
  direct i d lt few =
      let c = there plan.commits.items i (omega (arith, lt, length-planned_records 0 plan.commits.items)) in
      let at = record-at 0 plan.commits.items i c.0 c.1 in
      let found = some-and _ _ ((says-planned plan path fits).commits i c.0 c.1) in
      let read = slice_get-get_or (planned_records 0 plan.commits.items) i d lt in
      let is : get_or (planned_records 0 plan.commits.items) i d ≡ planned_record at.0 c.0 =
      same_Some _ (planned_record at.0 c.0) (sym read ∙ at.1) in
      let same : found.0 ≡ get_or (planned_records 0 plan.commits.items) i d =
      same_Some found.0 _ (sym found.1 ∙ read) in
      let parents : parents_of (get_or (planned_records 0 plan.commits.items) i d) (planned_layer plan path).edges
      ≡ planned_parents c.0.parents.items =
      ap (λ (r : Record). parents_of r (planned_layer plan path).edges) (sym same) ∙ found.2.parents in
      let count : length (parents_of (get_or (planned_records 0 plan.commits.items) i d)
      (planned_layer plan path).edges).positions ≡ length c.0.parents.items =
      ap (λ (x : DecodedParents). length x.positions) parents
      ∙ length-map c.0.parents.items (λ (p : ℕ). let pos : Position = record { 0 = p } in pos) in
      let low = second-low at.0 c.0.parents.items (planned-at i c.0 c.1).parents (omega (arith, few, count)) in
      subst (λ (r : Record). r.parent2 < top_bit) (sym is) low
    where
      planned-at : (k : ℕ) (x : PlanCommit) → slice_get plan.commits.items k ≡ Some x → IsPlannedCommit plan.kind x
      planned-at k x e =
          let inside = slice_get_within plan.commits.items k x e in
          subst (IsPlannedCommit plan.kind) (same_Some _ x (sym (slice_get-get_or plan.commits.items k x inside) ∙ e))
          (fits.commits k x inside)

  pub in-layout : ((i : ℕ) → slice_index (planned_file plan) i < 256)
      → IsInGitLayout (planned_file plan) (planned_layer plan path)
  in-layout bytes = record {
    bytes = bytes;
    laid = laid;
    edges =
        subst (λ (o : Option (List ℕ)). IfSome o HasWords) (sym (chunk_of-planned plan edges_id fits))
        (words-of (words_bytes (all_extra_words plan.commits.items)) (length (all_extra_words plan.commits.items))
        (length-words_bytes (all_extra_words plan.commits.items)));
    bases =
        subst (λ (o : Option (List ℕ)). IfSome o (λ chunk. 0 < length chunk)) (sym (chunk_of-planned plan bases_id fits))
        (some-of (ids_bytes plan.bases.items));
    direct = direct;
  }

pub laid-out : (plan : FilePlan) (path : List ℕ) (layer : Layer) → IsPlan plan
    → All (λ id. slice_index id 0 < 256) (ids_of plan.commits.items) → ((i : ℕ) → slice_index (planned_file plan) i < 256)
    → IsLayer (planned_file plan) path layer → IsInGitLayout (planned_file plan) layer
laid-out plan path layer fits ids bytes is =
    let same : planned_layer plan path ≡ layer =
    only (planned_file plan) path (planned_layer plan path) (is-planned plan path fits ids)
    ∙ sym (only (planned_file plan) path layer is) in
    subst (IsInGitLayout (planned_file plan)) same (in-layout plan path fits bytes)
