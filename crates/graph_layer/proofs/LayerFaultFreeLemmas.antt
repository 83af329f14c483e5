-- The check of a layer names no fault exactly where the layer is right and its commits' parents can be decoded.
use Rattle.std.proofs.Common.{◌≡◌, ℕ, ◌<◌, length, None, refl, sym, ◌∙◌, subst, arith}
use Rattle.std.specs.Prelude.{◌↔◌}
use Rattle.std.proofs.lemmas.List.{get_or_default}
use Rattle.graph_format.specs.Format.{Record}
use Rattle.graph_format.specs.Layer.{Layer, no_record, record_at}
use Rattle.graph_format.specs.Layer.{IsOpened}
use Rattle.graph_format.specs.Parents.{parents_of}
use Rattle.graph_format.specs.Points.{first_fault}
use Rattle.graph_format.specs.RightLayer.{AreParentsDecoded, IsSoundLayer}
use Rattle.graph_layer.specs.Traverse.{traverse_points_at, traverse_points}
use Rattle.graph_format.specs.Faults.{layer_fault, commit_fault}
use Rattle.graph_format.proofs.FaultFreeLemmas.{check-none, range-none}
use Rattle.graph_format.proofs.LayerHistoryLemmas.{IsPaired, opened_is_paired}
use Rattle.graph_format.proofs.CommitFaultFreeLemmas.{record_at-get_or, commit_faults-iff}
use Rattle.graph_format.proofs.FaultFreeLemmas.{option_map-none}
use Rattle.graph_format.proofs.RightLayerLemmas.{layer_fault-iff}

-- the parents of the commit at a position can be decoded
abbrev IsDecodedAt : Layer → Record → Type 0
IsDecodedAt layer r = (parents_of r layer.edges).fault ≡ None

decoded-iff : (layer : Layer) → IsPaired layer → ((pos : ℕ) → pos < length layer.ids → IsDecodedAt layer (record_at layer pos))
    ↔ AreParentsDecoded layer
decoded-iff layer paired = (
  λ h k d within.
      subst (IsDecodedAt layer) (record_at-get_or layer k ∙ get_or_default layer.records k no_record d within)
      (h k (omega arith)),
  λ decoded pos within. subst (IsDecodedAt layer) (sym (record_at-get_or layer pos)) (decoded pos no_record (omega arith)),
)

-- no condition on a commit fails
abbrev IsPassedCommit : Layer → ℕ → Type 0
IsPassedCommit layer pos = (commit_fault layer pos ≡ None) × IsDecodedAt layer (record_at layer pos)

module _ {E : Type 0} where
  traverse_points_at-iff : (layer : Layer) (pos : ℕ) → (first_fault (traverse_points_at {E = E} layer pos) ≡ None)
      ↔ IsPassedCommit layer pos
  traverse_points_at-iff layer pos = (
    λ h.
        let ids = (check-none _ _).0 h in
        let parents = (check-none _ _).0 ids.1 in
        ((option_map-none _ (commit_fault layer pos)).0 ids.0, (option_map-none _ _).0 parents.0),
    λ passed.
        (check-none _ _).1 (
          (option_map-none _ (commit_fault layer pos)).1 passed.0,
          (check-none _ _).1 ((option_map-none _ _).1 passed.1, refl),
        ),
  )

  pub traverse_points-iff : (layer : Layer) → IsOpened layer
      → (first_fault (traverse_points {E = E} layer) ≡ None) ↔ IsSoundLayer layer
  traverse_points-iff layer opened =
      let paired = opened_is_paired layer opened in
      let each = range-none (traverse_points_at {E = E} layer) (length layer.ids) in (
        λ h.
            let parts = (check-none _ _).0 h in
            let whole = (layer_fault-iff layer).0 ((option_map-none _ (layer_fault layer)).0 parts.0) in
            let passed : (pos : ℕ) → pos < length layer.ids → IsPassedCommit layer pos = λ pos within.
            (traverse_points_at-iff layer pos).0 (each.0 parts.1 pos within) in
            let ids = (commit_faults-iff layer paired).0 (λ pos within. (passed pos within).0) in
            record {
              right = record {
                checksum = whole.checksum;
                name = whole.name;
                ascending = ids.ascending;
                ids = ids.ids;
                trees =
                    ids.trees;
                fan = whole.fan;
              };
              decoded = (decoded-iff layer paired).0 (λ pos within. (passed pos within).1);
            },
        λ sound.
            let right = sound.right in
            let whole = (layer_fault-iff layer).1 (record { checksum = right.checksum; name = right.name; fan = right.fan }) in
            let ids =
            (commit_faults-iff layer paired).1
            (record { ascending = right.ascending; ids = right.ids; trees = right.trees }) in
            let decoded = (decoded-iff layer paired).1 sound.decoded in
            (check-none _ _).1 (
              (option_map-none _ (layer_fault layer)).1 whole,
              each.1 (λ pos within. (traverse_points_at-iff layer pos).1 (ids pos within, decoded pos within)),
            ),
      )
