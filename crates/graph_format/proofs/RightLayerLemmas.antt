-- Where the check of a layer as a whole names no fault.
use Rattle.std.proofs.Common.{◌≡◌, not, None, ap}
use Rattle.std.specs.Prelude.{◌↔◌}
use Rattle.std.proofs.lemmas.Bool.{not-false, eqb-true, eq-eqb}
use Rattle.std.proofs.lemmas.Slice.Eq.{bytes_eq-Decides}
use Rattle.gix_chunk_core.specs.FirstFault.{first_below}
use Rattle.gix_chunk_core.proofs.FirstFaultLemmas.{option_or-none, then_some-false, first_below-none_at, first_below-none_from}
use Rattle.gix_chunk_core.proofs.FirstFaultLemmas.{otherwise-none, when-none}
use Rattle.gix_hash_core.specs.Digest.{digest_of}
use Rattle.graph_format.specs.Layer.{Layer}
use Rattle.graph_format.specs.Order.{IsExactFan}
use Rattle.graph_format.specs.NameRule.{KeepsNameRule}
use Rattle.graph_format.specs.Faults.{wrong_fan, layer_fault}
use Rattle.graph_format.proofs.NameRuleLemmas.{is_named_right-iff}

-- the fan is exact
fan-iff : (layer : Layer) → (first_below (wrong_fan layer) 256 ≡ None) ↔ IsExactFan layer.fan layer.ids
fan-iff layer = (
  λ h byte below. eqb-true _ _ (not-false _ (when-none _ _ (first_below-none_at (wrong_fan layer) byte 256 h below))),
  λ exact. first_below-none_from (wrong_fan layer) 256
      (λ byte below. then_some-false _ _ (ap not (eq-eqb _ _ (exact byte below)))),
)

-- What the check of a layer as a whole looks for.
pub record IsRightWhole (layer : Layer) : Type 0 where
  pub checksum : layer.checksum ≡ digest_of layer.kind layer.body
  pub name : KeepsNameRule layer.path layer.checksum
  pub fan : IsExactFan layer.fan layer.ids

pub layer_fault-iff : (layer : Layer) → (layer_fault layer ≡ None) ↔ IsRightWhole layer
unfolding layer_fault
layer_fault-iff layer = (
  λ h.
      let checksum = otherwise-none _ _ h in
      let name = otherwise-none _ _ checksum.1 in
      record {
        checksum = (bytes_eq-Decides _ _).0 (not-false _ (when-none _ _ checksum.0));
        name = (is_named_right-iff layer.path layer.checksum).0 (not-false _ (when-none _ _ name.0));
        fan = (fan-iff layer).0 name.1;
      },
  λ right.
      option_or-none _ _ (then_some-false _ _ (ap not ((bytes_eq-Decides _ _).1 right.checksum)))
      (option_or-none _ _ (then_some-false _ _ (ap not ((is_named_right-iff layer.path layer.checksum).1 right.name)))
      ((fan-iff layer).1 right.fan)),
)
