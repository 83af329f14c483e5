use Rattle.std.proofs.Common.{◌∙◌, sym, arith}
use Rattle.gix_chunk_core.proofs.FirstFaultLemmas.{first_below-none, first_below-none_more, first_below-found}
use Rattle.graph_format.specs.Faults.{wrong_fan}
use Rattle.graph_format.specs.declared.fault.LayerFault.TheVariants.{Fan}
use Rattle.graph_layer.proofs.FirstByteLemmas.{ids_below-zero, ids_below-next, ids_up_to-small, sum-is, wrong-at, right-at}
use Rattle.graph_layer.proofs.file.File.wrong_byte.Goals as goal

pub loop-byte-init : goal.loop-byte-init
loop-byte-init c =
    record { sum = sym (ids_below-zero c.args.self.now.ids); right = first_below-none (wrong_fan c.args.self.now) }

pub overflow_add-ids : goal.overflow_add-ids
overflow_add-ids c =
    let ids = c.args.self.now.ids in
    let byte = c.loop-byte.byte in
    omega (
      arith,
      sum-is ids c.loop-byte.ids _ byte c.loop-byte.invariant.sum
          (c.first_bytes.ensures.counts byte c.loop-byte-test.true),
      ids_up_to-small byte ids,
      c.first_bytes.ensures.few,
    )

pub returns-then-fan_number-ids : goal.returns-then-fan_number-ids
returns-then-fan_number-ids c =
    let layer = c.args.self.now in
    let byte = c.loop-byte.byte in
    sym
    (first_below-found (wrong_fan layer) byte 256 (Fan byte) c.loop-byte.invariant.right
    (wrong-at layer byte _ _ c.fan_number.ensures.number
    (sum-is layer.ids c.loop-byte.ids _ byte c.loop-byte.invariant.sum
    (c.first_bytes.ensures.counts byte c.loop-byte-test.true)) c.if-fan_number-ids.true)
    c.loop-byte-test.true)

pub loop-byte-preserved : goal.loop-byte-preserved
loop-byte-preserved c =
    let layer = c.args.self.now in
    let byte = c.loop-byte.byte in
    let sum =
    sum-is layer.ids c.loop-byte.ids _ byte c.loop-byte.invariant.sum
    (c.first_bytes.ensures.counts byte c.loop-byte-test.true) in
    record {
      sum = sum ∙ sym (ids_below-next byte layer.ids);
      right = first_below-none_more (wrong_fan layer) byte c.loop-byte.invariant.right
          (right-at layer byte _ _ c.fan_number.ensures.number sum c.if-fan_number-ids.false);
    }
