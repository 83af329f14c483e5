use Rattle.std.proofs.Common.{◌≡◌, ◌+◌, ◌-◌, ◌/◌, ◌^◌, ◌<◌, slice_index, sym, ap, ◌∙◌, arith}
use Rattle.gix_hash_core.specs.Kind.{id_len}
use Rattle.graph_format.specs.Lookup.{bucket_size}
use Rattle.graph_layer.proofs.BucketLemmas.{view-other_len}
use Rattle.graph_format.proofs.DigitLemmas.{digits-enough, digits-lower}
use Rattle.graph_layer.proofs.LookupLemmas.{stands_within-bucket, left-bucket, left-before, left-after, left-position}
use Rattle.graph_layer.proofs.LookupLemmas.{found-equal, found-none, found-other_len}
use Rattle.graph_format.proofs.LayoutLemmas.{view-kind}
use Rattle.graph_layer.proofs.file.File.lookup_of_kind.Goals as goal
use Rattle.graph_layer.proofs.file.File.lookup_of_kind.Goals.{in-Less, in-Greater}

pub returns-then-len_in_bytes-size-clause-found : goal.returns-then-len_in_bytes-size-clause-found
returns-then-len_in_bytes-size-clause-found c =
    let kept = c.shared-shared.ensures in
    found-other_len _ _ (view-other_len _ _ _ _ _ kept.layout kept.layer (λ same. c.if-len_in_bytes-size.true
    (c.len_in_bytes.ensures ∙ ap id_len (view-kind _ _ _ _ kept.layout kept.layer) ∙ sym same ∙ c.requires
    ∙ sym c.len_in_bytes-size.ensures)))

pub loop-left-init : goal.loop-left-init
loop-left-init c =
    let byte : slice_index c.as_bytes-wanted.result.now 0 < 256 = omega (arith, c.type_inv.wanted 0) in
    record {
      left =
          rw c.as_slice-bytes.ensures
          (left-bucket _ _ _ _ _ _ _ _ c.shared-shared.ensures.layout c.shared-shared.ensures.layer
          (sym c.if-len_in_bytes-size.false ∙ c.len_in_bytes.ensures
          ∙ ap id_len (view-kind _ _ _ _ c.shared-shared.ensures.layout c.shared-shared.ensures.layer)) c.bucket-low.ensures.order
          c.bucket-low.ensures.within
          (rw (c.bucket-low.ensures.start, c.bucket-low.ensures.end) (stands_within-bucket _ _ byte)));
      counted = rw (c.bucket-low.ensures.start, c.bucket-low.ensures.end) (omega arith);
    }

pub overflow_mul-middle : goal.overflow_mul-middle
overflow_mul-middle c =
    omega (
      arith,
      c.loop-left.invariant.left.fits (c.loop-left.left / 2) (omega (arith, c.loop-left-test.true)),
      c.as_slice-bytes.type_inv,
    )

pub overflow_add-middle : goal.overflow_add-middle
overflow_add-middle c =
    omega (
      arith,
      c.loop-left.invariant.left.fits (c.loop-left.left / 2) (omega (arith, c.loop-left-test.true)),
      c.as_slice-bytes.type_inv,
    )

-- one comparison, and half is left
pub overflow_add-comparisons : goal.overflow_add-comparisons
overflow_add-comparisons c =
    let size = bucket_size c.args.self.now.fan (slice_index c.as_bytes-wanted.result.now 0) in
    let small : size < 2 ^ 32 = omega (arith, c.bucket-low.type_inv) in
    omega (
      arith,
      c.loop-left.invariant.counted,
      digits-lower c.loop-left.left 0 (omega (arith, c.loop-left-test.true)) (omega arith),
      digits-enough size 32 small,
    )

pub overflow_add-other : goal.overflow_add-other
overflow_add-other c =
    omega (
      arith,
      c.loop-left.invariant.left.fits (c.loop-left.left / 2) (omega (arith, c.loop-left-test.true)),
      c.as_slice-bytes.type_inv,
    )

pub slice_bounds-other-end : goal.slice_bounds-other-end
slice_bounds-other-end c =
    omega (
      arith,
      c.loop-left.invariant.left.fits (c.loop-left.left / 2) (omega (arith, c.loop-left-test.true)),
    )

pub overflow_sub-pos : goal.overflow_sub-pos
overflow_sub-pos c = omega (arith, c.loop-left.invariant.left.begins)

pub overflow_cast-result : goal.overflow_cast-result
overflow_cast-result c =
    omega (
      arith,
      left-position (c.loop-left.left / 2) c.loop-left.invariant.left,
      c.loop-left.invariant.left.below,
      c.loop-left-test.true,
      c.bucket-low.type_inv,
    )

pub returns-in-Equal-clause-found : goal.returns-in-Equal-clause-found
returns-in-Equal-clause-found c =
    rw (left-position (c.loop-left.left / 2) c.loop-left.invariant.left, ← c.as_bytes-wanted.ensures.bytes)
    (found-equal _ _ _ _
    (c.loop-left.invariant.left.each (c.loop-left.left / 2) (omega (arith, c.loop-left-test.true)))
    (sym c.in-Equal.ensures))

pub returns-in-Equal-clause-most : goal.returns-in-Equal-clause-most
returns-in-Equal-clause-most c =
    rw (← c.as_bytes-wanted.ensures.bytes)
    (omega (
      arith,
      c.loop-left.invariant.counted,
      digits-lower c.loop-left.left 0 (omega (arith, c.loop-left-test.true)) (omega arith),
    ))

pub loop-left-preserved : goal.loop-left-preserved
loop-left-preserved c =
    let half = c.loop-left.left / 2 in
    let some : half < c.loop-left.left = omega (arith, c.loop-left-test.true) in
    let there = c.loop-left.invariant.left.each half some in
    let rest : (c.loop-left.left - 1) / 2 ≡ c.loop-left.left - (half + 1) = omega (arith, some) in
    let fewer = digits-lower c.loop-left.left in
    elim c.match-compare_ids.branch [
      | in-Less w ↦
          rw (w.first-is, w.left-is)
          (record {
            left = left-before half c.loop-left.invariant.left some there (sym w.in-Less.ensures);
            counted = omega (arith, c.loop-left.invariant.counted, fewer half (omega (arith, some)) (omega arith));
          })
      | in-Greater w ↦
          rw (w.first-is, w.left-is, rest)
          (record {
            left = left-after half c.loop-left.invariant.left some there (sym w.in-Greater.ensures);
            counted = omega (
              arith,
              c.loop-left.invariant.counted,
              fewer (c.loop-left.left - (half + 1)) (omega (arith, some)) (omega arith),
            );
          })
    ]

pub returns-clause-found : goal.returns-clause-found
returns-clause-found c =
    rw (← c.as_bytes-wanted.ensures.bytes)
    (found-none _ _ _ _ c.loop-left.invariant.left.stands (omega (arith, c.loop-left-test.false)))

pub returns-clause-most : goal.returns-clause-most
returns-clause-most c = rw (← c.as_bytes-wanted.ensures.bytes) (omega (arith, c.loop-left.invariant.counted))
