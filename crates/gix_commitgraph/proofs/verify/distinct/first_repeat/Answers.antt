use Rattle.std.proofs.Common.{◌≡◌, ◌+◌, ◌≤◌, Some, true, false, length, slice_get, bytes_eq, refl, sym, ap, ◌∙◌, arith}
use Rattle.std.proofs.lemmas.Option.{slice_get_read, slice_get_within}
use Rattle.std.proofs.lemmas.Slice.Eq.{bytes_eq-Decides}
use Rattle.gix_hash_core.specs.Oid.{oid_bytes}
use Rattle.gix_commitgraph.specs.declared.verify.distinct.IdPlace.{IdPlace}
use Rattle.gix_commitgraph.proofs.lookup.IdPlaceLemmas.{same-place, repeats-more}
use Rattle.gix_commitgraph.proofs.verify.distinct.first_repeat.Goals as goal
use Rattle.gix_commitgraph.proofs.verify.distinct.first_repeat.Goals.{then-eq, else-eq}

pub loop-place-preserved : goal.loop-place-preserved
loop-place-preserved c =
    let places = c.args.places.now in
    let index = c.loop-place.place-index in
    let item = c.place-item.result in
    let here : slice_get places index ≡ Some item =
    slice_get_read places (length places) index item refl (omega arith) c.place-item.is in
    elim c.if-eq.branch [
      | then-eq w ↦
          let lower : c.if-eq.first ≤ c.loop-place.first = omega (arith, w.first-is, w.min-first.ensures) in
          record {
            within = omega (arith, lower, c.loop-place.invariant.within);
            last = λ k place at_k is.
                ap (λ (p : IdPlace). Some p.id) (same-place places k index item place here (omega (arith, is)) at_k);
            before = repeats-more places index c.loop-place.first c.if-eq.first item here lower c.loop-place.invariant.before
                (λ k place is at_k same. omega (arith, w.first-is, w.min-first.ensures));
          }
      | else-eq w ↦
          record {
            within = omega (arith, w.first-is, c.loop-place.invariant.within);
            last = λ k place at_k is.
                ap (λ (p : IdPlace). Some p.id) (same-place places k index item place here (omega (arith, is)) at_k);
            before = repeats-more places index c.loop-place.first c.if-eq.first item here (omega (arith, w.first-is))
                c.loop-place.invariant.before
                (λ k place is at_k same.
                let known = c.loop-place.invariant.last k place at_k is in
                let not_same : bytes_eq (oid_bytes place.id) (oid_bytes item.id) ≡ false =
                rw known at (sym c.eq.ensures ∙ w.if-eq.false) in
                let yes : bytes_eq (oid_bytes place.id) (oid_bytes item.id) ≡ true =
                (bytes_eq-Decides (oid_bytes place.id) (oid_bytes item.id)).1 (sym same) in
                let clash : true ≡ false = sym yes ∙ not_same in cc);
          }
    ]

pub returns : goal.returns
returns c = record {
  within = c.loop-place.invariant.within;
  before = λ k place next at_k at_next same.
      c.loop-place.invariant.before k place next
      (omega (arith, slice_get_within c.args.places.now (k + 1) next at_next))
      at_k at_next same;
}
