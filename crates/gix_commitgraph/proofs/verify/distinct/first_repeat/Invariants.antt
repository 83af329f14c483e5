use Rattle.std.proofs.Common.{◌≡◌, ℕ, ◌+◌, ◌<◌, ◌≤◌, Some, length, slice_get}
use Rattle.gix_hash_core.specs.Oid.{oid_bytes}
use Rattle.gix_commitgraph.specs.declared.verify.distinct.IdPlace.{IdPlace}
use Rattle.gix_commitgraph.proofs.verify.distinct.first_repeat.Given as goal

abbrev pub invariant-loop-place : goal.invariant-loop-place
invariant-loop-place l = record {
  within : l.first ≤ length l.places;
  last : (k : ℕ) (place : IdPlace) → slice_get l.places k ≡ Some place → k + 1 ≡ l.place-index → l.before ≡ Some place.id;
  before : (k : ℕ) (place next : IdPlace) → k + 1 < l.place-index → slice_get l.places k ≡ Some place
      → slice_get l.places (k + 1) ≡ Some next → oid_bytes next.id ≡ oid_bytes place.id
      → l.first ≤ next.pos.0;
}
