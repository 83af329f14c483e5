use Rattle.std.proofs.Common.{◌≡◌, ℕ, ◌+◌, ◌<◌, ◌^◌, All, Some, length, slice_get, slice_index}
use Rattle.graph_levels.specs.OnTop.{level_at}
use Rattle.graph_writer.proofs.plan.offsets_of.Given as goal

abbrev pub invariant-loop-place : goal.invariant-loop-place
invariant-loop-place l = record {
  as_many : length l.offsets.items ≡ l.place;
  fit : All (λ offset. offset < 2 ^ 64) l.offsets.items;
  each : (p offset : ℕ) → slice_get l.offsets.items p ≡ Some offset
      → offset + slice_index l.times p ≡ (level_at l.levels p).date;
}
