use Rattle.std.proofs.Common.{◌≡◌, ℕ, ◌<◌, [], length}
use Rattle.commit_search.specs.Marks.{marked_at}
use Rattle.commit_search.proofs.words.WordMarks.clear.Given as goal

abbrev pub invariant-loop-layer : goal.invariant-loop-layer
invariant-loop-layer l = record {
  long : length l.self.layers.items ≡ l.layer-end;
  cleared : (i : ℕ) → i < l.layer → marked_at l.self.layers.items i ≡ [];
}
