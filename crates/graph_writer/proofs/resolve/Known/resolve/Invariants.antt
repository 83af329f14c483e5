use Rattle.std.proofs.Common.{◌≡◌, ◌+◌, ◌<◌, ◌≤◌, ℕ, Some, All, length, slice_get, take}
use Rattle.std.specs.Prelude.{vec_len, vec_capacity}
use Rattle.graph_levels.specs.ParentLists.{commit_count, parent_list}
use Rattle.graph_writer.specs.Known.{all_ids}
use Rattle.graph_writer.specs.NewCommits.{AreFirst}
use Rattle.graph_writer.specs.NewLayers.{times_in_order}
use Rattle.graph_writer.specs.declared.commit.NewCommit.{NewCommit}
use Rattle.graph_writer.proofs.positions.KnownSteps.{AreFoundTo}
use Rattle.graph_writer.proofs.resolve.Known.resolve.Given as goal

abbrev pub invariant-loop-place : goal.invariant-loop-place
invariant-loop-place g l = record {
  count : commit_count l.lists ≡ l.place;
  within : (p : ℕ) → p < l.place → All (λ q. q < l.self.start + length l.self.commits.now) (parent_list l.lists p);
  ids : (p : ℕ) → p < l.place → (i : ℕ) (commit : NewCommit) → slice_get l.self.order.now p ≡ Some i
      → slice_get l.self.commits.now i ≡ Some commit → AreFirst (all_ids l.self) (parent_list l.lists p) commit.parents.items;
  found : AreFoundTo l.self l.place;
  times : l.times.items ≡ times_in_order l.self.commits.now (take l.place l.self.order.now);
  timed : vec_len l.times ≡ l.place;
  room : length l.self.order.now ≤ vec_capacity l.times;
}
