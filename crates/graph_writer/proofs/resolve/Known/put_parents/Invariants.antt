use Rattle.std.proofs.Common.{◌≡◌, ◌+◌, ◌<◌, ℕ, [], Some, All, false, length, map, take, get_or}
use Rattle.graph_format.specs.Lookup.{scan}
use Rattle.graph_writer.specs.Known.{is_unknown_to, all_ids}
use Rattle.graph_writer.proofs.resolve.Known.put_parents.Given as goal

abbrev pub invariant-loop-number : goal.invariant-loop-number
invariant-loop-number g l = record {
  known : (k : ℕ) → k < l.number → is_unknown_to l.self (get_or l.commit.parents.items k []) ≡ false;
  within : All (λ p. p < l.self.start + length l.self.commits.now) l.positions.items;
  ids : map (λ p. Some p) l.positions.items ≡ map (scan (all_ids l.self)) (take l.number l.commit.parents.items);
}
