use Rattle.std.proofs.Common.{◌≡◌, ◌≤◌, ◌-◌, Some, slice_get}
use Rattle.tree_requests.specs.TakenTree.{AreRequestLines, IsBehind}
use Rattle.tree_requests.specs.StoredTrees.{AreStored}
use Rattle.tree_requests.proofs.asker.Asker.fetch.Given as goal

abbrev pub invariant-loop-self : goal.invariant-loop-self
invariant-loop-self g l = record {
  kind : l.self.requests.kind ≡ l.fn.self.requests.kind;
  number : slice_get l.self.requests.asked l.number ≡ Some l.fn.id;
  waits : l.self.requests.taken ≤ l.number;
  behind : IsBehind g.E.Exchange.stream l.self.requests (g.R.Read.remaining l.self.reader);
  lines : AreRequestLines g.E.Exchange.written (g.W.Write.contents l.self.writer);
  stored : AreStored l.fn.self.requests.kind g.E.Exchange.stream l.self.store.bytes.items l.self.store.spans;
}

abbrev pub decreases-loop-self : goal.decreases-loop-self
decreases-loop-self g l = l.number - l.self.requests.taken
