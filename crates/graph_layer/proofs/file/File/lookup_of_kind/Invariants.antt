use Rattle.std.proofs.Common.{◌+◌, ◌≤◌, slice_index}
use Rattle.graph_format.specs.Lookup.{bucket_size, digits}
use Rattle.graph_layer.proofs.LookupLemmas.{AreLeft}
use Rattle.graph_layer.proofs.file.File.lookup_of_kind.Given as goal

abbrev pub invariant-loop-left : goal.invariant-loop-left
invariant-loop-left l = record {
  left : AreLeft l.bytes l.self l.wanted l.ids l.size l.high l.first l.left;
  counted : l.comparisons + digits l.left ≤ digits (bucket_size l.self.fan (slice_index l.wanted 0));
}

abbrev pub decreases-loop-left : goal.decreases-loop-left
decreases-loop-left l = l.left
