-- What is added is the items so far, joined.
use Rattle.std.proofs.Common.{◌≡◌}
use Rattle.std.specs.Prelude.{codes}
use Rattle.std.specs.List.{join_by}
use Rattle.std.specs.Io.KnownBytes.{Appends}
use Rattle.graph_commands.specs.Buffer.{with_buffer}
use Rattle.graph_commands.specs.Listing.{item_text}
use Rattle.graph_commands.proofs.BufferLemmas.{has_some}
use Rattle.graph_commands.proofs.listing.push_parents.Given as goal

abbrev pub invariant-loop-item : goal.invariant-loop-item
invariant-loop-item g l = record {
  written :
      Appends (with_buffer (g.W.Write.contents l.initial.writer) l.initial.buffer)
      (with_buffer (g.W.Write.contents l.writer) l.buffer)
      (join_by item_text (codes ",") l.yielded);
  any : l.any ≡ has_some l.yielded;
}
