-- What is added is the lines so far.
use Rattle.std.proofs.Common.{◌++◌, map}
use Rattle.std.specs.List.{flat_map}
use Rattle.std.specs.Io.KnownBytes.{Appends}
use Rattle.gix_hash_core.specs.Oid.{oid_bytes}
use Rattle.graph_layer.specs.Commit.{layer_and_position}
use Rattle.graph_commands.specs.Buffer.{with_buffer}
use Rattle.graph_commands.specs.Listing.{layer_line, base_line}
use Rattle.graph_commands.specs.PositionLines.{position_line}
use Rattle.graph_commands.proofs.listing.write_listing.Given as goal

abbrev pub invariant-loop-base : goal.invariant-loop-base
invariant-loop-base g l =
    Appends (with_buffer (g.W.Write.contents l.fn.writer) l.fn.buffer) (with_buffer (g.W.Write.contents l.writer) l.buffer)
    (layer_line l.layer ++ flat_map base_line (map oid_bytes l.yielded))

abbrev pub invariant-loop-commit : goal.invariant-loop-commit
invariant-loop-commit g l =
    Appends (with_buffer (g.W.Write.contents l.fn.writer) l.fn.buffer) (with_buffer (g.W.Write.contents l.writer) l.buffer)
    ((layer_line l.layer ++ flat_map base_line l.layer.bases) ++ flat_map position_line (map layer_and_position l.yielded))
