-- The word and the positions so far are added.
use Rattle.std.proofs.Common.{◌++◌, take}
use Rattle.std.specs.Prelude.{codes}
use Rattle.std.specs.List.{flat_map}
use Rattle.std.specs.Io.KnownBytes.{Appends}
use Rattle.graph_commands.specs.Ancestor.{step_text}
use Rattle.graph_commands.specs.Buffer.{with_buffer}
use Rattle.graph_commands.proofs.ancestor.write_walk.Given as goal

abbrev pub invariant-loop-position : goal.invariant-loop-position
invariant-loop-position g l =
    Appends (with_buffer (g.W.Write.contents l.fn.writer) l.fn.buffer) (with_buffer (g.W.Write.contents l.writer) l.buffer)
    (codes "walk" ++ flat_map step_text (take l.position-index l.walk))
