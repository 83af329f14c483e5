-- The lines of the bases so far are added.
use Rattle.std.proofs.Common.{take}
use Rattle.std.specs.Io.KnownBytes.{Appends}
use Rattle.std.specs.List.{flat_map, zip}
use Rattle.graph_commands.specs.Buffer.{with_buffer}
use Rattle.answer_lines.specs.AnswerLines.{line_of_base}
use Rattle.answer_lines.proofs.push.push_base_lines.Given as goal

abbrev pub invariant-loop-place : goal.invariant-loop-place
invariant-loop-place g l =
    Appends (with_buffer (g.W.Write.contents l.fn.writer) l.fn.buffer) (with_buffer (g.W.Write.contents l.writer) l.buffer)
    (flat_map line_of_base (take l.place (zip l.bases l.ids)))
