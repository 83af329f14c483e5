-- The lines of the ids so far are added.
use Rattle.std.proofs.Common.{take}
use Rattle.std.specs.List.{flat_map}
use Rattle.std.specs.Io.KnownBytes.{Appends}
use Rattle.graph_commands.specs.Buffer.{with_buffer}
use Rattle.answer_lines.specs.AnswerLines.{id_line}
use Rattle.answer_lines.proofs.push.push_ids.Given as goal

abbrev pub invariant-loop-id : goal.invariant-loop-id
invariant-loop-id g l =
    Appends (with_buffer (g.W.Write.contents l.fn.writer) l.fn.buffer) (with_buffer (g.W.Write.contents l.writer) l.buffer)
    (flat_map id_line (take l.id-index l.ids))
