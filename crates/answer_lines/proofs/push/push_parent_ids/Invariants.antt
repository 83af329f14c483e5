-- The parents so far are added.
use Rattle.std.proofs.Common.{◌++◌, take}
use Rattle.std.specs.Prelude.{codes}
use Rattle.std.specs.Io.KnownBytes.{Appends}
use Rattle.std.specs.List.{flat_map}
use Rattle.graph_commands.specs.Buffer.{with_buffer}
use Rattle.answer_lines.specs.AnswerLines.{parent_text}
use Rattle.answer_lines.proofs.push.push_parent_ids.Given as goal

abbrev pub invariant-loop-id : goal.invariant-loop-id
invariant-loop-id g l =
    Appends (with_buffer (g.W.Write.contents l.fn.writer) l.fn.buffer) (with_buffer (g.W.Write.contents l.writer) l.buffer)
    (codes "parents" ++ flat_map parent_text (take l.id-index l.ids))
