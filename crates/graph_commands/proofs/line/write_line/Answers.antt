-- What is written is the line that was made.
use Rattle.graph_commands.proofs.Appended.{appends_made}
use Rattle.graph_commands.proofs.line.write_line.Goals as goal

pub returns-in_ok-write_all-in-Ok : goal.returns-in_ok-write_all-in-Ok
returns-in_ok-write_all-in-Ok g c = record {
  written =
      appends_made (λ s. s.bytes) _ c.new-line.result c.writeln.new.self _ _ c.new-line.ensures c.in-Ok.ensures.writes
      (rw (c.as_bytes.ensures.value, c.as_str.ensures.value) at c.in_ok-write_all-in-Ok.ensures.bytes);
}
